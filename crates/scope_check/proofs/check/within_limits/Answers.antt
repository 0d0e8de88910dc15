-- `within_limits` meets its contract. Assumes nothing.
use Rattle.scope_check.proofs.CheckLaws.{shaped-defined, defined-stand}
use Rattle.scope_check.proofs.check.within_limits.Goals as goal

pub all_shallow-requires : goal.all_shallow-requires
all_shallow-requires c = defined-stand (shaped-defined c.args.opened.now.shaped)
