-- `arrange_kept` meets its contract. Assumes nothing.
use Rattle.pass_work_spec.specs.Work.{bindings}
use Rattle.pass_context.specs.Holding.{work_of}
use Rattle.pass_arrange.proofs.PairLaws.{behind_none}
use Rattle.image_write_directory.proofs.EmitLaws.{keeps_same}
use Rattle.pass_arrange.proofs.ArrangeLaws.{arranges_nothing, arranges_as}
use Rattle.pass_arrange.proofs.arrange.arrange_kept.Goals as goal

pub returns-then-right : goal.returns-then-right
returns-then-right c = (arranges_nothing (bindings (work_of c.args.kept)) (bindings (work_of c.args.kept)) c.if-right.true, keeps_same _)

pub returns : goal.returns
returns c =
    let e = behind_none (bindings (work_of c.args.kept)) c.empty-none.ensures.list in
    (arranges_as c.args.right e e c.arrange.ensures.0, c.arrange.ensures.1)
