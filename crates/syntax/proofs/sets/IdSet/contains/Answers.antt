-- `IdSet::contains` meets its contract. Assumes nothing.
use mathlib.Core.Path.{◌∙◌}
use Rattle.syntax.specs.Arrays.{set_of}
use Rattle.syntax.proofs.Members.{list_any-elem}
use Rattle.syntax.proofs.sets.IdSet.contains.Goals as goal

pub returns : goal.returns
returns c = c.contains.ensures.value ∙ list_any-elem c.args.id (set_of c.args.self.now)
