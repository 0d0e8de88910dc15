use Rattle.std.proofs.Common.{take, ◌∙◌}
use Rattle.scope_places.proofs.EnterLaws.{in_scope}
use Rattle.scope_places.proofs.scoping.contains.Goals as goal

pub returns : goal.returns
returns c = c.contains.ensures.value ∙ in_scope c.args.id (take c.args.scope.now.n c.args.scope.now.ids.now)
