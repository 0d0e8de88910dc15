use mathlib.Core.Path.{ap}
use Rattle.syntax.specs.declared.names.Identifier.{Identifier}
use Rattle.syntax.specs.declared.context.Chirality.TheVariants.{Prd}
use Rattle.model.specs.Rules.{bind}
use Rattle.pass_statement_switch.proofs.switch.matched.Goals as goal

pub returns : goal.returns
returns c = ap (λ (x : Identifier). bind x Prd c.args.ty) c.used.ensures
