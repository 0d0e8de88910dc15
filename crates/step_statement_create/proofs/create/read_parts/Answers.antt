-- `read_parts` meets its contract. Assumes nothing.
use mathlib.Core.Path.{refl, ap}
use native.Mathlib.Omega.{arith}
use Rattle.syntax.specs.declared.names.Identifier.{Identifier}
use Rattle.step_rule.proofs.Statements.{next_small}
use Rattle.step_statement_create.proofs.CreateLaws.{parts-of}
use Rattle.step_statement_create.proofs.create.read_parts.Goals as goal

pub overflow_cast-result : goal.overflow_cast-result
overflow_cast-result c = omega (arith, c.hop-body.ensures.small (next_small c.args.node.now.image.ready c.args.node.now.there))

pub returns : goal.returns
returns c =
    parts-of refl (ap (λ (x : Identifier). x.id.0) c.first-var.ensures) c.parts_of-follows.ensures c.hop-body.ensures refl
