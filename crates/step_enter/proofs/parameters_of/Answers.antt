-- `parameters_of` meets its contract. Assumes nothing.
use mathlib.Core.Path.{refl}
use native.Mathlib.Omega.{arith}
use Rattle.step_rule.proofs.Statements.{next_small}
use Rattle.step_enter.specs.Entering.{listed}
use Rattle.step_rows.proofs.RecordRowLaws.{list-short}
use Rattle.step_enter.proofs.parameters_of.Goals as goal

pub overflow_add-result : goal.overflow_add-result
overflow_add-result c = omega (arith, next_small c.args.node.now.image.ready c.args.node.now.there)

pub overflow_cast-result : goal.overflow_cast-result
overflow_cast-result c = omega (arith, next_small c.args.node.now.image.ready c.args.node.now.there)

pub returns : goal.returns
returns c = listed c.list_row.ensures (list-short c.list_row.result c.args.node.now.image.ready c.args.node.now.there c.requires c.list_row.ensures) refl
