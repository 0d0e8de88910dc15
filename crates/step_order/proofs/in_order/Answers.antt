-- `in_order` meets its contract. Assumes nothing.
use mathlib.Core.Path.{ap, ◌∙◌}
use mathlib.Core.List.{List}
use Rattle.syntax.specs.declared.names.VarId.{VarId}
use Rattle.image_read_parts.specs.Recorded.{record_in}
use Rattle.step_order.specs.Orderly.{orderly}
use Rattle.step_order.proofs.in_order.Goals as goal

pub returns : goal.returns
returns c = c.ordered.ensures ∙ ap (λ (l : List VarId). orderly (record_in c.args.node.now) l) c.entries_row.ensures
