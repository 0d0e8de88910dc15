-- `literal` meets its contract. Assumes nothing.
use mathlib.Core.Path.{sym, ◌∙◌}
use Rattle.image_read_parts.specs.Recorded.{record_in}
use Rattle.image_read_parts.proofs.Indexing.{at-kind}
use Rattle.step_rows.specs.Rows.{ids_of}
use Rattle.step_order.proofs.OrderlyLaws.{literal_is}
use Rattle.step_order.proofs.statements.literal.Goals as goal

pub returns : goal.returns
returns c =
    let a = c.args in
    c.adds.ensures ∙ sym (literal_is (record_in a.node.now) (ids_of a.list.now.row) (at-kind a.node.now c.requires).kind c.first-var.ensures)
