-- `adds` meets its contract. Assumes nothing.
use mathlib.Core.Path.{sym, ap, ◌∙◌}
use mathlib.Core.Bool.{not}
use Rattle.syntax.specs.Sets.{elem}
use Rattle.step_rows.specs.Placing.{identified}
use Rattle.step_rows.specs.Rows.{ids_of}
use Rattle.step_rows.proofs.DistinctLaws.{distinct-last}
use Rattle.step_order.proofs.ListLaws.{and_both, and_not}
use Rattle.step_order.proofs.list.adds.Goals as goal

-- where the row's IDs are distinct, the ID must not be among them
pub returns-then-is_distinct : goal.returns-then-is_distinct
returns-then-is_distinct c =
    let a = c.args in
    and_both c.is_distinct.ensures c.if-is_distinct.true (ap not c.has.ensures) ∙ sym (distinct-last (ids_of a.list.now.row) (identified a.id))

pub returns-else-is_distinct : goal.returns-else-is_distinct
returns-else-is_distinct c =
    let a = c.args in
    let l = ids_of a.list.now.row in
    c.if-is_distinct.false ∙ and_not c.is_distinct.ensures (not (elem (identified a.id) l)) c.if-is_distinct.false ∙ sym (distinct-last l (identified a.id))
