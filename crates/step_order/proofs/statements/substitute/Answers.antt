-- `substitute` meets its contract. Assumes nothing.
use mathlib.Core.Path.{◌≡◌, sym, ap, ◌∙◌}
use mathlib.Core.List.{List}
use Rattle.syntax.specs.Sets.{distinct}
use Rattle.syntax.specs.declared.names.VarId.{VarId}
use Rattle.model.specs.Linear.{present, targets, sources}
use Rattle.image_read_parts.specs.Recorded.{record_in}
use Rattle.image_read_parts.proofs.Indexing.{at-kind}
use Rattle.step_rows.specs.Rows.{ids_of}
use Rattle.step_rows.specs.RecordRows.{pairs_of}
use Rattle.step_order.proofs.ListLaws.{and_both, and_not}
use Rattle.step_order.proofs.OrderlyLaws.{substitute_is}
use Rattle.step_order.proofs.statements.substitute.Goals as goal
use Rattle.step_order.proofs.statements.substitute.Goals.{After-distinct}

-- what was asked of the targets
asked : (c : After-distinct) →
    let a = c.args in
    c.distinct.result ≡ distinct (targets (pairs_of (record_in a.node.now)))
asked c = c.distinct.ensures ∙ ap distinct c.target_row-targets.ensures

pub returns-then-distinct : goal.returns-then-distinct
returns-then-distinct c =
    let a = c.args in
    let l = ids_of a.row.now in
    and_both (asked (goal.at.returns-then-distinct c).After-distinct) c.if-distinct.true (c.all_present.ensures ∙ ap (λ (xs : List VarId). present xs l) c.source_row.ensures)
    ∙ sym (substitute_is (record_in a.node.now) l (at-kind a.node.now c.requires).kind)

pub returns-else-distinct : goal.returns-else-distinct
returns-else-distinct c =
    let a = c.args in
    let l = ids_of a.row.now in
    let r = record_in a.node.now in
    c.if-distinct.false ∙ and_not (asked (goal.at.returns-else-distinct c).After-distinct) (present (sources (pairs_of r)) l) c.if-distinct.false ∙ sym (substitute_is r l (at-kind a.node.now c.requires).kind)
