-- `repeats` meets its contract. Assumes nothing.
use mathlib.Core.Path.{◌≡◌, sym, ap, ◌∙◌}
use mathlib.Core.Bool.{not, ◌&&◌}
use Rattle.syntax.specs.Sets.{distinct}
use Rattle.step_rows.specs.Rows.{ids_of}
use Rattle.step_rows.specs.Apart.{apart}
use Rattle.step_rows.proofs.DistinctLaws.{distinct_append}
use Rattle.step_order.proofs.ListLaws.{and_both, and_not, not_two, not_last}
use Rattle.step_order.proofs.list.repeats.Goals as goal
use Rattle.step_order.proofs.list.repeats.Goals.{Joined-not-is_distinct, then-not-is_distinct, else-not-is_distinct}

-- is an ID twice in one of the rows?
twice : (c : Joined-not-is_distinct) →
    let a = c.args in
    c.if-not-is_distinct.value ≡ not (distinct (ids_of a.list.now.row) && distinct (ids_of a.other.now))
twice c =
    let a = c.args in
    elim c.if-not-is_distinct.branch [
      | then-not-is_distinct w ↦
          let f = w.if-not-is_distinct.true in
          w.value-is ∙ ap not (f ∙ and_not c.is_distinct.ensures (distinct (ids_of a.other.now)) f)
      | else-not-is_distinct w ↦ w.value-is ∙ ap not (and_both c.is_distinct.ensures w.if-not-is_distinct.false w.distinct.ensures)
    ]

pub returns-then-not-distinct : goal.returns-then-not-distinct
returns-then-not-distinct c =
    let a = c.args in
    let xs = ids_of a.list.now.row in
    let ys = ids_of a.other.now in
    let t = twice (goal.at.returns-then-not-distinct c).Joined-not-is_distinct in
    t ∙ (not_two (distinct xs) (distinct ys) (apart xs ys) (sym t ∙ c.if-not-distinct.true) ∙ ap not (sym (distinct_append xs ys)))

pub returns-else-not-distinct : goal.returns-else-not-distinct
returns-else-not-distinct c =
    let a = c.args in
    let xs = ids_of a.list.now.row in
    let ys = ids_of a.other.now in
    let t = twice (goal.at.returns-else-not-distinct c).Joined-not-is_distinct in
    ap not c.disjoint.ensures ∙ (not_last (distinct xs) (distinct ys) (apart xs ys) (sym t ∙ c.if-not-distinct.false) ∙ ap not (sym (distinct_append xs ys)))
