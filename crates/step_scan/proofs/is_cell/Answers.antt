use mathlib.Core.Path.{sym, ap, ◌∙◌}
use lib.Dec.{leb}
use Rattle.step_slots.specs.Slots.{Slot}
use Rattle.step_scan.proofs.PassLaws.{cell_at, cell-past}
use Rattle.step_scan.proofs.is_cell.Goals as goal

pub returns-then-heap-i : goal.returns-then-heap-i
returns-then-heap-i c = let a = c.args in sym (cell-past a.heap.now.store.now 64 a.heap.now.count a.p c.if-heap-i.true)

pub returns-in-Some : goal.returns-in-Some
returns-in-Some c =
    let a = c.args in
    c.begins_cell.ensures ∙ (ap (λ (t : Slot). leb 3 t.sort) c.in-Some.ensures ∙ sym (cell_at a.heap.now.store.now 64 a.heap.now.count a.p c.if-heap-i.false))

pub returns-in-None : goal.returns-in-None
returns-in-None c = let a = c.args in ap (λ (t : Slot). leb 3 t.sort) c.in-None.ensures ∙ sym (cell_at a.heap.now.store.now 64 a.heap.now.count a.p c.if-heap-i.false)
