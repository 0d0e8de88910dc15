-- `shown_payload` meets its contract. Assumes nothing.
use Prim.Native.Nat.{ℕ, ◌≤◌}
use mathlib.Core.Path.{◌≡◌, ap, sym, ◌∙◌}
use native.Mathlib.Omega.{arith}
use borrow.Author.Rules.{rules}
use denote.Enum.Bare.{differs_false}
use lib.ListN.{length, get_or-eq_default}
use Rattle.step_slots.specs.contracts.sort.Sort.{the_type as sort_type}
use Rattle.step_slots.specs.declared.sort.Sort.TheVariants.{Cell}
use Rattle.step_slots.specs.Sorts.{sort_code}
use Rattle.step_slots.specs.Slots.{Slot, as_slot}
use Rattle.step_slots.specs.Views.{no_slot, slots_at}
use Rattle.step_slots.proofs.SlotBytes.{slots-count}
use Rattle.step_gather.proofs.Filling.{slot_of}
use Rattle.step_gather.proofs.Showing.{shown-cell}
use Rattle.step_gather.proofs.shown_payload.Goals as goal

-- the payload of what is shown of a slot that refers to a cell
abbrev payload : Slot → ℕ
payload t = t.payload

pub returns-then-heap-at : goal.returns-then-heap-at
returns-then-heap-at c =
    let a = c.args in
    let H = slots_at a.heap.now.store.now 64 a.heap.now.count in
    let e : a.t.sort ≡ Cell = differs_false sort_type (search rules) a.t.sort Cell (sym c.ne.ensures ∙ c.if-ne.false) in
    let h : length H ≤ a.t.payload = omega (arith, slots-count a.heap.now.store.now 64 a.heap.now.count, c.if-heap-at.true) in
    ap payload (shown-cell H (as_slot a.t) 0 (ap sort_code e) (ap payload (sym (get_or-eq_default H no_slot h))))

pub returns-in-Some : goal.returns-in-Some
returns-in-Some c =
    let a = c.args in
    let H = slots_at a.heap.now.store.now 64 a.heap.now.count in
    let e : a.t.sort ≡ Cell = differs_false sort_type (search rules) a.t.sort Cell (sym c.ne.ensures ∙ c.if-ne.false) in
    let q = c.in-Some.ensures ∙ sym (slot_of a.heap.now.store.now 64 a.heap.now.count a.t.payload c.if-heap-at.false) in
    ap payload (shown-cell H (as_slot a.t) c.in-Some.cell.payload (ap sort_code e) (ap payload q))

pub returns-in-None : goal.returns-in-None
returns-in-None c =
    let a = c.args in
    let H = slots_at a.heap.now.store.now 64 a.heap.now.count in
    let e : a.t.sort ≡ Cell = differs_false sort_type (search rules) a.t.sort Cell (sym c.ne.ensures ∙ c.if-ne.false) in
    let q = c.in-None.ensures ∙ sym (slot_of a.heap.now.store.now 64 a.heap.now.count a.t.payload c.if-heap-at.false) in
    ap payload (shown-cell H (as_slot a.t) 0 (ap sort_code e) (ap payload q))
