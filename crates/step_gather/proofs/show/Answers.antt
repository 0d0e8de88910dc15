-- `show` meets its contract. Assumes nothing.
use Prim.Native.Nat.{◌+◌, ◌*◌, ◌<◌}
use mathlib.Core.Path.{◌≡◌, refl, sym, ap, ◌∙◌}
use mathlib.Core.List.{List, map}
use native.Mathlib.Omega.{arith}
use lib.ListN.{length, get_or, length-map, get_or-map}
use Rattle.step_slots.specs.Slots.{Slot}
use Rattle.step_slots.specs.Views.{no_slot, slot_at, slots_at}
use Rattle.step_slots.proofs.SlotBytes.{slots-count}
use Rattle.step_gather.specs.Gathering.{shown_as}
use Rattle.step_gather.proofs.Filling.{filled_none, filled_next, filled_all, filled_same, slot_of}
use Rattle.step_gather.proofs.show.Goals as goal
use Rattle.step_gather.proofs.show.Goals.{Start}

-- what is shown
abbrev one : Start → Slot → Slot
one c = shown_as (slots_at c.args.heap.now.store.now 64 c.args.heap.now.count)

abbrev ts : Start → List Slot
ts c = slots_at c.args.slots.now c.args.at c.args.n

shown_length : (c : Start) → c.args.n ≡ length (map (one c) (ts c))
shown_length c = sym (length-map (ts c) (one c) ∙ slots-count c.args.slots.now c.args.at c.args.n)

pub loop-j-init : goal.loop-j-init
loop-j-init c = filled_none _ _ _

pub show_one-requires : goal.show_one-requires
show_one-requires c = (omega arith, omega (arith, filled_same c.loop-j.invariant))

pub loop-j-preserved : goal.loop-j-preserved
loop-j-preserved c =
    let s = (goal.at.loop-j-preserved c).Start in
    let h = c.loop-j-test.true in
    let k : c.loop-j.j < length (map (one s) (ts s)) = omega (arith, h, shown_length s) in
    let t = slot_at c.args.slots.now (c.args.at + 16 * c.loop-j.j) in
    let e : t ≡ get_or (ts s) c.loop-j.j no_slot = sym (slot_of c.args.slots.now c.args.at c.args.n c.loop-j.j h) in
    let q : one s t ≡ get_or (map (one s) (ts s)) c.loop-j.j (one s no_slot) = ap (one s) e ∙ sym (get_or-map (one s) (ts s) c.loop-j.j no_slot) in
    filled_next c.loop-j.invariant (one s no_slot) (one s t) k q (record { holds = c.show_one.ensures; ends = refl })

pub shape_of-events : goal.shape_of-events
shape_of-events c = filled_same c.loop-j.invariant

pub returns : goal.returns
returns c = filled_all c.loop-j.invariant c.args.n (shown_length (goal.at.returns c).Start) c.loop-j-test.false
