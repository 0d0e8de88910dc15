use Prim.Native.Nat.{◌+◌, ◌≤◌}
use mathlib.Core.Path.{◌≡◌, ap, ◌∙◌}
use mathlib.Core.Bool.{Bool}
use lib.ListN.{drop, get_or}
use native.Mathlib.Omega.{arith}
use Rattle.image_spec.specs.Parse.{got, only_if}
use Rattle.step_slots.specs.Sorts.{sort_code}
use Rattle.step_slots.proofs.SortLaws.{sort-below}
use Rattle.step_slots.proofs.SlotReads.{reads-slot, reads_none, slot-sort, slot-zeros}
use Rattle.step_slots.proofs.read.Goals as goal

pub returns-in_default : goal.returns-in_default
returns-in_default c =
    let a = c.args in
    reads_none a.s.now a.at (omega arith) (slot-sort (get_or a.s.now a.at 0) (drop (a.at + 1) a.s.now) c.in_default.ensures.1)

pub returns-then-not-all_zero : goal.returns-then-not-all_zero
returns-then-not-all_zero c =
    let a = c.args in
    let s = a.s.now in
    let h : get_or s a.at 0 ≤ 4 = omega (arith, sort-below c.in-Ok.sort, c.in-Ok.ensures) in
    reads_none s a.at (omega arith)
    (slot-zeros (get_or s a.at 0) (drop (a.at + 1) s) h (c.all_zero.ensures ∙ ap (λ (b : Bool). only_if b (got tt (drop (a.at + 1 + 3) s))) c.if-not-all_zero.true))

pub returns : goal.returns
returns c =
    let a = c.args in
    let s = a.s.now in
    let e : sort_code c.in-Ok.sort ≡ get_or s a.at 0 = c.in-Ok.ensures in
    let h : get_or s a.at 0 ≤ 4 = omega (arith, sort-below c.in-Ok.sort, e) in
    let z = c.all_zero.ensures ∙ ap (λ (b : Bool). only_if b (got tt (drop (a.at + 1 + 3) s))) c.if-not-all_zero.false in
    rw e (reads-slot s a.at (omega arith) _ _ h z c.number-id.ensures c.long_at-payload.ensures)
