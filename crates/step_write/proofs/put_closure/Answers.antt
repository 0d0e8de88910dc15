use Prim.Native.Nat.{ℕ, ◌+◌, ◌*◌}
use mathlib.Core.Path.{◌≡◌, refl, ap, ◌∙◌}
use mathlib.Core.List.{List}
use native.Mathlib.Omega.{arith}
use lib.ListN.{length, take, drop}
use lib.Seq.{sets}
use Rattle.step_slots.specs.Slots.{slot_bytes, as_slot}
use Rattle.step_write.proofs.Regions.{taken-before, taken-length, closure-bytes}
use Rattle.step_write.proofs.put_closure.Goals as goal

pub returns : goal.returns
returns c =
    let a = c.args in
    let s = a.store.now in
    let X = take (16 * a.n) (drop a.at s) in
    let x : length X ≡ 16 * a.n = taken-length s a.at (16 * a.n) (omega (arith, c.requires)) in
    let e₁ = c.move_up.ensures in
    let e₂ = c.move_up-2.ensures
    ∙ ap (λ (z : List ℕ). sets z (a.at + 16) (take (16 * a.n) (drop a.at z))) e₁
    ∙ ap (λ (z : List ℕ). sets (sets s (a.at + 16 * (a.n + 2)) X) (a.at + 16) z) (taken-before X (16 * a.n) a.at s (a.at + 16 * (a.n + 2)) (omega arith)) in
    let e₃ = c.put_slot.ensures.holds ∙ ap (λ (z : List ℕ). sets z a.at (slot_bytes (as_slot a.head))) e₂ in
    c.put_slot-2.ensures.holds ∙ (ap (λ (z : List ℕ). sets z (a.at + 16 * (a.n + 1)) (slot_bytes (as_slot a.var))) e₃
    ∙ closure-bytes s (slot_bytes (as_slot a.head)) X (slot_bytes (as_slot a.var)) a.at a.n refl x refl)
