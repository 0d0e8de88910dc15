-- The last of the slots that stand in bytes. Assumes nothing.
use Prim.Native.Nat.{ℕ, zero, suc, ◌+◌, ◌-◌, ◌*◌, ◌<◌}
use mathlib.Core.Path.{◌≡◌, sym, ap, ◌∙◌}
use mathlib.Core.List.{List}
use native.Mathlib.Omega.{arith}
use lib.ListN.{get_or}
use Rattle.std.specs.Prelude.{Some}
use Rattle.step_slots.specs.declared.Slot as code
use Rattle.step_slots.specs.Slots.{Slot}
use Rattle.step_slots.specs.Views.{no_slot, found_slot, slot_at, slots_at}
use Rattle.step_slots.proofs.SlotBytes.{slots-count}
use Rattle.step_slots.proofs.SlotPlaces.{slot_of}
use Rattle.step_slots.proofs.SortLaws.{sort-below}
use Rattle.step_entries.specs.Named.{last_slot}

-- the last of n slots, as it is read
pub last_none : (s : List ℕ) (at n : ℕ) → n ≡ 0 → no_slot ≡ last_slot (slots_at s at n)
unfolding slots_at
last_none s at n e = ap (λ (k : ℕ). last_slot (slots_at s at k)) (sym e)

pub last-read : (s : List ℕ) (at n : ℕ) → 0 < n → slot_at s (at + 16 * (n - 1)) ≡ last_slot (slots_at s at n)
last-read s at n h = sym (ap (λ (k : ℕ). get_or (slots_at s at n) (k - 1) no_slot) (slots-count s at n) ∙ slot_of s at n (n - 1) (omega arith))

-- where one is found, there is one
pub last_some : (s : List ℕ) (at n : ℕ) (t : code.Slot) → found_slot (Some t) ≡ last_slot (slots_at s at n) → 0 < n
last_some s at zero t e =
    let five = ap (λ (u : Slot). u.sort) (e ∙ sym (last_none s at 0 (omega arith))) in
    absurd (omega (arith, sort-below t.sort, five))
last_some s at (suc n) t e = omega arith

-- .. at its place
pub last-there : (s : List ℕ) (at n : ℕ) {u : Slot} → u ≡ last_slot (slots_at s at n) → 0 < n → u ≡ slot_at s (at + 16 * (n - 1))
last-there s at n e h = e ∙ sym (last-read s at n h)
