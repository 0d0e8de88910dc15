-- The first slots of a store: they are slots, where all are. Assumes nothing.
use Prim.Native.Nat.{ℕ, zero, suc, ◌+◌, ◌≤◌}
use mathlib.Core.Path.{◌≡◌, refl, ap, ◌∙◌}
use mathlib.Core.Bool.{true}
use mathlib.Core.List.{List, [], ◌∷◌}
use native.Mathlib.Omega.{arith}
use lib.ListN.{take}
use Rattle.image_spec.proofs.DirectoryLaws.{and_left, and_right}
use Rattle.step_slots.specs.Slots.{Slot}
use Rattle.step_slots.specs.Views.{slot_at, slots_at, is_slot, all_slots}

pub slots-take : (s : List ℕ) (at n k : ℕ) → k ≤ n → slots_at s at k ≡ take k (slots_at s at n)
unfolding slots_at
slots-take s at n zero h = refl
slots-take s at zero (suc k) h = absurd (omega arith)
slots-take s at (suc n) (suc k) h = ap (λ (ts : List Slot). slot_at s at ∷ ts) (slots-take s (at + 16) n k (omega arith))

all-slots-take : (k : ℕ) (ts : List Slot) → all_slots ts ≡ true → all_slots (take k ts) ≡ true
all-slots-take zero ts h = refl
all-slots-take (suc k) [] h = refl
all-slots-take (suc k) (t ∷ ts) h = rw (and_left (is_slot t) (all_slots ts) h) (all-slots-take k ts (and_right (is_slot t) (all_slots ts) h))

pub first-slots : (s : List ℕ) (at n k : ℕ) → k ≤ n → all_slots (slots_at s at n) ≡ true → all_slots (slots_at s at k) ≡ true
first-slots s at n k h o = ap all_slots (slots-take s at n k h) ∙ all-slots-take k (slots_at s at n) o
