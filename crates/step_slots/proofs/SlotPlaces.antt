-- Slots by their places: what is left of n slots from the i-th on, the one at a place, and that slots which stand in bytes fit them. Assumes nothing.
use Prim.Native.Nat.{ℕ, zero, suc, ◌+◌, ◌-◌, ◌*◌, ◌≤◌, ◌<◌}
use mathlib.Core.Path.{◌≡◌, refl, ap, ap₂, ◌∙◌}
use mathlib.Core.Bool.{true}
use mathlib.Core.List.{List, [], ◌∷◌}
use native.Mathlib.Omega.{arith}
use lib.ListN.{drop, get_or}
use Rattle.image_spec.specs.Parse.{All}
use Rattle.image_spec.proofs.DirectoryLaws.{and_left, and_right}
use Rattle.step_slots.specs.Slots.{Slot, SlotOk}
use Rattle.step_slots.specs.Views.{no_slot, slot_at, slots_at, is_slot, all_slots}
use Rattle.step_slots.proofs.SlotBytes.{standing}

pub slots-drop : (s : List ℕ) (at n i : ℕ) → drop i (slots_at s at n) ≡ slots_at s (at + 16 * i) (n - i)
unfolding slots_at
slots-drop s at n zero = let k : at ≡ at + 16 * 0 = omega arith in let m : n ≡ n - 0 = omega arith in ap₂ {C = List Slot} (λ (a b : ℕ). slots_at s a b) k m
slots-drop s at zero (suc i) = let m : 0 ≡ 0 - suc i = omega arith in ap (λ (b : ℕ). slots_at s (at + 16 * suc i) b) m
slots-drop s at (suc n) (suc i) =
    let k : at + 16 + 16 * i ≡ at + 16 * suc i = omega arith in
    let m : n - i ≡ suc n - suc i = omega arith in
    slots-drop s (at + 16) n i ∙ ap₂ {C = List Slot} (λ (a b : ℕ). slots_at s a b) k m

-- the next of n slots from byte `at`
pub slots_next : (s : List ℕ) (at n i : ℕ) → i < n → slots_at s (at + 16 * i) (n - i) ≡ slot_at s (at + 16 * i) ∷ slots_at s (at + 16 * (i + 1)) (n - (i + 1))
unfolding slots_at
slots_next s at n i h =
    let k : n - i ≡ suc (n - (i + 1)) = omega arith in
    let m : at + 16 * i + 16 ≡ at + 16 * (i + 1) = omega arith in
    rw (k, ← m) refl

pub slots-past : (s : List ℕ) (at n i : ℕ) → n ≤ i → slots_at s (at + 16 * i) (n - i) ≡ []
unfolding slots_at
slots-past s at n i h = let k : n - i ≡ 0 = omega arith in rw k refl

pub slots-first : (s : List ℕ) (at n : ℕ) → slots_at s (at + 16 * 0) (n - 0) ≡ slots_at s at n
slots-first s at n = let k : at + 16 * 0 ≡ at = omega arith in let m : n - 0 ≡ n = omega arith in ap₂ {C = List Slot} (λ (a b : ℕ). slots_at s a b) k m

-- the j-th of them
pub slot_of : (s : List ℕ) (at n j : ℕ) → j < n → get_or (slots_at s at n) j no_slot ≡ slot_at s (at + 16 * j)
unfolding slots_at
slot_of s at zero j h = absurd (omega arith)
slot_of s at (suc n) zero h = let k : at ≡ at + 16 * 0 = omega arith in ap (slot_at s) k
slot_of s at (suc n) (suc j) h =
    let k : at + 16 + 16 * j ≡ at + 16 * suc j = omega arith in
    slot_of s (at + 16) n j (omega arith) ∙ ap (slot_at s) k

-- slots that stand in bytes fit them
pub slots-ok : (s : List ℕ) (at n : ℕ) → all_slots (slots_at s at n) ≡ true → All SlotOk (slots_at s at n)
unfolding slots_at
slots-ok s at zero h = tt
slots-ok s at (suc n) h =
    let t = slot_at s at in
    ((standing s at (and_left (is_slot t) (all_slots (slots_at s (at + 16) n)) h)).ok, slots-ok s (at + 16) n (and_right (is_slot t) (all_slots (slots_at s (at + 16) n)) h))
