-- The slot at a cell's place has the number of the cell. Assumes nothing.
use Prim.Native.Nat.{ℕ, zero, suc, ◌+◌, ◌<◌}
use mathlib.Core.Path.{◌≡◌, refl, sym, ap, ◌∙◌}
use mathlib.Core.List.{List, [], ◌∷◌, ◌++◌}
use native.Mathlib.Omega.{arith}
use lib.ListN.{length, get_or}
use lib.Seq.{get_or-append-add}
use Rattle.step_slots.specs.Slots.{Slot}
use Rattle.step_slots.specs.Views.{no_slot}
use Rattle.step_spec.specs.Located.{Kept, held, made}
use Rattle.step_spec.specs.Store.{place_of, block_of, block_slots, heap_of}
use Rattle.step_spec.proofs.Slots.{block_size, heap_from}

block_number : (of : ℕ → ℕ) (n : ℕ) (c : Kept) → (block_of of n c).0.payload ≡ n
block_number of n (held tag fields) = refl
block_number of n (made i entries) = refl

-- the cells are numbered from n
number-from : (of : ℕ → ℕ) (n : ℕ) (K : List Kept) (k : ℕ) → k < length K → (get_or (heap_from of n K) (place_of K k) no_slot).payload ≡ n + k
number-from of n [] k h = absurd (omega arith)
number-from of n (c ∷ K) zero h = let z : n ≡ n + 0 = omega arith in block_number of n c ∙ z
number-from of n (c ∷ K) (suc k) h =
    let b = block_slots (block_of of n c) in
    let z : suc n + k ≡ n + suc k = omega arith in
    ap (λ (i : ℕ). (get_or (b ++ heap_from of (suc n) K) (i + place_of K k) no_slot).payload) (sym (block_size of n c))
    ∙ (ap (λ (t : Slot). t.payload) (get_or-append-add b (heap_from of (suc n) K) (place_of K k) no_slot) ∙ (number-from of (suc n) K k (omega arith) ∙ z))

pub cell-number : (K : List Kept) (k : ℕ) → k < length K → (get_or (heap_of K) (place_of K k) no_slot).payload ≡ k
unfolding heap_of
cell-number K k h = let z : 0 + k ≡ k = omega arith in number-from (place_of K) 0 K k h ∙ z
