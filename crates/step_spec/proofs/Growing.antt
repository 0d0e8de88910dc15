-- What a step leaves where it is in the store: the slots of the cells that were there, when cells are added behind them. So a step writes the slots of
-- a new cell and the environment, and no others. Assumes nothing.
use Prim.Native.Nat.{ℕ, zero, suc, ◌+◌, ◌<◌}
use mathlib.Core.Path.{◌≡◌, refl, ap, ap₂, ◌∙◌}
use mathlib.Core.List.{List, [], ◌∷◌, ◌++◌, map}
use native.Mathlib.Omega.{arith}
use lib.ListN.{length}
use Rattle.model.specs.Syntax.{Prog}
use Rattle.model.specs.Machine.{Value, int, cell, outside}
use Rattle.image_spec.specs.Parse.{each, All}
use Rattle.step_spec.specs.Located.{Kept, held, made}
use Rattle.step_slots.specs.Slots.{Slot, value_slot}
use Rattle.step_spec.specs.Store.{size_of, place_of, entry_slot, Block, block_of, blocks_of, block_slots, heap_of, held_in, ValueFits, EntryFits, KeptFits}
use Rattle.step_spec.proofs.Lists.{each-++}

-- a cell's place does not depend on the cells after it
place-grows : (K new : List Kept) (k : ℕ) → k < length K → place_of (K ++ new) k ≡ place_of K k
place-grows [] new k h = absurd (omega arith)
place-grows (c ∷ K) new zero h = refl
place-grows (c ∷ K) new (suc k) h = ap (λ (n : ℕ). size_of c + n) (place-grows K new k (omega arith))

-- .. and the next cell's slot is right behind the slots that are there
pub place-new : (K new : List Kept) → place_of (K ++ new) (length K) ≡ length K + held_in K
place-new [] [] = refl
place-new [] (c ∷ new) = refl
place-new (held tag fields ∷ K) new = omega (arith, place-new K new)
place-new (made i entries ∷ K) new = omega (arith, place-new K new)

module _ (K new : List Kept) where
  pub value_stays : (i : ℕ) (v : Value) → ValueFits (length K) v → value_slot (place_of (K ++ new)) i v ≡ value_slot (place_of K) i v
  value_stays i (int z) h = refl
  value_stays i (cell k) h = ap (λ (p : ℕ). record { sort = 1; id = i; payload = p }) (place-grows K new k h)
  value_stays i (outside n) h = refl

  pub map_same : {A : Type 0} (Q : A → Type 0) (f g : A → Slot) (xs : List A) → ((a : A) → Q a → f a ≡ g a) → All Q xs → map f xs ≡ map g xs
  map_same Q f g [] h o = refl
  map_same Q f g (x ∷ xs) h o = ap₂ {C = List Slot} (λ (a : Slot) (b : List Slot). a ∷ b) (h x o.0) (map_same Q f g xs h o.1)

  block_stays : (P : Prog) (k : ℕ) (c : Kept) → KeptFits P (length K) c → block_of (place_of (K ++ new)) k c ≡ block_of (place_of K) k c
  block_stays P k (held tag fields) h =
      ap (λ (z : List Slot). (record { sort = 3; id = tag.0; payload = k }, z))
      (map_same (ValueFits (length K)) (value_slot (place_of (K ++ new)) 0) (value_slot (place_of K) 0) fields (value_stays 0) h.1)
  block_stays P k (made i entries) h =
      ap (λ (z : List Slot). (record { sort = 4; id = i; payload = k }, z))
      (map_same (EntryFits (length K)) (entry_slot (place_of (K ++ new))) (entry_slot (place_of K)) entries (λ e f. value_stays e.0.0 e.1 f.1) h.1)

  blocks_stay : (P : Prog) (k : ℕ) (cs : List Kept) → All (KeptFits P (length K)) cs
      → blocks_of (place_of (K ++ new)) k (cs ++ new) ≡ blocks_of (place_of K) k cs ++ blocks_of (place_of (K ++ new)) (k + length cs) new
  blocks_stay P k [] h = ap (λ (n : ℕ). blocks_of (place_of (K ++ new)) n new) (omega arith)
  blocks_stay P k (c ∷ cs) h =
      let e : suc k + length cs ≡ k + suc (length cs) = omega arith in
      ap₂ {C = List Block} (λ (a : Block) (b : List Block). a ∷ b) (block_stays P k c h.0)
      (blocks_stay P (suc k) cs h.1 ∙ ap (λ (n : ℕ). blocks_of (place_of K) (suc k) cs ++ blocks_of (place_of (K ++ new)) n new) e)

-- the slots of the cells, with new ones behind them
pub heap-grows : (P : Prog) (K new : List Kept) → All (KeptFits P (length K)) K → heap_of (K ++ new) ≡ heap_of K ++ each block_slots (blocks_of (place_of (K ++ new)) (length K) new)
unfolding heap_of
heap-grows P K new h =
    let z : 0 + length K ≡ length K = omega arith in
    ap (each block_slots) (blocks_stay K new P 0 K h ∙ ap (λ (n : ℕ). blocks_of (place_of K) 0 K ++ blocks_of (place_of (K ++ new)) n new) z)
    ∙ each-++ block_slots (blocks_of (place_of K) 0 K) (blocks_of (place_of (K ++ new)) (length K) new)
