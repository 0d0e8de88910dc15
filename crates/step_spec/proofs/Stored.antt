-- The state that a store's bytes begin with is the one that was written there: `state-stored`. Assumes nothing.
use Prim.Native.Nat.{ℕ, zero, suc, ◌+◌, ◌*◌, ◌^◌, ◌≤◌, ◌<◌}
use mathlib.Core.Path.{◌≡◌, refl, ap, ap₂, ◌∙◌}
use mathlib.Core.Bool.{Bool, true}
use mathlib.Core.List.{List, [], ◌∷◌, ◌++◌, map}
use mathlib.Core.Option.{some}
use native.Mathlib.Omega.{arith}
use borrow.Author.Tests.{eq-eqb, lt-ltb}
use lib.ListN.{length, length-append, length-map}
use mir.Syntax.{w64}
use mir.ValLaws.{to_z-of_z, of_z_fits}
use Rattle.syntax.specs.declared.names.VarId.{VarId}
use Rattle.model.specs.Syntax.{Prog}
use Rattle.model.specs.Machine.{Value, int, cell, outside}
use Rattle.image_spec.specs.Parse.{each, All}
use Rattle.step_spec.specs.Located.{Kept, held, made, Located, records_in}
use Rattle.step_slots.specs.Slots.{Slot, SlotOk, value_slot}
use Rattle.step_spec.specs.Store.{place_of, entry_slot, block_of, blocks_of, block_slots, heap_of, environment_of, Raw, raw_of, raw_bytes, store_bytes, held_in}
use Rattle.step_spec.specs.Store.{store_size, ValueFits, EntryFits, blocks, every_slot, statement_at, create_at, KeptFits, Fits, entry_ok, field_ok, cell_ok}
use Rattle.step_spec.specs.Store.{cells_ok, formed, field_in, entry_in, kept_in, state_in, state_from}
use Rattle.step_slots.proofs.SlotBytes.{slots_length}
use Rattle.step_spec.proofs.Lists.{all-++, all_map, record_inside, bit-back, bit-small}
use Rattle.step_spec.proofs.Slots.{RawOk, raw_left, block_size, heap-leading, heap-blocks, heap-cells, heap_from, cells-before, cell-there}

-- ── sizes ──

pub heap-length : (of : ℕ → ℕ) (n : ℕ) (K : List Kept) → length (each block_slots (blocks_of of n K)) ≡ length K + held_in K
heap-length of n [] = refl
heap-length of n (held tag fields ∷ K) =
    length-append (block_slots (block_of of n (held tag fields))) (each block_slots (blocks_of of (suc n) K)) ∙ omega (arith, block_size of n (held tag fields), heap-length of (suc n) K)
heap-length of n (made i entries ∷ K) =
    length-append (block_slots (block_of of n (made i entries))) (each block_slots (blocks_of of (suc n) K)) ∙ omega (arith, block_size of n (made i entries), heap-length of (suc n) K)

raw_length : (r : Raw) → length (raw_bytes r) ≡ 64 + 16 * (length r.heap + length r.environment)
raw_length r = simp (length-append, slots_length) (omega arith)

-- document 02, A.2: it takes exactly 64 bytes, and 16 for each cell and for each entry of the environment or a cell
pub store-size : (l : Located) → length (store_bytes l) ≡ store_size l
unfolding store_bytes raw_of heap_of environment_of
store-size l =
    raw_length (raw_of l) ∙ omega (arith, heap-length (place_of l.cells) 0 l.cells, length-map l.environment (entry_slot (place_of l.cells)))

-- ── what is written is formed, and read back ──

every_map : {A : Type 0} (Q : A → Type 0) (t : Slot → Bool) (f : A → Slot) (xs : List A) → ((a : A) → Q a → t (f a) ≡ true) → All Q xs → every_slot t (map f xs) ≡ true
every_map Q t f [] h o = refl
every_map Q t f (x ∷ xs) h o = rw (h x o.0) (every_map Q t f xs h o.1)

map_back : {A : Type 0} (Q : A → Type 0) (f : A → Slot) (g : Slot → A) (xs : List A) → ((a : A) → Q a → g (f a) ≡ a) → All Q xs → map g (map f xs) ≡ xs
map_back Q f g [] h o = refl
map_back Q f g (x ∷ xs) h o = ap₂ (λ a as'. a ∷ as') (h x o.0) (map_back Q f g xs h o.1)

module _ (P : Prog) (K : List Kept) where
  abbrev of : ℕ → ℕ
  of = place_of K

  abbrev heap : List Slot
  heap = heap_from of 0 K

  value-back : (i : ℕ) (v : Value) → ValueFits (length K) v → field_in heap (value_slot of i v) ≡ v
  value-back i (int z) h = ap int (to_z-of_z w64 z h)
  value-back i (cell k) h = ap cell (cells-before of 0 K k h)
  value-back i (outside n) h = refl

  value-formed : (i : ℕ) (v : Value) → ValueFits (length K) v → entry_ok P heap (value_slot of i v) ≡ true
  value-formed i (int z) h = refl
  value-formed i (cell k) h = cell-there of 0 K k h
  value-formed i (outside n) h = lt-ltb n 256 h

  value-id : (i : ℕ) (v : Value) → (value_slot of i v).id ≡ i
  value-id i (int z) = refl
  value-id i (cell k) = refl
  value-id i (outside n) = refl

  entry-back : (e : VarId × Value) → EntryFits (length K) e → entry_in heap (entry_slot of e) ≡ e
  entry-back e h = ap₂ {C = VarId × Value} (λ (a : ℕ) (b : Value). (record { 0 = a }, b)) (value-id e.0.0 e.1) (value-back e.0.0 e.1 h.1)

  field-formed : (v : Value) → ValueFits (length K) v → field_ok P heap (value_slot of 0 v) ≡ true
  field-formed v h = rw (value-id 0 v, value-formed 0 v h) refl

  kept_back : (k : ℕ) (c : Kept) → KeptFits P (length K) c → kept_in heap (block_of of k c) ≡ c
  kept_back k (held tag fields) h = ap (held tag) (map_back (ValueFits (length K)) (value_slot of 0) (field_in heap) fields (value-back 0) h.1)
  kept_back k (made i entries) h = ap (made i) (map_back (EntryFits (length K)) (entry_slot of) (entry_in heap) entries entry-back h.1)

  cell-formed : (k : ℕ) (c : Kept) → KeptFits P (length K) c → cell_ok P heap k (block_of of k c) ≡ true
  cell-formed k (held tag fields) h =
      rw (eq-eqb k k refl, lt-ltb tag.0 (256 ^ 2) h.0) (every_map (ValueFits (length K)) (field_ok P heap) (value_slot of 0) fields field-formed h.1)
  cell-formed k (made i entries) h =
      rw (eq-eqb k k refl, h.0) (every_map (EntryFits (length K)) (entry_ok P heap) (entry_slot of) entries (λ e f. value-formed e.0.0 e.1 f.1) h.1)

  cells-back : (k : ℕ) (cs : List Kept) → All (KeptFits P (length K)) cs → map (kept_in heap) (blocks_of of k cs) ≡ cs
  cells-back k [] h = refl
  cells-back k (c ∷ cs) h = ap₂ {C = List Kept} (λ (a : Kept) (b : List Kept). a ∷ b) (kept_back k c h.0) (cells-back (suc k) cs h.1)

  cells-formed : (k : ℕ) (cs : List Kept) → All (KeptFits P (length K)) cs → cells_ok P heap k (blocks_of of k cs) ≡ true
  cells-formed k [] h = refl
  cells-formed k (c ∷ cs) h = rw (cell-formed k c h.0) (cells-formed (suc k) cs h.1)

module _ (P : Prog) (l : Located) (h : Fits P l) where
  state-back : state_in (raw_of l) ≡ l
  unfolding state_in raw_of heap_of environment_of
  state-back =
      let c : map (kept_in (heap_from (place_of l.cells) 0 l.cells)) (blocks (heap_from (place_of l.cells) 0 l.cells)) ≡ l.cells =
      ap (map (kept_in (heap_from (place_of l.cells) 0 l.cells))) (heap-blocks (place_of l.cells) 0 l.cells) ∙ cells-back P l.cells 0 l.cells h.cells in
      let e : map (entry_in (heap_from (place_of l.cells) 0 l.cells)) (map (entry_slot (place_of l.cells)) l.environment) ≡ l.environment =
      map_back (EntryFits (length l.cells)) (entry_slot (place_of l.cells)) (entry_in (heap_from (place_of l.cells) 0 l.cells)) l.environment (entry-back P l.cells) h.environment in
      λ i. record { position = l.position; environment = e i; cells = c i; has_ended = bit-back l.has_ended i; has_stopped = bit-back l.has_stopped i }

  state-formed : formed P (raw_of l) ≡ true
  unfolding formed raw_of heap_of environment_of
  state-formed =
      rw (
        h.position,
        heap-cells (place_of l.cells) 0 l.cells,
        eq-eqb (length l.cells) (length l.cells) refl,
        heap-leading (place_of l.cells) 0 l.cells,
        heap-blocks (place_of l.cells) 0 l.cells,
        cells-formed P l.cells 0 l.cells h.cells,
      )
      (every_map (EntryFits (length l.cells)) (entry_ok P (heap_from (place_of l.cells) 0 l.cells)) (entry_slot (place_of l.cells)) l.environment
      (λ e f. value-formed P l.cells e.0.0 e.1 f.1) h.environment)

-- ── the numbers fit their bytes ──

place-small : (K : List Kept) (k : ℕ) → place_of K k ≤ length K + held_in K
place-small [] k = omega arith
place-small (held tag fields ∷ K) zero = omega arith
place-small (made i entries ∷ K) zero = omega arith
place-small (held tag fields ∷ K) (suc k) = omega (arith, place-small K k)
place-small (made i entries ∷ K) (suc k) = omega (arith, place-small K k)

module _ (P : Prog) (few : length (records_in P) < 256 ^ 4) (K : List Kept) (small : length K + held_in K < 256 ^ 8) where
  value-fits : (i : ℕ) (v : Value) → i < 256 ^ 4 → ValueFits (length K) v → SlotOk (value_slot (place_of K) i v)
  value-fits i (int z) o h = (omega arith, (tt, (o, (of_z_fits w64 z h).fits)))
  value-fits i (cell k) o h = (omega arith, (tt, (o, omega (arith, place-small K k))))
  value-fits i (outside n) o h = (omega arith, (tt, (o, omega arith)))

  block_fits : (k : ℕ) (c : Kept) → k < 256 ^ 8 → KeptFits P (length K) c → All SlotOk (block_slots (block_of (place_of K) k c))
  unfolding create_at
  block_fits k (held tag fields) o h =
      ((omega arith, (tt, (omega (arith, h.0), o))), all_map (ValueFits (length K)) SlotOk (value_slot (place_of K) 0) fields (λ v f. value-fits 0 v (omega arith) f) h.1)
  block_fits k (made i entries) o h =
      ((omega arith, (tt, (omega (arith, record_inside _ (records_in P) i h.0), o))), all_map (EntryFits (length K)) SlotOk (entry_slot (place_of K)) entries (λ e f. value-fits e.0.0 e.1 f.0 f.1) h.1)

module _ (P : Prog) (few : length (records_in P) < 256 ^ 4) (K : List Kept) (small : length K + held_in K < 256 ^ 8) where
  heap-fits : (k : ℕ) (cs : List Kept) → k + length cs < 256 ^ 8 → All (KeptFits P (length K)) cs → All SlotOk (each block_slots (blocks_of (place_of K) k cs))
  heap-fits k [] o h = tt
  heap-fits k (c ∷ cs) o h =
      all-++ SlotOk (block_slots (block_of (place_of K) k c)) (each block_slots (blocks_of (place_of K) (suc k) cs))
      (block_fits P few K small k c (omega arith) h.0) (heap-fits (suc k) cs (omega arith) h.1)

raw_fits : (P : Prog) → length (records_in P) < 256 ^ 4 → (l : Located) → Fits P l → store_size l < 2 ^ 64 → RawOk (raw_of l)
unfolding raw_of heap_of environment_of statement_at
raw_fits P few l h small =
    let n : length l.cells + held_in l.cells < 256 ^ 8 = omega arith in
    record {
      header = (
        omega (arith, record_inside _ (records_in P) l.position h.position),
        (
          omega (arith, bit-small l.has_ended),
          (
            omega (arith, bit-small l.has_stopped),
            (
              tt,
              (
                omega arith,
                (omega (arith, heap-length (place_of l.cells) 0 l.cells), (omega (arith, length-map l.environment (entry_slot (place_of l.cells))), tt)),
              ),
            ),
          ),
        ),
      );
      heap = heap-fits P few l.cells n 0 l.cells (omega arith) h.cells;
      environment =
          all_map (EntryFits (length l.cells)) SlotOk (entry_slot (place_of l.cells)) l.environment (λ e f. value-fits P few l.cells n e.0.0 e.1 f.0 f.1) h.environment;
    }

-- what a store that begins with a state's bytes is read as
pub state-stored : (P : Prog) → length (records_in P) < 256 ^ 4 → (l : Located) → Fits P l → store_size l < 2 ^ 64 → (rest : List ℕ) → state_from P (store_bytes l ++ rest) ≡ some l
unfolding state_from store_bytes
state-stored P few l h small rest = rw (raw_left (raw_of l) (raw_fits P few l h small) rest, state-formed P l h, state-back P l h) refl
