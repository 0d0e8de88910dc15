-- Reading slots is exact for writing them; and where cells begin among the slots of cells. Assumes nothing.
use Prim.Native.Nat.{ℕ, zero, suc, ◌+◌, ◌^◌, ◌≤◌, ◌<◌}
use mathlib.Core.Path.{◌≡◌, refl, sym, ap, ap₂, ◌∙◌}
use mathlib.Core.Bool.{true, false}
use mathlib.Core.List.{List, [], ◌∷◌, ◌++◌, append-nil, append_assoc}
use native.Mathlib.Omega.{arith}
use lib.ListN.{length, take, drop, length-map}
use lib.Seq.{take-append-add, drop-append-add}
use Rattle.model.specs.Machine.{Value, int, cell, outside}
use Rattle.image_spec.specs.Parse.{Parsed, got, and_then, times, each, All}
use Rattle.image_spec.proofs.ParseLaws.{Exact, both_exact, code_exact, times_exact, zeros_exact, number_exact}
use Rattle.step_spec.specs.Located.{Kept, held, made}
use Rattle.step_slots.specs.Slots.{Slot, slot_bytes, SlotOk, slot_parser, is_cell_lem, value_slot}
use Rattle.step_spec.specs.Store.{size_of, place_of, entry_slot, Block, block_of, blocks_of, block_slots, Raw, Header, header_of, header_bytes, raw_bytes}
use Rattle.step_spec.specs.Store.{header_parser, raw_from, raw_parser, leading, blocks, cells_in, first_slot}
use Rattle.step_slots.proofs.SlotLaws.{slot_exact}
use Rattle.step_spec.proofs.Lists.{all_mapped}

-- ── bytes ──

abbrev pub HeaderOk : Header → Type 0
HeaderOk h =
    (h.0 < 256 ^ 4) × ((h.1.0 ≤ 1) × ((h.1.1.0 ≤ 1) × (Unit {0} × ((h.1.1.1.1.0 < 256 ^ 8) × ((h.1.1.1.1.1.0 < 256 ^ 8) × ((h.1.1.1.1.1.1.0 < 256 ^ 8) × Unit {0}))))))

pub header_exact : Exact header_bytes HeaderOk header_parser
header_exact =
    both_exact (number_exact 4)
    (both_exact (code_exact 1) (both_exact (code_exact 1) (both_exact (zeros_exact 2)
    (both_exact (number_exact 8) (both_exact (number_exact 8) (both_exact (number_exact 8) (zeros_exact 32)))))))

pub record RawOk (r : Raw) : Type 0 where
  pub header : HeaderOk (header_of r)
  pub heap : All SlotOk r.heap
  pub environment : All SlotOk r.environment

raw_reads : (s m n rest : List ℕ) (h : Header) (hs es : List Slot) → header_parser s ≡ got h m → times h.1.1.1.1.1.0 slot_parser m ≡ got hs n
    → times h.1.1.1.1.1.1.0 slot_parser n ≡ got es rest → raw_parser s ≡ got (raw_from h hs es) rest
unfolding raw_parser
raw_reads s m n rest h hs es a b c =
    ap (λ (z : Parsed ℕ Header). and_then z λ h m. and_then (times h.1.1.1.1.1.0 slot_parser m) λ hs n. and_then (times h.1.1.1.1.1.1.0 slot_parser n) λ es r. got (raw_from h hs es) r) a
    ∙ (ap (λ (z : Parsed ℕ (List Slot)). and_then z λ hs n. and_then (times h.1.1.1.1.1.1.0 slot_parser n) λ es r. got (raw_from h hs es) r) b
    ∙ ap (λ (z : Parsed ℕ (List Slot)). and_then z λ es r. got (raw_from h hs es) r) c)

pub raw_left : (r : Raw) → RawOk r → (rest : List ℕ) → raw_parser (raw_bytes r ++ rest) ≡ got r rest
raw_left r o rest =
    let h = header_of r in
    let A = each slot_bytes r.heap in
    let B = each slot_bytes r.environment in
    let e : raw_bytes r ++ rest ≡ header_bytes h ++ (A ++ (B ++ rest)) = append_assoc (header_bytes h) (A ++ B) rest ∙ ap (λ (z : List ℕ). header_bytes h ++ z) (append_assoc A B rest) in
    ap raw_parser e
    ∙ raw_reads (header_bytes h ++ (A ++ (B ++ rest))) (A ++ (B ++ rest)) (B ++ rest) rest h r.heap r.environment
    (header_exact.left h o.header (A ++ (B ++ rest)))
    ((times_exact slot_exact (length r.heap)).left r.heap (refl, o.heap) (B ++ rest))
    ((times_exact slot_exact (length r.environment)).left r.environment (refl, o.environment) rest)

-- ── the slots of cells ──

abbrev pub NoCell : Slot → Type 0
NoCell s = is_cell_lem s ≡ false

pub value-no-cell : (of : ℕ → ℕ) (i : ℕ) (v : Value) → NoCell (value_slot of i v)
value-no-cell of i (int z) = refl
value-no-cell of i (cell k) = refl
value-no-cell of i (outside n) = refl

pub leading-++ : (es ss : List Slot) → All NoCell es → leading (es ++ ss) ≡ es ++ leading ss
unfolding leading
leading-++ [] ss h = refl
leading-++ (e ∷ es) ss h = rw h.0 (ap (λ (z : List Slot). e ∷ z) (leading-++ es ss h.1))

pub blocks-++ : (es ss : List Slot) → All NoCell es → blocks (es ++ ss) ≡ blocks ss
unfolding blocks
blocks-++ [] ss h = refl
blocks-++ (e ∷ es) ss h = rw h.0 (blocks-++ es ss h.1)

pub cells_in-++ : (es ss : List Slot) → All NoCell es → cells_in (es ++ ss) ≡ cells_in ss
unfolding cells_in
cells_in-++ [] ss h = refl
cells_in-++ (e ∷ es) ss h = rw h.0 (cells_in-++ es ss h.1)

pub block_cell : (of : ℕ → ℕ) (k : ℕ) (c : Kept) → is_cell_lem (block_of of k c).0 ≡ true
block_cell of k (held tag fields) = refl
block_cell of k (made i entries) = refl

pub block_held : (of : ℕ → ℕ) (k : ℕ) (c : Kept) → All NoCell (block_of of k c).1
block_held of k (held tag fields) = all_mapped NoCell (value_slot of 0) fields (value-no-cell of 0)
block_held of k (made i entries) = all_mapped NoCell (entry_slot of) entries (λ e. value-no-cell of e.0.0 e.1)

pub block_size : (of : ℕ → ℕ) (k : ℕ) (c : Kept) → length (block_slots (block_of of k c)) ≡ size_of c
block_size of k (held tag fields) = rw (length-map fields (value_slot of 0)) (omega arith)
block_size of k (made i entries) = rw (length-map entries (entry_slot of)) (omega arith)

module _ (of : ℕ → ℕ) where
  -- from the cell numbered n on
  abbrev pub heap_from : ℕ → List Kept → List Slot
  heap_from n K = each block_slots (blocks_of of n K)

  pub heap-leading : (n : ℕ) (K : List Kept) → leading (heap_from n K) ≡ []
  unfolding leading
  heap-leading n [] = refl
  heap-leading n (c ∷ K) = rw (block_cell of n c) refl

  pub heap-blocks : (n : ℕ) (K : List Kept) → blocks (heap_from n K) ≡ blocks_of of n K
  unfolding blocks
  heap-blocks n [] = refl
  heap-blocks n (c ∷ K) =
      rw (block_cell of n c)
      (ap₂ {C = List Block} (λ (a : List Slot) (b : List Block). ((block_of of n c).0, a) ∷ b)
      (leading-++ (block_of of n c).1 (heap_from (suc n) K) (block_held of n c) ∙ (ap (λ (z : List Slot). (block_of of n c).1 ++ z) (heap-leading (suc n) K) ∙ append-nil _))
      (blocks-++ (block_of of n c).1 (heap_from (suc n) K) (block_held of n c) ∙ heap-blocks (suc n) K))

  -- a block, and what follows
  cells-after : (n : ℕ) (c : Kept) (ss : List Slot) → cells_in (block_slots (block_of of n c) ++ ss) ≡ suc (cells_in ss)
  unfolding cells_in
  cells-after n c ss = rw (block_cell of n c) (ap suc (cells_in-++ (block_of of n c).1 ss (block_held of n c)))

  pub heap-cells : (n : ℕ) (K : List Kept) → cells_in (heap_from n K) ≡ length K
  unfolding cells_in
  heap-cells n [] = refl
  heap-cells n (c ∷ K) = cells-after n c (heap_from (suc n) K) ∙ ap suc (heap-cells (suc n) K)

  -- before cell k's slot there are the slots of k cells
  pub cells-before : (n : ℕ) (K : List Kept) (k : ℕ) → k < length K → cells_in (take (place_of K k) (heap_from n K)) ≡ k
  cells-before n [] k h = absurd (omega arith)
  cells-before n (c ∷ K) zero h = unfold cells_in in refl
  cells-before n (c ∷ K) (suc k) h =
      ap (λ (z : ℕ). cells_in (take (z + place_of K k) (block_slots (block_of of n c) ++ heap_from (suc n) K))) (sym (block_size of n c))
      ∙ (ap cells_in (take-append-add (block_slots (block_of of n c)) (heap_from (suc n) K) (place_of K k))
      ∙ (cells-after n c (take (place_of K k) (heap_from (suc n) K)) ∙ ap suc (cells-before (suc n) K k (omega arith))))

  -- and there it is
  pub cell-there : (n : ℕ) (K : List Kept) (k : ℕ) → k < length K → first_slot is_cell_lem (drop (place_of K k) (heap_from n K)) ≡ true
  cell-there n [] k h = absurd (omega arith)
  cell-there n (c ∷ K) zero h = block_cell of n c
  cell-there n (c ∷ K) (suc k) h =
      ap (λ (z : ℕ). first_slot is_cell_lem (drop (z + place_of K k) (block_slots (block_of of n c) ++ heap_from (suc n) K))) (sym (block_size of n c))
      ∙ (ap (first_slot is_cell_lem) (drop-append-add (block_slots (block_of of n c)) (heap_from (suc n) K) (place_of K k)) ∙ cell-there (suc n) K k (omega arith))
