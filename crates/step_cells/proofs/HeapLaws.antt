-- The slots of a cell among those of all cells: its own at the place by which entries refer to it, what it holds behind it. Assumes nothing.
use Prim.Native.Nat.{ℕ, zero, suc, ◌+◌, ◌-◌, ◌*◌, ◌≤◌}
use mathlib.Core.Path.{◌≡◌, refl, sym, ap, ap₂, ◌∙◌, subst}
use mathlib.Core.Bool.{Bool, true, false, cond}
use mathlib.Core.List.{List, [], ◌∷◌, ◌++◌, append-nil}
use mathlib.Core.Option.{some}
use native.Mathlib.Omega.{arith}
use lib.Dec.{eqb}
use lib.ListN.{length, drop, length-append, length-drop}
use lib.Seq.{drop-drop, drop-append-add}
use Rattle.model.specs.Machine.{nth}
use Rattle.image_spec.proofs.DirectoryLaws.{and_left, and_right}
use Rattle.step_slots.specs.Slots.{Slot, slot, is_cell_lem}
use Rattle.step_slots.specs.Views.{slot_at, slots_at, is_slot, all_slots}
use Rattle.step_slots.proofs.SlotBytes.{slots-count}
use Rattle.step_spec.specs.Located.{Kept}
use Rattle.step_spec.specs.Store.{place_of, Block, block_of, block_slots, heap_of, leading}
use Rattle.step_spec.proofs.Slots.{leading-++, block_held, block_size, heap_from, heap-leading}
use Rattle.step_header.specs.declared.Header.{Header}
use Rattle.step_header.specs.Headers.{heap_in, Holds}
use Rattle.step_scan.proofs.PassLaws.{slots-drop}
use Rattle.step_cells.specs.Cells.{Cell, no_cell_lem, cell_from, cell_in'}
use Rattle.step_cells.proofs.HeldLaws.{all-slots-drop}

-- ── the slots of the cell numbered k ──

module _ (of : ℕ → ℕ) where
  -- they are at its place, and then come those of the cells behind it
  block_there : (n : ℕ) (K : List Kept) (k : ℕ) (c : Kept) → nth k K ≡ some c
      → drop (place_of K k) (heap_from of n K) ≡ block_slots (block_of of (n + k) c) ++ heap_from of (suc (n + k)) (drop (suc k) K)
  block_there n [] zero c e = let z : ◌≡◌ {A = ℕ} 0 1 = cc in absurd (omega arith)
  block_there n [] (suc k) c e = let z : ◌≡◌ {A = ℕ} 0 1 = cc in absurd (omega arith)
  block_there n (x ∷ K) zero c e =
      let q : x ≡ c = cc in
      let m : n ≡ n + 0 = omega arith in
      ap₂ {C = List Slot} (λ (i : ℕ) (y : Kept). block_slots (block_of of i y) ++ heap_from of (suc i) K) m q
  block_there n (x ∷ K) (suc k) c e =
      let m : suc n + k ≡ n + suc k = omega arith in
      ap (λ (i : ℕ). drop (i + place_of K k) (block_slots (block_of of n x) ++ heap_from of (suc n) K)) (sym (block_size of n x))
      ∙ (drop-append-add (block_slots (block_of of n x)) (heap_from of (suc n) K) (place_of K k)
      ∙ (block_there (suc n) K k c e ∙ ap (λ (i : ℕ). block_slots (block_of of i c) ++ heap_from of (suc i) (drop (suc k) K)) m))

  -- what it holds is all up to the next cell's own slot
  block_leading : (n : ℕ) (c : Kept) (m : ℕ) (K : List Kept) → leading ((block_of of n c).1 ++ heap_from of m K) ≡ (block_of of n c).1
  block_leading n c m K = leading-++ (block_of of n c).1 (heap_from of m K) (block_held of n c) ∙ (ap (λ (ts : List Slot). (block_of of n c).1 ++ ts) (heap-leading of m K) ∙ append-nil _)

-- a cell's own slot is at this place of these slots, and what it holds behind it
pub record Among (heap : List Slot) (place : ℕ) (b : Block) : Type 0 where
  pub others : List Slot
  pub own : drop place heap ≡ b.0 ∷ (b.1 ++ others)
  pub held : leading (b.1 ++ others) ≡ b.1

pub cell-number : (K : List Kept) (k : ℕ) (c : Kept) → nth k K ≡ some c → Among (heap_of K) (place_of K k) (block_of (place_of K) k c)
unfolding heap_of
cell-number K k c e =
    let m : 0 + k ≡ k = omega arith in
    record {
      others = heap_from (place_of K) (suc k) (drop (suc k) K);
      own = block_there (place_of K) 0 K k c e ∙ ap (λ (i : ℕ). block_slots (block_of (place_of K) i c) ++ heap_from (place_of K) (suc i) (drop (suc k) K)) m;
      held = block_leading (place_of K) k c (suc k) (drop (suc k) K);
    }

-- the cell of a block whose own slot is at this place
abbrev pub cell_of : (place : ℕ) → Block → Cell
cell_of p b = record { sort = b.0.sort; id = b.0.id; number = b.0.payload; from = 64 + 16 * (p + 1); len = length b.1 }

-- it is what a slot refers to by its place
pub cell-there : (K : List Kept) (k i : ℕ) (c : Kept) → nth k K ≡ some c → cell_in' (heap_of K) (slot 1 i (place_of K k)) ≡ cell_of (place_of K k) (block_of (place_of K) k c)
unfolding cell_in'
cell-there K k i c e =
    let s = cell-number K k c e in
    let b = block_of (place_of K) k c in
    ap (cell_from (place_of K k)) s.own
    ∙ ap (λ (ts : List Slot). record { sort = b.0.sort; id = b.0.id; number = b.0.payload; from = 64 + 16 * (place_of K k + 1); len = length ts }) s.held

-- ── the first slots of a run ──

slots-front : (s : List ℕ) (at n : ℕ) (xs ys : List Slot) → slots_at s at n ≡ xs ++ ys → slots_at s at (length xs) ≡ xs
unfolding slots_at
slots-front s at n [] ys e = refl
slots-front s at zero (x ∷ xs) ys e = absurd (omega (arith, ap length e))
slots-front s at (suc n) (x ∷ xs) ys e =
    let p : slot_at s at ≡ x = cc in
    let q : slots_at s (at + 16) n ≡ xs ++ ys = cc in
    ap₂ {C = List Slot} (λ (t : Slot) (ts : List Slot). t ∷ ts) p (slots-front s (at + 16) n xs ys q)

all-slots-left : (xs ys : List Slot) → all_slots (xs ++ ys) ≡ true → all_slots xs ≡ true
all-slots-left [] ys h = refl
all-slots-left (x ∷ xs) ys h = rw (and_left (is_slot x) (all_slots (xs ++ ys)) h) (all-slots-left xs ys (and_right (is_slot x) (all_slots (xs ++ ys)) h))

-- what a cell holds, where it stands: these slots, before the end of those of cells
pub record Holding (store : List ℕ) (heap : ℕ) (r : Cell) (ts : List Slot) : Type 0 where
  pub count : r.len ≡ length ts
  pub are : slots_at store r.from r.len ≡ ts
  pub slots : all_slots (slots_at store r.from r.len) ≡ true
  pub inside : r.from + 16 * r.len ≤ 64 + 16 * heap

pub holding : {store : List ℕ} {n p : ℕ} {b : Block} → all_slots (slots_at store 64 n) ≡ true → Among (slots_at store 64 n) p b → Holding store n (cell_of p b) b.1
holding {store} {n} {p} {b} o s =
    let behind : drop (p + 1) (slots_at store 64 n) ≡ b.1 ++ s.others = sym (drop-drop 1 p (slots_at store 64 n)) ∙ ap (drop 1) s.own in
    let f : slots_at store (64 + 16 * (p + 1)) (length b.1) ≡ b.1 =
    slots-front store (64 + 16 * (p + 1)) (n - (p + 1)) b.1 s.others (sym (slots-drop store 64 n (p + 1)) ∙ behind) in
    let a : all_slots (b.1 ++ s.others) ≡ true = ap all_slots (sym behind) ∙ all-slots-drop (p + 1) (slots_at store 64 n) o in
    let m : n - p ≡ suc (length b.1 + length s.others) =
    ap (λ (i : ℕ). i - p) (sym (slots-count store 64 n)) ∙ (sym (length-drop p (slots_at store 64 n)) ∙ (ap length s.own ∙ ap suc (length-append b.1 s.others))) in
    record { count = refl; are = f; slots = ap all_slots f ∙ all-slots-left b.1 s.others a; inside = omega (arith, m) }

-- ── whatever the slot refers to ──

leading-front : (ts : List Slot) → ts ≡ leading ts ++ drop (length (leading ts)) ts
unfolding leading
leading-front [] = refl
leading-front (t ∷ ts) = go (is_cell_lem t) (leading-front ts)
  where
    go : (c : Bool) → ts ≡ leading ts ++ drop (length (leading ts)) ts → t ∷ ts ≡ cond c [] (t ∷ leading ts) ++ drop (length (cond c [] (t ∷ leading ts))) (t ∷ ts)
    go true e = refl
    go false e = ap (λ (us : List Slot). t ∷ us) e

-- all that it is said to hold
abbrev pub Held : (store : List ℕ) (heap : ℕ) → Cell → Type 0
Held store heap r = Holding store heap r (slots_at store r.from r.len)

module _ (store : List ℕ) (h : Header) (o : Holds store h) where
  -- no cell holds no slot
  none_held : Held store h.heap no_cell_lem
  unfolding slots_at
  none_held = record { count = refl; are = refl; slots = refl; inside = omega arith }

  some_held : (p : ℕ) (ts : List Slot) → drop p (heap_in store h) ≡ ts → Held store h.heap (cell_from p ts)
  some_held p [] e = none_held
  some_held p (own ∷ others) e =
      let q = leading-front others in
      let s : Among (heap_in store h) p (own, leading others) =
      record { others = drop (length (leading others)) others; own = e ∙ ap (λ (us : List Slot). own ∷ us) q; held = ap leading (sym q) } in
      let r = holding o.heap s in
      record { count = sym (slots-count store _ _); are = refl; slots = r.slots; inside = r.inside }

  pub cell_holds : (t : Slot) {r : Cell} → r ≡ cell_in' (heap_in store h) t → Held store h.heap r
  unfolding cell_in'
  cell_holds t e = subst (Held store h.heap) (sym e) (go (eqb t.sort 1))
    where
      go : (b : Bool) → Held store h.heap (cond b (cell_from t.payload (drop t.payload (heap_in store h))) no_cell_lem)
      go true = some_held t.payload (drop t.payload (heap_in store h)) refl
      go false = none_held
