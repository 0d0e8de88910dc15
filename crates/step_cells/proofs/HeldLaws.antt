-- How many slots a cell holds, as the code finds them; and the cell that a slot refers to, as it is read. Assumes nothing.
use Prim.Native.Nat.{ℕ, zero, suc, ◌+◌, ◌-◌, ◌*◌, ◌≤◌, ◌<◌}
use mathlib.Core.Path.{◌≡◌, refl, sym, ap, ◌∙◌, subst}
use mathlib.Core.Bool.{Bool, true, false, ◌&&◌, cond}
use mathlib.Core.List.{List, [], ◌∷◌}
use native.Mathlib.Omega.{arith}
use Rattle.std.specs.Prelude.{MatchOption, unwrap_or}
use Rattle.std.specs.Prelude as code
use Rattle.std.specs.Prelude.{Some, None}
use native.Mathlib.Nat.{add-zero}
use borrow.Author.Tests.{le-leb, lt-leb, eq-eqb, ne_eqb}
use lib.Dec.{eqb}
use lib.ListN.{length, drop, get_or}
use lib.Seq.{get_or-drop}
use Rattle.image_spec.proofs.DirectoryLaws.{and_left, and_right}
use Rattle.step_slots.specs.Slots.{Slot}
use Rattle.step_slots.specs.Views.{slot_at, slots_at, is_slot, all_slots}
use Rattle.step_slots.proofs.SlotBytes.{standing}
use Rattle.step_spec.specs.Store.{leading}
use Rattle.step_header.specs.declared.Header.{Header}
use Rattle.step_header.specs.Headers.{heap_in}
use Rattle.step_scan.proofs.PassLaws.{slots-drop, slots_next, slots-past}
use Rattle.step_cells.specs.Cells.{no_cell_lem, cell_from, cell_in'}

-- all but the first i are slots too
pub all-slots-drop : (i : ℕ) (ts : List Slot) → all_slots ts ≡ true → all_slots (drop i ts) ≡ true
all-slots-drop zero ts h = h
all-slots-drop (suc i) [] h = refl
all-slots-drop (suc i) (t ∷ ts) h = all-slots-drop i ts (and_right (is_slot t) (all_slots ts) h)

-- the sort of a slot that stands is its first byte
sort-read : (s : List ℕ) (at : ℕ) → is_slot (slot_at s at) ≡ true → get_or s at 0 ≡ (slot_at s at).sort
sort-read s at h = ap (λ (k : ℕ). get_or s k 0) (sym (add-zero at)) ∙ (sym (get_or-drop at s 0 0) ∙ ap (λ (l : List ℕ). get_or l 0 0) (standing s at h).bytes)

-- ── what is left of a count ──

module _ (store : List ℕ) (heap place : ℕ) where
  abbrev behind : ℕ → List Slot
  behind j = slots_at store (64 + 16 * j) (heap - j)

  abbrev held : ℕ
  held = length (leading (drop (place + 1) (slots_at store 64 heap)))

  pub record Counted (j : ℕ) : Type 0 where
    pub past : place < j
    pub within : j ≤ heap
    pub left : held ≡ (j - (place + 1)) + length (leading (behind j))
    pub slots : all_slots (behind j) ≡ true

  pub counted_none : place < heap → all_slots (slots_at store 64 heap) ≡ true → Counted (place + 1)
  counted_none h o =
      let e = slots-drop store 64 heap (place + 1) in
      record {
        past = omega arith;
        within = omega arith;
        left = omega (arith, ap (λ (ts : List Slot). length (leading ts)) e);
        slots = ap all_slots (sym e) ∙ all-slots-drop (place + 1) (slots_at store 64 heap) o;
      }

  module _ (j : ℕ) (h : j < heap) (c : Counted j) where
    here : is_slot (slot_at store (64 + 16 * j)) && all_slots (behind (j + 1)) ≡ true
    here = ap all_slots (sym (slots_next store 64 heap j h)) ∙ c.slots

    -- the sort that was read
    sort_is : get_or store (64 + 16 * j) 0 ≡ (slot_at store (64 + 16 * j)).sort
    sort_is = sort-read store (64 + 16 * j) (and_left (is_slot (slot_at store (64 + 16 * j))) (all_slots (behind (j + 1))) here)

    -- the next cell's own slot
    pub counted-cell : 3 ≤ get_or store (64 + 16 * j) 0 → j - (place + 1) ≡ held
    unfolding leading
    counted-cell s =
        let k : 3 ≤ (slot_at store (64 + 16 * j)).sort = omega (arith, s, sort_is) in
        let z : length (leading (behind j)) ≡ 0 = ap (λ (ts : List Slot). length (leading ts)) (slots_next store 64 heap j h) ∙ rw (le-leb 3 (slot_at store (64 + 16 * j)).sort k) refl in
        omega (arith, c.left, z)

    -- one more
    pub counted_next : get_or store (64 + 16 * j) 0 < 3 → Counted (j + 1)
    unfolding leading
    counted_next s =
        let k : (slot_at store (64 + 16 * j)).sort < 3 = omega (arith, s, sort_is) in
        let z : length (leading (behind j)) ≡ suc (length (leading (behind (j + 1)))) =
        ap (λ (ts : List Slot). length (leading ts)) (slots_next store 64 heap j h) ∙ rw (lt-leb 3 (slot_at store (64 + 16 * j)).sort k) refl in
        record {
          past = omega (arith, c.past);
          within = omega arith;
          left = omega (arith, c.past, c.left, z);
          slots = and_right (is_slot (slot_at store (64 + 16 * j))) (all_slots (behind (j + 1))) here;
        }

  -- slots of values from the first on, one after the other
  pub counted-to : Counted (place + 1) → (j : ℕ) → place + 1 ≤ j → j ≤ heap → ((k : ℕ) → place + 1 ≤ k → k < j → get_or store (64 + 16 * k) 0 < 3) → Counted j
  counted-to c j low high f = let e : place + 1 + (j - (place + 1)) ≡ j = omega arith in subst Counted e (go (j - (place + 1)) (omega arith) (λ k l h. f k l (omega arith)))
    where
      go : (n : ℕ) → place + 1 + n ≤ heap → ((k : ℕ) → place + 1 ≤ k → k < place + 1 + n → get_or store (64 + 16 * k) 0 < 3) → Counted (place + 1 + n)
      go zero h g = let e : place + 1 ≡ place + 1 + 0 = omega arith in subst Counted e c
      go (suc n) h g =
          let e : place + 1 + n + 1 ≡ place + 1 + suc n = omega arith in
          subst Counted e (counted_next (place + 1 + n) (omega arith) (go n (omega arith) (λ k l m. g k l (omega arith))) (g (place + 1 + n) (omega arith) (omega arith)))

  -- the end
  pub counted-all : (j : ℕ) → heap ≤ j → Counted j → j - (place + 1) ≡ held
  unfolding leading
  counted-all j h c = let z : length (leading (behind j)) ≡ 0 = ap (λ (ts : List Slot). length (leading ts)) (slots-past store 64 heap j h) in omega (arith, c.left, z)

  -- where the count ends, and how many it counts
  pub counted_found : Counted (place + 1) → place < heap → (o : code.Option ℕ)
      → MatchOption o ((k : ℕ) → place + 1 ≤ k → k < heap → get_or store (64 + 16 * k) 0 < 3)
      (λ i. (place + 1 ≤ i) × (i < heap) × (3 ≤ get_or store (64 + 16 * i) 0) × ((k : ℕ) → place + 1 ≤ k → k < i → get_or store (64 + 16 * k) 0 < 3))
      → (place + 1 ≤ unwrap_or o heap) × (unwrap_or o heap - (place + 1) ≡ held)
  counted_found c p None f = (omega arith, counted-all heap (omega arith) (counted-to c heap (omega arith) (omega arith) f))
  counted_found c p (Some i) f = (f.0, counted-cell i f.1 (counted-to c i f.0 (omega (arith, f.1)) f.3) f.2)

-- ── the cell that a slot refers to ──

-- its own slot is one
pub own-slot : (store : List ℕ) (n p : ℕ) → p < n → all_slots (slots_at store 64 n) ≡ true → is_slot (slot_at store (64 + 16 * p)) ≡ true
own-slot store n p h o =
    let e = slots-drop store 64 n p ∙ slots_next store 64 n p h in
    and_left (is_slot (slot_at store (64 + 16 * p))) (all_slots (slots_at store (64 + 16 * (p + 1)) (n - (p + 1)))) (ap all_slots (sym e) ∙ all-slots-drop p (slots_at store 64 n) o)

pub no-reference : (heap : List Slot) (t : Slot) → (t.sort ≡ 1 → ⊥) → no_cell_lem ≡ cell_in' heap t
unfolding cell_in'
no-reference heap t h = rw (ne_eqb t.sort 1 h) refl

module _ (store : List ℕ) (h : Header) (t : Slot) {n p : ℕ} (f : n ≡ h.heap) (e : p ≡ t.payload) where
  all : slots_at store 64 n ≡ heap_in store h
  all = ap (slots_at store 64) f

  -- outside
  pub past-reference : n ≤ p → no_cell_lem ≡ cell_in' (heap_in store h) t
  unfolding cell_in'
  past-reference k = sym (go (eqb t.sort 1))
    where
      none_there : drop t.payload (heap_in store h) ≡ []
      none_there = slots-drop store 64 h.heap t.payload ∙ slots-past store 64 h.heap t.payload (omega (arith, e, f))

      go : (b : Bool) → cond b (cell_from t.payload (drop t.payload (heap_in store h))) no_cell_lem ≡ no_cell_lem
      go true = ap (cell_from t.payload) none_there
      go false = refl

  -- its own slot, and how many it holds
  pub reference : t.sort ≡ 1 → p < n → {own : Slot} {len : ℕ} → own ≡ slot_at store (64 + 16 * p) → len ≡ length (leading (drop (p + 1) (slots_at store 64 n)))
      → record { sort = own.sort; id = own.id; number = own.payload; from = 64 + 16 * (p + 1); len = len } ≡ cell_in' (heap_in store h) t
  unfolding cell_in'
  reference s k {own} {len} o l =
      let q : drop t.payload (heap_in store h) ≡ slot_at store (64 + 16 * p) ∷ slots_at store (64 + 16 * (p + 1)) (n - (p + 1)) =
      ap (λ (i : ℕ). drop i (heap_in store h)) (sym e) ∙ (ap (drop p) (sym all) ∙ (slots-drop store 64 n p ∙ slots_next store 64 n p k)) in
      let m : len ≡ length (leading (slots_at store (64 + 16 * (p + 1)) (n - (p + 1)))) = l ∙ ap (λ (ts : List Slot). length (leading ts)) (slots-drop store 64 n (p + 1)) in
      (λ i. record { sort = (o i).sort; id = (o i).id; number = (o i).payload; from = 64 + 16 * (e i + 1); len = m i }) ∙ sym (rw (eq-eqb t.sort 1 s) (ap (cell_from t.payload) q))
