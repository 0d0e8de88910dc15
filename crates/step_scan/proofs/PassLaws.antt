-- One pass over the slots of a store. In order: tests of the records of a program; slots by their places; a value; what is left of a pass over the
-- slots of the cells, and of one over the entries. Assumes nothing.
use Prim.Native.Nat.{ℕ, ◌+◌, ◌-◌, ◌*◌, ◌≤◌, ◌<◌}
use mathlib.Core.Path.{◌≡◌, refl, sym, ap, ◌∙◌}
use mathlib.Core.Bool.{Bool, true, false, ◌&&◌}
use mathlib.Core.List.{List, ◌∷◌}
use native.Mathlib.Omega.{arith}
use native.Mathlib.Numerals.{add-one}
use borrow.Author.Tests.{le-leb, lt-leb, eq-eqb, ne_eqb}
use lib.Dec.{leb, eqb}
use lib.ListN.{drop}
use Rattle.model.specs.Syntax.{Prog}
use Rattle.image_spec.specs.Records.{Record}
use Rattle.step_slots.specs.Slots.{Slot, is_cell_lem}
use Rattle.step_slots.specs.Views.{slot_at, slots_at}
pub use Rattle.step_slots.proofs.SlotPlaces.{slots-drop, slots_next, slots-past}
use Rattle.step_slots.proofs.SlotPlaces.{slots-first}
use Rattle.step_spec.specs.Store.{first_slot, every_slot, first_record, is_a_statement, is_a_create, statement_at, create_at, entry_ok}
use Rattle.step_spec.specs.Scan.{held_ok, head_ok}
use Rattle.image_directory.specs.declared.Frame.{Frame}
use Rattle.image_directory.specs.Slots as image
use Rattle.step_scan.specs.Pass.{Of, pass}

-- ── kinds of records, of the program whose records they are ──

pub create-of : {P : Prog} {g : Frame} {s : List ℕ} (i : ℕ) → Of P g s → first_record is_a_create (drop i (image.records_in g s)) ≡ create_at P i
unfolding create_at
create-of i o = ap (λ (rs : List Record). first_record is_a_create (drop i rs)) o.records

pub statement-of : {P : Prog} {g : Frame} {s : List ℕ} (i : ℕ) → Of P g s → first_record is_a_statement (drop i (image.records_in g s)) ≡ statement_at P i
unfolding statement_at
statement-of i o = ap (λ (rs : List Record). first_record is_a_statement (drop i rs)) o.records

-- ── slots by their places ──

pub cell_at : (s : List ℕ) (at n i : ℕ) → i < n → first_slot is_cell_lem (drop i (slots_at s at n)) ≡ leb 3 (slot_at s (at + 16 * i)).sort
cell_at s at n i h = ap (first_slot is_cell_lem) (slots-drop s at n i ∙ slots_next s at n i h)

pub cell-past : (s : List ℕ) (at n i : ℕ) → n ≤ i → first_slot is_cell_lem (drop i (slots_at s at n)) ≡ false
cell-past s at n i h = ap (first_slot is_cell_lem) (slots-drop s at n i ∙ slots-past s at n i h)

-- ── a value ──

module _ (P : Prog) (heap : List Slot) where
  -- ── what a cell holds ──

  pub held-field : (k : ℕ) (t : Slot) → k ≡ 3 → t.id ≡ 0 → held_ok P heap k t ≡ entry_ok P heap t
  held-field k t e i = let z : k ≡ 0 → ⊥ = λ q. absurd (omega (arith, e, q)) in rw (ne_eqb k 0 z, eq-eqb k 3 e, eq-eqb t.id 0 i) refl

  pub held-entry : (k : ℕ) (t : Slot) → (k ≡ 0 → ⊥) → (k ≡ 3 → ⊥) → held_ok P heap k t ≡ entry_ok P heap t
  held-entry k t a b = rw (ne_eqb k 0 a, ne_eqb k 3 b) refl

  pub head-create : (t : Slot) → (t.sort ≡ 3 → ⊥) → head_ok P heap t ≡ create_at P t.id
  head-create t e = rw (ne_eqb t.sort 3 e) refl

  -- ── the turns of the loop ──

  module _ (cells : ℕ) where
    pub pass_none : (k f : ℕ) (t : Slot) (ts : List Slot) → 4 < t.sort → pass P heap cells k f (t ∷ ts) ≡ false
    unfolding pass
    pass_none k f t ts h = rw (lt-leb t.sort 4 h) refl

    pub pass-number : (k f : ℕ) (t : Slot) (ts : List Slot) → t.sort ≤ 4 → 3 ≤ t.sort → (t.payload ≡ k → ⊥) → pass P heap cells k f (t ∷ ts) ≡ false
    unfolding pass
    pass-number k f t ts h c n = rw (le-leb t.sort 4 h, le-leb 3 t.sort c, ne_eqb t.payload k n) refl

    pub pass-cell : (k f : ℕ) (t : Slot) (ts : List Slot) (b : Bool) → t.sort ≤ 4 → 3 ≤ t.sort → t.payload ≡ k → head_ok P heap t ≡ b
        → pass P heap cells k f (t ∷ ts) ≡ b && pass P heap cells (k + 1) t.sort ts
    unfolding pass
    pass-cell k f t ts b h c n e = rw (le-leb t.sort 4 h, le-leb 3 t.sort c, eq-eqb t.payload k n, e, add-one k) refl

    pub pass-held : (k f : ℕ) (t : Slot) (ts : List Slot) (b : Bool) → t.sort < 3 → held_ok P heap f t ≡ b → pass P heap cells k f (t ∷ ts) ≡ b && pass P heap cells k f ts
    unfolding pass
    pass-held k f t ts b h e = let z : t.sort ≤ 4 = omega arith in rw (le-leb t.sort 4 z, lt-leb 3 t.sort h, e) refl

-- ── what is left of a pass over the slots of the cells ──

module _ (g : Frame) (s store : List ℕ) (cells heap : ℕ) where
  abbrev all : List Slot
  all = slots_at store 64 heap

  abbrev after : ℕ → List Slot
  after i = slots_at store (64 + 16 * (i + 1)) (heap - (i + 1))

  pub record Left (k f i : ℕ) : Type 0 where
    pub within : i ≤ heap
    pub numbered : k ≤ i
    pub left : (P : Prog) → Of P g s → pass P all cells 0 0 all ≡ pass P all cells k f (slots_at store (64 + 16 * i) (heap - i))

  pub left-all : Left 0 0 0
  left-all = record { within = omega arith; numbered = omega arith; left = λ P o. ap (pass P all cells 0 0) (sym (slots-first store 64 heap)) }

  left-head : (k f i : ℕ) (t : Slot) → i < heap → t ≡ slot_at store (64 + 16 * i) → Left k f i → (P : Prog) → Of P g s → pass P all cells 0 0 all ≡ pass P all cells k f (t ∷ after i)
  left-head k f i t h e l P o = l.left P o ∙ ap (pass P all cells k f) (slots_next store 64 heap i h ∙ ap (λ (z : Slot). z ∷ after i) (sym e))

  pub left-next : (k f i j q : ℕ) (t : Slot) → i < heap → t ≡ slot_at store (64 + 16 * i) → Left k f i → j ≤ i + 1
      → ((P : Prog) → Of P g s → pass P all cells k f (t ∷ after i) ≡ pass P all cells j q (after i)) → Left j q (i + 1)
  left-next k f i j q t h e l n p = record { within = omega arith; numbered = n; left = λ P o. left-head k f i t h e l P o ∙ p P o }

  pub left-no : (k f i : ℕ) (t : Slot) → i < heap → t ≡ slot_at store (64 + 16 * i) → Left k f i
      → ((P : Prog) → Of P g s → pass P all cells k f (t ∷ after i) ≡ false) → (P : Prog) → Of P g s → false ≡ pass P all cells 0 0 all
  left-no k f i t h e l p P o = sym (left-head k f i t h e l P o ∙ p P o)

  pub left_end : (k f i : ℕ) → heap ≤ i → Left k f i → (P : Prog) → Of P g s → eqb k cells ≡ pass P all cells 0 0 all
  unfolding pass
  left_end k f i h l P o = sym (l.left P o ∙ ap (pass P all cells k f) (slots-past store 64 heap i h))

-- ── .. and of one over the entries ──

module _ (store : List ℕ) (heap entries : ℕ) where
  abbrev ok : Prog → List Slot → Bool
  ok P es = every_slot (entry_ok P (slots_at store 64 heap)) es

  pub record EntriesLeft (i : ℕ) : Type 0 where
    pub within : i ≤ entries
    pub left : (P : Prog) → ok P (slots_at store (64 + 16 * heap) entries) ≡ ok P (slots_at store (64 + 16 * heap + 16 * i) (entries - i))

  pub entries-all : EntriesLeft 0
  entries-all = record { within = omega arith; left = λ P. ap (ok P) (sym (slots-first store (64 + 16 * heap) entries)) }

  entries-head : (i : ℕ) (t : Slot) → i < entries → t ≡ slot_at store (64 + 16 * (heap + i)) → EntriesLeft i → (P : Prog)
      → ok P (slots_at store (64 + 16 * heap) entries) ≡ entry_ok P (slots_at store 64 heap) t && ok P (slots_at store (64 + 16 * heap + 16 * (i + 1)) (entries - (i + 1)))
  entries-head i t h e l P =
      let k : 64 + 16 * (heap + i) ≡ 64 + 16 * heap + 16 * i = omega arith in
      let q : slot_at store (64 + 16 * heap + 16 * i) ≡ t = sym (e ∙ ap (slot_at store) k) in
      l.left P ∙ ap (ok P) (slots_next store (64 + 16 * heap) entries i h ∙ ap (λ (z : Slot). z ∷ slots_at store (64 + 16 * heap + 16 * (i + 1)) (entries - (i + 1))) q)

  pub entries_next : (i : ℕ) (t : Slot) (b : Bool) → i < entries → t ≡ slot_at store (64 + 16 * (heap + i)) → EntriesLeft i → ((P : Prog) → b ≡ entry_ok P (slots_at store 64 heap) t) → b ≡ true → EntriesLeft (i + 1)
  entries_next i t b h e l p q = record {
    within = omega arith;
    left = λ P. entries-head i t h e l P ∙ ap (λ (z : Bool). z && ok P (slots_at store (64 + 16 * heap + 16 * (i + 1)) (entries - (i + 1)))) (sym (p P) ∙ q);
  }

  pub entries-no : (i : ℕ) (t : Slot) (b : Bool) → i < entries → t ≡ slot_at store (64 + 16 * (heap + i)) → EntriesLeft i → ((P : Prog) → b ≡ entry_ok P (slots_at store 64 heap) t) → b ≡ false
      → (P : Prog) → false ≡ ok P (slots_at store (64 + 16 * heap) entries)
  entries-no i t b h e l p q P = sym (entries-head i t h e l P ∙ ap (λ (z : Bool). z && ok P (slots_at store (64 + 16 * heap + 16 * (i + 1)) (entries - (i + 1)))) (sym (p P) ∙ q))

  pub entries-end : (i : ℕ) → entries ≤ i → EntriesLeft i → (P : Prog) → true ≡ ok P (slots_at store (64 + 16 * heap) entries)
  entries-end i h l P = sym (l.left P ∙ ap (ok P) (slots-past store (64 + 16 * heap) entries i h))
