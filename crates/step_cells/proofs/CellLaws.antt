-- What is looked up for the slot of a value says which cell of the model the value is, and where what it holds stands. Assumes nothing.
use Prim.Native.Nat.{ℕ, zero, suc, ◌<◌}
use mathlib.Core.Path.{◌≡◌, refl, sym, ap, ap₂, ◌∙◌, subst}
use mathlib.Core.List.{List, [], ◌∷◌, map}
use mathlib.Core.Option.{Option, none, some}
use native.Mathlib.Omega.{arith}
use lib.IntN.{ℤ}
use lib.ListN.{length}
use Rattle.syntax.specs.declared.names.VarId.{VarId}
use Rattle.model.specs.Syntax.{Prog}
use Rattle.model.specs.Lists.{lookup}
use Rattle.model.specs.Machine.{Value, int, cell, outside, Entries, Cells, Outcome, halts, or_halt, nth, as_xtor, matched, clo, as_closure, invoked}
use Rattle.image_places_spec.specs.Views.{clauses_in}
use Rattle.step_slots.specs.Slots.{Slot, slot, value_slot}
use Rattle.step_spec.specs.Located.{Machine, Kept, held, made, Located, stmt_in, cell_in}
use Rattle.step_spec.specs.Store.{place_of, entry_slot, block_of, ValueFits, KeptFits}
use Rattle.step_spec.proofs.Lists.{all-at}
use Rattle.step_spec.proofs.Representable.{lookup-fits}
use Rattle.step_header.specs.declared.Header.{Header}
use Rattle.step_header.specs.Headers.{heap_in}
use Rattle.step_rule.specs.Rules.{Stored}
use Rattle.step_rule.proofs.Views.{viewed}
use Rattle.step_rule.proofs.Finds.{Sees, sees_none, sees-int, sees-cell, sees-outside}
use Rattle.step_cells.specs.Cells.{Cell, cell_in'}
use Rattle.step_cells.proofs.HeldLaws.{no-reference}
use Rattle.step_cells.proofs.HeapLaws.{Among, cell-number, cell_of, cell-there, Holding, holding}

-- ── what is said of a value that may be there, by its slot and by the cell that was looked up for it ──

-- it is no cell
pub data NoCell (o : Option Value) (t : Slot) : Type 0 where
  no_value : o ≡ none → t.sort ≡ 5 → NoCell o t
  an_int : (z : ℤ) → o ≡ some (int z) → t.sort ≡ 0 → NoCell o t
  an_outside : o ≡ some (outside t.payload) → t.sort ≡ 2 → NoCell o t

module _ (P : Prog) (store : List ℕ) (h : Header) (l : Located) where
  -- it is the cell of a Let: which, with what tag and fields, and where their slots stand
  pub record OfLet (o : Option Value) (r : Cell) : Type 0 where
    pub fields : List Value
    pub is : o ≡ some (cell r.number)
    pub kept : nth r.number l.cells ≡ some (held (record { 0 = r.id }) fields)
    pub fits : KeptFits P (length l.cells) (held (record { 0 = r.id }) fields)
    pub sort : r.sort ≡ 3
    pub holds : Holding store h.heap r (map (value_slot (place_of l.cells) 0) fields)

  -- .. or of a Create: at which place, with what entries
  pub record OfCreate (o : Option Value) (r : Cell) : Type 0 where
    pub entries : Entries
    pub is : o ≡ some (cell r.number)
    pub kept : nth r.number l.cells ≡ some (made r.id entries)
    pub fits : KeptFits P (length l.cells) (made r.id entries)
    pub sort : r.sort ≡ 4
    pub holds : Holding store h.heap r (map (entry_slot (place_of l.cells)) entries)

  pub data Meets (o : Option Value) (t : Slot) (r : Cell) : Type 0 where
    meets_none : NoCell o t → r.sort ≡ 5 → Meets o t r
    meets_let : t.sort ≡ 1 → OfLet o r → Meets o t r
    meets-create : t.sort ≡ 1 → OfCreate o r → Meets o t r

-- ── it is so ──

nth-there : {A : Type 0} (i : ℕ) (xs : List A) → i < length xs → nth i xs ≡ none → ⊥
nth-there zero [] h e = omega arith
nth-there (suc i) [] h e = omega arith
nth-there zero (x ∷ xs) h e = let z : ◌≡◌ {A = ℕ} 0 1 = cc in omega arith
nth-there (suc i) (x ∷ xs) h e = nth-there i xs (omega arith) e

-- a slot that refers to no cell
no_cell : (heap : List Slot) (t : Slot) → (t.sort ≡ 1 → ⊥) → {r : Cell} → r ≡ cell_in' heap t → r.sort ≡ 5
no_cell heap t n e = ap (λ (c : Cell). c.sort) (e ∙ sym (no-reference heap t n))

module _ {M : Machine} {P : Prog} {store : List ℕ} {h : Header} {l : Located} (o : Stored M P store h l) where
  abbrev of : ℕ → ℕ
  of = place_of l.cells

  -- what the cell numbered k holds
  held-there : (k : ℕ) (c : Kept) → nth k l.cells ≡ some c → Holding store h.heap (cell_of (of k) (block_of of k c)) (block_of of k c).1
  held-there k c e = holding (viewed o).heap_slots (subst (λ (ts : List Slot). Among ts (of k) (block_of of k c)) (sym (viewed o).heap) (cell-number l.cells k c e))

  cell-fits : (k : ℕ) (c : Kept) → nth k l.cells ≡ some c → KeptFits P (length l.cells) c
  cell-fits k c e = all-at (KeptFits P (length l.cells)) l.cells k c (viewed o).fits.cells e

  meets-cell : {w : Option Value} (k i : ℕ) (c : Kept) → w ≡ some (cell k) → nth k l.cells ≡ some c → Meets P store h l w (slot 1 i (of k)) (cell_of (of k) (block_of of k c))
  meets-cell k i (held tag fields) w e = meets_let refl record { fields = fields; is = w; kept = e; fits = cell-fits k (held tag fields) e; sort = refl; holds = held-there k (held tag fields) e }
  meets-cell k i (made place entries) w e =
      meets-create refl record { entries = entries; is = w; kept = e; fits = cell-fits k (made place entries) e; sort = refl; holds = held-there k (made place entries) e }

  -- a value that is there, under any ID
  pub meets : (i : ℕ) (v : Value) {w : Option Value} {t : Slot} {r : Cell} → w ≡ some v → ValueFits (length l.cells) v → t ≡ value_slot of i v → r ≡ cell_in' (heap_in store h) t
      → Meets P store h l w t r
  meets i (int z) {t = t} w f e q = let s : t.sort ≡ 0 = ap (λ (t : Slot). t.sort) e in meets_none (an_int z w s) (no_cell (heap_in store h) t (λ u. omega (arith, s, u)) q)
  meets i (outside n) {t = t} w f e q =
      let s : t.sort ≡ 2 = ap (λ (t : Slot). t.sort) e in
      meets_none (an_outside (w ∙ ap (λ (t : Slot). some (outside t.payload)) (sym e)) s) (no_cell (heap_in store h) t (λ u. omega (arith, s, u)) q)
  meets i (cell k) {w} {t} {r} a f e q = go (nth k l.cells) refl
    where
      go : (c : Option Kept) → nth k l.cells ≡ c → Meets P store h l w t r
      go none n = absurd (nth-there k l.cells f n)
      go (some c) n =
          let m : r ≡ cell_of (of k) (block_of of k c) = q ∙ (ap₂ {C = Cell} (λ (heap : List Slot) (t : Slot). cell_in' heap t) (viewed o).heap e ∙ cell-there l.cells k i c n) in
          rw (e, m) (meets-cell k i c a n)

  -- a variable that was looked up
  pub looked-up : (x : VarId) {t : Slot} {r : Cell} → Sees of x l.environment t → r ≡ cell_in' (heap_in store h) t → Meets P store h l (lookup x l.environment) t r
  looked-up x {t} {r} s e = go s e
    where
      fits : (v : Value) → lookup x l.environment ≡ some v → ValueFits (length l.cells) v
      fits v f = lookup-fits (length l.cells) x l.environment v (viewed o).fits.environment f

      go : {t : Slot} → Sees of x l.environment t → r ≡ cell_in' (heap_in store h) t → Meets P store h l (lookup x l.environment) t r
      go {t} (sees_none f) e = meets_none (no_value f refl) (no_cell (heap_in store h) t (λ u. omega arith) e)
      go (sees-int z f b) e = meets x.0 (int z) f (fits (int z) f) refl e
      go (sees-cell k f) e = meets x.0 (cell k) f (fits (cell k) f) refl e
      go (sees-outside n f) e = meets x.0 (outside n) f (fits (outside n) f) refl e

-- ── what the machines find ──

abbrev pub cells_of : Prog → Located → Cells
cells_of P l = map (cell_in P) l.cells

nth-map : {A B : Type 0} (f : A → B) (i : ℕ) (xs : List A) (a : A) → nth i xs ≡ some a → nth i (map f xs) ≡ some (f a)
nth-map f zero [] a e = let z : ◌≡◌ {A = ℕ} 0 1 = cc in absurd (omega arith)
nth-map f (suc i) [] a e = let z : ◌≡◌ {A = ℕ} 0 1 = cc in absurd (omega arith)
nth-map f zero (x ∷ xs) a e = let q : x ≡ a = cc in ap (λ y. some (f y)) q
nth-map f (suc i) (x ∷ xs) a e = nth-map f i xs a e

-- no value, or one of which nothing is said
pub data Lacks {A : Type 0} (f : Value → Option A) (o : Option Value) : Type 0 where
  lacks_value : o ≡ none → Lacks f o
  lacks_such : (v : Value) → o ≡ some v → f v ≡ none → Lacks f o

-- then the machine halts, if it halts at every value of which nothing is said
pub lacks_halts : {A : Type 0} {f : Value → Option A} {o : Option Value} → Lacks f o → (g : Value → Outcome) → ((v : Value) → f v ≡ none → g v ≡ halts) → or_halt o g ≡ halts
lacks_halts (lacks_value e) g k = ap (λ (o : Option Value). or_halt o g) e
lacks_halts (lacks_such v e n) g k = ap (λ (o : Option Value). or_halt o g) e ∙ k v n

module _ {P : Prog} {store : List ℕ} {h : Header} {l : Located} {o : Option Value} {r : Cell} where
  pub matched_let : (c : OfLet P store h l o r) → matched (cells_of P l) (cell r.number) ≡ some (r.number, record { 0 = r.id }, c.fields)
  matched_let c = ap (as_xtor r.number) (nth-map (cell_in P) r.number l.cells _ c.kept)

  pub invoked-create : (c : OfCreate P store h l o r) → invoked (cells_of P l) (cell r.number) ≡ some (clo r.number c.entries (clauses_in (stmt_in P r.id)))
  invoked-create c = ap (as_closure r.number) (nth-map (cell_in P) r.number l.cells _ c.kept)

  module _ {t : Slot} where
    pub is_let : Meets P store h l o t r → r.sort ≡ 3 → OfLet P store h l o r
    is_let (meets_none n u) w = absurd (omega (arith, u, w))
    is_let (meets_let s c) w = c
    is_let (meets-create s c) w = absurd (omega (arith, c.sort, w))

    pub is_create_lem : Meets P store h l o t r → r.sort ≡ 4 → OfCreate P store h l o r
    is_create_lem (meets_none n u) w = absurd (omega (arith, u, w))
    is_create_lem (meets_let s c) w = absurd (omega (arith, c.sort, w))
    is_create_lem (meets-create s c) w = c

    -- an outside number, by its slot
    pub is_outside : Meets P store h l o t r → t.sort ≡ 2 → o ≡ some (outside t.payload)
    is_outside (meets_none (no_value e s) u) w = absurd (omega (arith, s, w))
    is_outside (meets_none (an_int z e s) u) w = absurd (omega (arith, s, w))
    is_outside (meets_none (an_outside e s) u) w = e
    is_outside (meets_let s c) w = absurd (omega (arith, s, w))
    is_outside (meets-create s c) w = absurd (omega (arith, s, w))

    -- Switch finds nothing
    pub no_let : Meets P store h l o t r → (r.sort ≡ 3 → ⊥) → Lacks (matched (cells_of P l)) o
    no_let (meets_none (no_value e s) u) w = lacks_value e
    no_let (meets_none (an_int z e s) u) w = lacks_such (int z) e refl
    no_let (meets_none (an_outside e s) u) w = lacks_such (outside t.payload) e refl
    no_let (meets_let s c) w = absurd (w c.sort)
    no_let (meets-create s c) w = lacks_such (cell r.number) c.is (ap (as_xtor r.number) (nth-map (cell_in P) r.number l.cells _ c.kept))

    -- Invoke finds nothing
    pub no_target : Meets P store h l o t r → (t.sort ≡ 2 → ⊥) → (r.sort ≡ 4 → ⊥) → Lacks (invoked (cells_of P l)) o
    no_target (meets_none (no_value e s) u) x w = lacks_value e
    no_target (meets_none (an_int z e s) u) x w = lacks_such (int z) e refl
    no_target (meets_none (an_outside e s) u) x w = absurd (x s)
    no_target (meets_let s c) x w = lacks_such (cell r.number) c.is (ap (as_closure r.number) (nth-map (cell_in P) r.number l.cells _ c.kept))
    no_target (meets-create s c) x w = absurd (w c.sort)
