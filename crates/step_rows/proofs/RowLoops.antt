-- A loop over n places with a test at each: what was passed, and what is left. And the tests of lists of IDs, place by place. Assumes nothing.
use Prim.Native.Nat.{ℕ, zero, suc, ◌+◌, ◌≤◌, ◌<◌}
use mathlib.Core.Path.{◌≡◌, refl, sym, ap, ap₂, ◌∙◌}
use mathlib.Core.Bool.{Bool, true, false, not, ◌&&◌, ◌||◌, beq}
use mathlib.Core.List.{List, [], ◌∷◌}
use native.Mathlib.Omega.{arith}
use native.Mathlib.Numerals.{add-one}
use lib.ListN.{length, drop}
use lib.Seq.{drop-cons, drop-length}
use Rattle.std.specs.List.{list_all, list_any, range_with_len}
use Rattle.syntax.specs.Names.{same_var_id}
use Rattle.syntax.specs.Sets.{elem, distinct}
use Rattle.syntax.specs.declared.names.VarId.{VarId}
use Rattle.model.specs.Lists.{every}
use Rattle.model.specs.Linear.{same_ids}
use Rattle.step_rows.specs.declared.row.Row.{Row}
use Rattle.step_rows.specs.Rows.{ids_of, id_at}
use Rattle.step_rows.specs.Placing.{identified}
use Rattle.step_rows.specs.Apart.{agrees}
use Rattle.step_rows.proofs.RowLaws.{ids-length}

-- what is left from place j on is the test of place j, and what is left from the next on
pub record Turns (n : ℕ) (left test : ℕ → Bool) : Type 0 where
  pub turn : (j : ℕ) → j < n → left j ≡ (test j && left (j + 1))
  pub end : left n ≡ true

-- all places are asked, one after the other
pub turned-all : {n : ℕ} {left test : ℕ → Bool} → Turns n left test → list_all test (range_with_len 0 n) ≡ left 0
turned-all {n} {left} {test} t = go 0 n (omega arith)
  where
    go : (j m : ℕ) → j + m ≡ n → list_all test (range_with_len j m) ≡ left j
    go j zero e = let k : n ≡ j = omega (arith, e) in sym (ap left (sym k) ∙ t.end)
    go j (suc m) e = ap (λ (b : Bool). test j && b) (go (j + 1) m (omega (arith, e))) ∙ sym (t.turn j (omega (arith, e)))

-- the places before j have passed
pub record Passed (n : ℕ) (left : ℕ → Bool) (j : ℕ) : Type 0 where
  pub within : j ≤ n
  pub same : left 0 ≡ left j

pub passed_none : {n : ℕ} {left : ℕ → Bool} → Passed n left 0
passed_none = record { within = omega arith; same = refl }

module _ {n : ℕ} {left test : ℕ → Bool} where
  pub passed-next : {j : ℕ} → Turns n left test → Passed n left j → j < n → test j ≡ true → Passed n left (j + 1)
  passed-next {j} t p h e = record { within = omega arith; same = p.same ∙ (t.turn j h ∙ ap (λ (b : Bool). b && left (j + 1)) e) }

  pub passed_not : {j : ℕ} → Turns n left test → Passed n left j → j < n → test j ≡ false → false ≡ left 0
  passed_not {j} t p h e = sym (p.same ∙ (t.turn j h ∙ ap (λ (b : Bool). b && left (j + 1)) e))

  pub passed-all : {j : ℕ} → Turns n left test → Passed n left j → n ≤ j → true ≡ left 0
  passed-all {j} t p h = let k : j ≡ n = omega (arith, p.within) in sym (p.same ∙ (ap left k ∙ t.end))

-- ---- the tests of lists of IDs

pub not_or : (a b : Bool) → not (a || b) ≡ (not a && not b)
not_or true b = refl
not_or false b = refl

-- two answers compared
pub agrees_is : (wanted found : Bool) → agrees wanted found ≡ beq found wanted
agrees_is true true = refl
agrees_is true false = refl
agrees_is false true = refl
agrees_is false false = refl

module _ (row : Row) where
  -- the IDs from place j on, where one stands
  from_place : (j : ℕ) → j < row.places.len → drop j (ids_of row) ≡ id_at row j ∷ drop (j + 1) (ids_of row)
  from_place j h = drop-cons (ids_of row) j (identified 0) (omega (arith, ids-length row.bytes.now row.places)) ∙ ap (λ (k : ℕ). id_at row j ∷ drop k (ids_of row)) (sym (add-one j))

  from_end : drop row.places.len (ids_of row) ≡ []
  from_end = ap (λ (k : ℕ). drop k (ids_of row)) (sym (ids-length row.bytes.now row.places)) ∙ drop-length (ids_of row)

  pub every_turns : (p : VarId → Bool) → Turns row.places.len (λ j. every p (drop j (ids_of row))) (λ j. p (id_at row j))
  every_turns p = record { turn = λ j h. ap (every p) (from_place j h); end = ap (every p) from_end }

  pub distinct_turns : Turns row.places.len (λ j. distinct (drop j (ids_of row))) (λ j. not (elem (id_at row j) (drop (j + 1) (ids_of row))))
  distinct_turns = record { turn = λ j h. ap distinct (from_place j h); end = ap distinct from_end }

  -- is x one of the IDs from place j on, asked one place after the other?
  pub elem-listed : (x : VarId) (j n : ℕ) → j + n ≡ row.places.len → list_any (λ k. same_var_id x (id_at row k)) (range_with_len j n) ≡ elem x (drop j (ids_of row))
  elem-listed x j zero e = let k : row.places.len ≡ j = omega (arith, e) in sym (ap (λ (i : ℕ). elem x (drop i (ids_of row))) (sym k) ∙ ap (elem x) from_end)
  elem-listed x j (suc n) e =
      ap (λ (b : Bool). same_var_id x (id_at row j) || b) (elem-listed x (j + 1) n (omega (arith, e)))
      ∙ sym (ap (elem x) (from_place j (omega (arith, e))))

pub same_turns : (row other : Row) → row.places.len ≡ other.places.len
    → Turns row.places.len (λ j. same_ids (drop j (ids_of row)) (drop j (ids_of other))) (λ j. same_var_id (id_at row j) (id_at other j))
same_turns row other e = record {
  turn = λ j h. let k : j < other.places.len = omega arith in ap₂ same_ids (from_place row j h) (from_place other j k);
  end = ap₂ same_ids (from_end row) (ap (λ (k : ℕ). drop k (ids_of other)) e ∙ from_end other);
}

-- lists of different lengths
pub same-lengths : (xs ys : List VarId) → (length xs ≡ length ys → ⊥) → false ≡ same_ids xs ys
same-lengths [] [] h = absurd (h refl)
same-lengths [] (y ∷ ys) h = refl
same-lengths (x ∷ xs) [] h = refl
same-lengths (x ∷ xs) (y ∷ ys) h = go (same_var_id x y) (same-lengths xs ys (λ e. h (ap suc e)))
  where
    go : (b : Bool) → false ≡ same_ids xs ys → false ≡ (b && same_ids xs ys)
    go true e = e
    go false e = refl
