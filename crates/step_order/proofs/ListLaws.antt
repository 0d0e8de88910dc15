-- The last of a list and what stands before, in rows; of which rows one is sure. Assumes nothing.
use Prim.Native.Nat.{ℕ, suc, ◌-◌}
use mathlib.Core.Path.{◌≡◌, refl, sym, ap, ap₂, ◌∙◌}
use mathlib.Core.Bool.{Bool, true, false, not, ◌&&◌, and-true, false≢true}
use mathlib.Core.List.{List, [], ◌∷◌}
use native.Mathlib.Omega.{arith}
use lib.ListN.{length, take, drop, get_or, take-append-drop}
use lib.Seq.{drop-cons, drop-length}
use Rattle.syntax.specs.Names.{same_var_id}
use Rattle.syntax.specs.Sets.{distinct}
use Rattle.syntax.specs.declared.names.VarId.{VarId}
use Rattle.model.specs.Linear.{before_last, same_ids, ends_in_lem}
use Rattle.image_spec.proofs.DirectoryLaws.{and_left}
use Rattle.step_rows.specs.declared.row.Row.{Row}
use Rattle.step_rows.specs.Rows.{ids_of, id_at, IsBehind}
use Rattle.step_rows.specs.Placing.{identified, ids_in}
use Rattle.step_rows.specs.Apart.{apart}
use Rattle.step_rows.proofs.RowLaws.{ids-length, ids-behind, ids-before}
use Rattle.step_rows.proofs.DistinctLaws.{distinct_append}
use Rattle.step_order.specs.Orderly.{IsFront}
use Rattle.step_order.specs.Sure.{Sure}

-- ---- two tests, the second only where the first holds

module _ {a A : Bool} (asked : a ≡ A) where
  pub and_both : {B r : Bool} → a ≡ true → r ≡ B → r ≡ (A && B)
  and_both {B} t q = q ∙ ap (λ (b : Bool). b && B) (sym t ∙ asked)

  pub and_not : (B : Bool) → a ≡ false → false ≡ (A && B)
  and_not B f = ap (λ (b : Bool). b && B) (sym f ∙ asked)

-- ---- is not all of three so, where it is known of the first two?

module _ (a b c : Bool) where
  pub not_two : not (a && b) ≡ true → not (a && b) ≡ not (a && (b && c))
  not_two e = go a b e
    where
      go : (a b : Bool) → not (a && b) ≡ true → not (a && b) ≡ not (a && (b && c))
      go true true e = absurd (false≢true e)
      go true false e = refl
      go false b e = refl

  pub not_last : not (a && b) ≡ false → not c ≡ not (a && (b && c))
  not_last e = go a b e
    where
      go : (a b : Bool) → not (a && b) ≡ false → not c ≡ not (a && (b && c))
      go true true e = refl
      go true false e = absurd (false≢true (sym e))
      go false b e = absurd (false≢true (sym e))

-- ---- the first n

-- .. of distinct IDs are distinct
distinct-front : (n : ℕ) (l : List VarId) → distinct l ≡ true → distinct (take n l) ≡ true
distinct-front n l d =
    and_left (distinct (take n l)) (distinct (drop n l) && apart (take n l) (drop n l)) (sym (distinct_append (take n l) (drop n l)) ∙ (ap distinct (take-append-drop n l) ∙ d))

-- ---- the last

no_last : (l : List VarId) (x : VarId) → length l ≡ 0 → ends_in_lem (x ∷ []) l ≡ false
no_last [] x h = refl
no_last (y ∷ l) x h = absurd (omega arith)

one_last : (l : List VarId) (x : VarId) (n : ℕ) → length l ≡ suc n → ends_in_lem (x ∷ []) l ≡ same_var_id (get_or l n (identified 0)) x
one_last l x n h =
    let k : length l - 1 ≡ n = omega arith in
    let e : drop (suc n) l ≡ [] = ap (λ (i : ℕ). drop i l) (sym h) ∙ drop-length l in
    ap (λ (i : ℕ). same_ids (drop i l) (x ∷ [])) k
    ∙ (ap (λ (z : List VarId). same_ids z (x ∷ [])) (drop-cons l n (identified 0) (omega arith) ∙ ap (λ (z : List VarId). get_or l n (identified 0) ∷ z) e)
    ∙ and-true (same_var_id (get_or l n (identified 0)) x))

module _ (row : Row) where
  pub last_none : (x : VarId) → row.places.len ≡ 0 → ends_in_lem (x ∷ []) (ids_of row) ≡ false
  last_none x h = no_last (ids_of row) x (ids-length row.bytes.now row.places ∙ h)

  pub last_one : (x : VarId) (n : ℕ) → row.places.len ≡ suc n → ends_in_lem (x ∷ []) (ids_of row) ≡ same_var_id (id_at row n) x
  last_one x n h = one_last (ids_of row) x n (ids-length row.bytes.now row.places ∙ h)

-- ---- the last of a row, and those before

behind_ids : {row rest : Row} {k : ℕ} → IsBehind row k rest → ids_of rest ≡ drop k (ids_of row)
behind_ids {row} {k = k} w = ap₂ {C = List VarId} ids_in w.bytes w.places ∙ ids-behind row.bytes.now row.places k

pub front_ids : {row rest : Row} {k : ℕ} → IsFront row k rest → ids_of rest ≡ take (row.places.len - k) (ids_of row)
front_ids {row} {k = k} w = ap₂ {C = List VarId} ids_in w.bytes w.places ∙ ids-before row.bytes.now row.places (row.places.len - k) (omega arith)

module _ (row other : Row) where
  lengths : length (ids_of row) - length (ids_of other) ≡ row.places.len - other.places.len
  lengths = ap₂ {C = ℕ} (λ (n k : ℕ). n - k) (ids-length row.bytes.now row.places) (ids-length other.bytes.now other.places)

  pub ends-behind : {rest : Row} {k : ℕ} → k ≡ row.places.len - other.places.len → IsBehind row k rest → same_ids (ids_of rest) (ids_of other) ≡ ends_in_lem (ids_of other) (ids_of row)
  ends-behind e w = ap (λ (l : List VarId). same_ids l (ids_of other)) (behind_ids w ∙ ap (λ (n : ℕ). drop n (ids_of row)) (e ∙ sym lengths))

  pub before-front : {rest : Row} → IsFront row other.places.len rest → ids_of rest ≡ before_last (length (ids_of other)) (ids_of row)
  before-front w = front_ids w ∙ ap (λ (n : ℕ). take n (ids_of row)) (sym lengths)

-- ---- where one is sure of a list, one is of the row with its IDs, and of the row's front

pub sure_row : {xs ys : List VarId} {sure : Bool} → ys ≡ xs → Sure sure xs → Sure sure ys
sure_row e f t = ap distinct e ∙ f t

pub sure_front : {row rest : Row} {k : ℕ} {sure : Bool} → IsFront row k rest → Sure sure (ids_of row) → Sure sure (ids_of rest)
sure_front {row} {k = k} w f t = ap distinct (front_ids w) ∙ distinct-front (row.places.len - k) (ids_of row) (f t)
