-- The IDs of values that are written one after the other, each with its ID at the same place, are a row: `each_row`. Assumes nothing.
use Prim.Native.Nat.{ℕ, ◌+◌, ◌^◌, ◌<◌}
use mathlib.Core.Path.{◌≡◌, refl, sym, ap, ap₂, ◌∙◌}
use mathlib.Core.List.{List, [], ◌∷◌, ◌++◌, append_assoc, map}
use native.Mathlib.Omega.{arith}
use lib.ListN.{length, drop}
use Rattle.syntax.specs.declared.names.VarId.{VarId}
use Rattle.image_spec.specs.Parse.{each, All, number, field}
use Rattle.image_spec.proofs.ParseLaws.{number_exact}
use Rattle.step_slots.proofs.SlotLaws.{past}
use Rattle.step_rows.specs.Placing.{identified, number_at, ids_from}
use Rattle.step_rows.proofs.RowLaws.{number_is}

-- how values are written, each with an ID of w bytes at the same place
pub record Written {A : Type 0} (e : A → List ℕ) (P : A → Type 0) (id : A → VarId) (stride offset w : ℕ) : Type 0 where
  pub size : (a : A) → length (e a) ≡ stride
  pub front : A → List ℕ
  pub back : A → List ℕ
  pub parts : (a : A) → e a ≡ front a ++ (field w (id a).0 ++ back a)
  pub before : (a : A) → length (front a) ≡ offset
  pub below : (a : A) → P a → (id a).0 < 256 ^ w

module _ {A : Type 0} {e : A → List ℕ} {P : A → Type 0} {id : A → VarId} {stride offset w : ℕ} (t : Written e P id stride offset w) (s : List ℕ) where
  -- the first
  one : (from : ℕ) (a : A) (m : List ℕ) → P a → drop from s ≡ e a ++ m → number_at s w (from + offset) ≡ (id a).0
  one from a m p q =
      let x = t.front a in
      let y = field w (id a).0 ++ t.back a in
      let z : drop from s ≡ x ++ (y ++ m) = q ∙ (ap (λ (l : List ℕ). l ++ m) (t.parts a) ∙ append_assoc x y m) in
      let k : drop (from + offset) s ≡ field w (id a).0 ++ (t.back a ++ m) = past s x (y ++ m) from offset (t.before a) z ∙ append_assoc (field w (id a).0) (t.back a) m in
      sym (number_is s w (from + offset) (id a).0 (t.back a ++ m) (ap (number w) k ∙ (number_exact w).left (id a).0 (t.below a p) (t.back a ++ m)))

  pub each_row : (from : ℕ) (xs : List A) (m : List ℕ) → All P xs → drop from s ≡ each e xs ++ m → ids_from s stride w (from + offset) (length xs) ≡ map id xs
  unfolding ids_from
  each_row from [] m p q = refl
  each_row from (a ∷ xs) m p q =
      let z : drop from s ≡ e a ++ (each e xs ++ m) = q ∙ append_assoc (e a) (each e xs) m in
      let k : from + offset + stride ≡ from + stride + offset = omega arith in
      ap₂ {C = List VarId} (λ (n : ℕ) (l : List VarId). identified n ∷ l) (one from a (each e xs ++ m) p.0 z)
      (ap (λ (n : ℕ). ids_from s stride w n (length xs)) k ∙ each_row (from + stride) xs m p.1 (past s (e a) (each e xs ++ m) from stride (t.size a) z))
