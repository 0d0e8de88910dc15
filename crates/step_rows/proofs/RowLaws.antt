-- The IDs of a row: how many, the one at a place, those behind a place and those before it. Assumes nothing.
use Prim.Native.Nat.{ℕ, zero, suc, ◌+◌, ◌-◌, ◌*◌, ◌≤◌, ◌<◌}
use mathlib.Core.Path.{◌≡◌, refl, sym, ap, ◌∙◌}
use mathlib.Core.List.{List, ◌∷◌}
use native.Mathlib.Omega.{arith}
use native.Mathlib.Nat.{mul-le-mul_left}
use lib.ListN.{length, take, drop, get_or}
use Rattle.syntax.specs.declared.names.VarId.{VarId}
use Rattle.image_spec.specs.Parse.{got, number}
use Rattle.step_rows.specs.declared.places.Places.{Places}
use Rattle.step_rows.specs.declared.row.Row.{Row}
use Rattle.step_rows.specs.Rows.{ids_of, id_at}
use Rattle.step_rows.specs.Placing.{identified, number_from, number_at, ids_from, ids_in, Inside, behind_of}

-- what was read at a place is the number there
pub number_is : (s : List ℕ) (w at n : ℕ) (m : List ℕ) → number w (drop at s) ≡ got n m → n ≡ number_at s w at
unfolding number_at
number_is s w at n m e = sym (ap number_from e)

module _ (s : List ℕ) (stride w : ℕ) where
  from-length : (at n : ℕ) → length (ids_from s stride w at n) ≡ n
  unfolding ids_from
  from-length at zero = refl
  from-length at (suc n) = ap suc (from-length (at + stride) n)

  from_at : (at n j : ℕ) → j < n → get_or (ids_from s stride w at n) j (identified 0) ≡ identified (number_at s w (at + stride * j))
  unfolding ids_from
  from_at at zero j h = absurd (omega arith)
  from_at at (suc n) zero h = let k : at ≡ at + stride * 0 = omega arith in ap (λ (z : ℕ). identified (number_at s w z)) k
  from_at at (suc n) (suc j) h =
      let k : at + stride + stride * j ≡ at + stride * suc j = omega arith in
      from_at (at + stride) n j (omega arith) ∙ ap (λ (z : ℕ). identified (number_at s w z)) k

  from-drop : (at n k : ℕ) → ids_from s stride w (at + stride * k) (n - k) ≡ drop k (ids_from s stride w at n)
  unfolding ids_from
  from-drop at zero zero = refl
  from-drop at zero (suc k) = let z : 0 - suc k ≡ 0 = omega arith in rw z refl
  from-drop at (suc n) zero =
      let a : at + stride * 0 ≡ at = omega arith in
      let b : suc n - 0 ≡ suc n = omega arith in
      rw (a, b) refl
  from-drop at (suc n) (suc k) =
      let a : at + stride * suc k ≡ at + stride + stride * k = omega arith in
      let b : suc n - suc k ≡ n - k = omega arith in
      rw (a, b) (from-drop (at + stride) n k)

  from-take : (at n k : ℕ) → k ≤ n → ids_from s stride w at k ≡ take k (ids_from s stride w at n)
  unfolding ids_from
  from-take at n zero h = refl
  from-take at zero (suc k) h = absurd (omega arith)
  from-take at (suc n) (suc k) h = ap (λ (z : List VarId). identified (number_at s w at) ∷ z) (from-take (at + stride) n k (omega arith))

module _ (s : List ℕ) (row : Places) where
  pub ids-length : length (ids_in s row) ≡ row.len
  ids-length = from-length s row.stride row.width (row.from + row.offset) row.len

  -- those without the first k
  pub ids-behind : (k : ℕ) → ids_in s (behind_of row k) ≡ drop k (ids_in s row)
  ids-behind k =
      let a : row.from + row.stride * k + row.offset ≡ row.from + row.offset + row.stride * k = omega arith in
      rw a (from-drop s row.stride row.width (row.from + row.offset) row.len k)

  -- the first k
  pub ids-before : (k : ℕ) → k ≤ row.len → ids_in s (record { from = row.from; stride = row.stride; offset = row.offset; width = row.width; len = k }) ≡ take k (ids_in s row)
  ids-before k h = from-take s row.stride row.width (row.from + row.offset) row.len k h

  -- .. and for the element at place j
  pub inside-at : (j : ℕ) → Inside s row → j < row.len → row.from + row.stride * j + row.offset + row.width ≤ length s
  inside-at j i h = omega (arith, i.element, i.room, mul-le-mul_left row.stride h)

  pub inside-behind : (k : ℕ) → Inside s row → k ≤ row.len → Inside s (behind_of row k)
  inside-behind k i h =
      let d : row.len ≡ k + (row.len - k) = omega arith in
      let e : row.stride * row.len ≡ row.stride * (k + (row.len - k)) = ap (λ (z : ℕ). row.stride * z) d in
      record { width = i.width; element = i.element; room = omega (arith, i.room, e) }

module _ (row : Row) where
  pub id-at : (j : ℕ) → j < row.places.len → (id_at row j).0 ≡ number_at row.bytes.now row.places.width (row.places.from + row.places.stride * j + row.places.offset)
  id-at j h =
      let p = row.places in
      let k : p.from + p.offset + p.stride * j ≡ p.from + p.stride * j + p.offset = omega arith in
      ap (λ (x : VarId). x.0) (from_at row.bytes.now p.stride p.width (p.from + p.offset) p.len j h) ∙ ap (number_at row.bytes.now p.width) k

  -- a row has as many as its list
  pub row-length : {xs : List VarId} → ids_of row ≡ xs → length xs ≡ row.places.len
  row-length h = ap length (sym h) ∙ ids-length row.bytes.now row.places
