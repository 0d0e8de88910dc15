-- Lists that are seen as the first n elements of an array: what is left of them from a place on, and stores. Assumes nothing.
use mathlib.Core.Path.{◌≡◌, sym, ◌∙◌}
use mathlib.Core.List.{List, [], ◌∷◌, ◌++◌, map}
use Prim.Native.Nat.{ℕ, suc, ◌+◌, ◌≤◌, ◌<◌}
use native.Mathlib.Numerals.{add-one}
use native.Mathlib.Omega.{arith}
use lib.ListN.{length, take, drop, get_or, set, length-take, length-map, length-append, drop_of_length-le}
use lib.Seq.{drop-cons, get_or-take, take-suc, drop-append-le, drop-set-lt, take-set-lt, length-take-le}

-- an array's length, from what owning the array tells of a struct's field
pub long : {X Y : Type 0} (f : X → Y) (l : List X) {n : ℕ} → length (map f l) ≡ n → length l ≡ n
long f l e = sym (length-map l f) ∙ e

module _ {A : Type 0} where
  -- what is left from i on of the first n
  abbrev pub rest : List A → ℕ → ℕ → List A
  rest l n i = drop i (take n l)

  pub rest_cons : (l : List A) (n i : ℕ) (d : A) → i < n → n ≤ length l → rest l n i ≡ get_or l i d ∷ rest l n (i + 1)
  rest_cons l n i d h k =
      let m : i < length (take n l) = simp length-take (omega arith) in
      rw (add-one, drop-cons (take n l) i d m, get_or-take n l i d h)

  pub rest_end : (l : List A) (n i : ℕ) → n ≤ i → rest l n i ≡ []
  rest_end l n i h = drop_of_length-le (take n l) {i = i} (simp length-take (omega arith))

  -- the last of what is left
  pub rest_snoc : (l : List A) (m i : ℕ) (d : A) → i ≤ m → m < length l → rest l (suc m) i ≡ rest l m i ++ (get_or l m d ∷ [])
  rest_snoc l m i d h k = rw (take-suc l m d k) (drop-append-le i (take m l) (get_or l m d ∷ []) (rw (length-take-le m l (omega arith)) h))

  -- a store before what is left does not change it
  pub rest-set : (l : List A) (n i : ℕ) (a : A) → i < n → rest (set l i a) n (i + 1) ≡ rest l n (i + 1)
  rest-set l n i a h = rw (take-set-lt n l i a h) (drop-set-lt (i + 1) (take n l) i a (omega arith))

  -- the count where one more is stored behind the first n
  pub stored-count : (l : List A) (n : ℕ) (a : A) → n < length l → n + 1 ≡ length (take n l ++ (a ∷ []))
  stored-count l n a h = simp (length-append, length-take) (omega arith)
