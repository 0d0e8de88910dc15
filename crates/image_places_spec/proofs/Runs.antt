-- In which part of a run of records a place is: what every search for the statement at a place goes by. Assumes nothing.
use Prim.Native.Nat.{ℕ, ◌+◌, ◌≤◌, ◌<◌}
use mathlib.Core.Path.{◌≡◌, refl}
use mathlib.Core.Bool.{Bool, true, false}
use native.Mathlib.Omega.{arith}
use borrow.Author.Tests.{ltb-true, ltb-false}
use lib.Dec.{ltb}
use lib.ListN.{length}
use Rattle.model.specs.Syntax.{end}
use Rattle.image_spec.specs.Shape.{flatten, flatten_clauses}

-- a place in a run of records: the first, in the a after it, or in the b after those
pub at_place : {R : Type 0} (i a b j : ℕ) → i ≤ j → j < i + (1 + a + b)
    → (i ≡ j → R) → (i + 1 ≤ j → j < i + 1 + a → R) → (i + 1 + a ≤ j → j < i + 1 + a + b → R) → R
at_place {R} i a b j l h here first then = go (ltb i j) refl (ltb j (i + 1 + a)) refl
  where
    go : (t : Bool) → ltb i j ≡ t → (u : Bool) → ltb j (i + 1 + a) ≡ u → R
    go false e u k = here (omega (arith, ltb-false i j e))
    go true e true k = first (omega (arith, ltb-true i j e)) (ltb-true j (i + 1 + a) k)
    go true e false k = then (ltb-false j (i + 1 + a) k) (omega arith)

-- .. or in one of two runs
pub in_two : {R : Type 0} (i a b j : ℕ) → i ≤ j → j < i + (a + b) → (j < i + a → R) → (i + a ≤ j → j < i + a + b → R) → R
in_two {R} i a b j l h first then = go (ltb j (i + a)) refl
  where
    go : (u : Bool) → ltb j (i + a) ≡ u → R
    go true k = first (ltb-true j (i + a) k)
    go false k = then (ltb-false j (i + a) k) (omega arith)

-- no clauses have no records
pub no_place : {i j : ℕ} → i ≤ j → j < i + length (flatten_clauses end) → ⊥
unfolding flatten
no_place l h = omega arith
