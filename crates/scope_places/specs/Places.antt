-- The first n numbers of a lent array, as a scope.
use Rattle.std.specs.Prelude.{ℕ, ◌≤◌, ◌≡◌, List, map, length, take}
use Rattle.syntax.specs.declared.names.VarId.{VarId}
use Rattle.scope_spec.specs.Walk.{max_scope}

abbrev pub id_of : ℕ → VarId
id_of x = record { 0 = x }

abbrev pub scope_in : ℕ → List ℕ → List VarId
scope_in n xs = map id_of (take n xs)

-- a scope of at most 64 IDs, in an array with room for as many
pub record ScopeAt (xs : List ℕ) (n : ℕ) : Type 0 where
  pub small : n ≤ max_scope
  pub room : max_scope ≤ length xs

-- the first n numbers stay
pub record Kept (n : ℕ) (before after : List ℕ) : Type 0 where
  pub long : length after ≡ length before
  pub first : take n after ≡ take n before
