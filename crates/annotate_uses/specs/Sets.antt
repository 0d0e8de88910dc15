-- A set with room for more.
use Rattle.std.specs.Prelude.{ℕ, ◌+◌, ◌≤◌, ◌≡◌, length}
use Rattle.syntax.specs.Arrays.{set_of}
use Rattle.syntax.specs.declared.sets.IdSet.{IdSet}

-- room for n more IDs. (Asked and no field of `IdSet`: n differs, and falls as IDs are added. `count` follows from the set's `size` and `fits`, and is
-- here under the name by which proofs go.)
pub record Room (x : IdSet) (n : ℕ) : Type 0 where
  pub count : x.len ≡ length (set_of x)
  pub small : x.len + n ≤ 128
