-- What the walk of annotation does.
use Rattle.std.specs.Prelude.{ℕ, ◌≡◌, List}

-- the walk has come to this place with this row
pub record MarkedTo (next : ℕ) (now : List ℕ) (place : ℕ) (row : List ℕ) : Type 0 where
  pub next_is : next ≡ place
  pub row_is : now ≡ row
