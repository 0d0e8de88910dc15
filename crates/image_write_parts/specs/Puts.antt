-- Bytes put into a buffer at a place. `sets` leaves out what is past the end.
use Rattle.std.specs.Prelude.{ℕ, ◌+◌, List, ◌≡◌, length}
use Rattle.std.proofs.lemmas.List.Edits.{sets}

-- after is before with the bytes put at `at`, and `next` is the place past them
pub record Puts (before after : List ℕ) (at next : ℕ) (bytes : List ℕ) : Type 0 where
  pub holds : after ≡ sets before at bytes
  pub ends : next ≡ at + length bytes
