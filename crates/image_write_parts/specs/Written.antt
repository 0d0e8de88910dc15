-- What a writer writes.
use Rattle.std.specs.Prelude.{ℕ, List, ◌≡◌}
use Rattle.image_write_parts.specs.Puts.{Puts}
use Rattle.image_write_parts.specs.declared.writer.Writer.{Writer}

-- from w to w' these bytes were put into its buffer, and nothing else of it changed
pub record Wrote (w w' : Writer) (bytes : List ℕ) : Type 0 where
  pub puts : Puts w.out.now w'.out.now w.at w'.at bytes
  pub id : w'.id ≡ w.id
  pub same : w'.out.ghost_name ≡ w.out.ghost_name
