-- What happens to an output: how far it has come, and what each step on it keeps.
use Rattle.std.specs.Prelude.{ℕ, ◌-◌, ◌≡◌, [], ◌∷◌}
use Rattle.image_write_parts.specs.Puts.{Puts}
use Rattle.image_write_directory.specs.Emitting.{Progress}
use Rattle.image_write_directory.specs.declared.output.Output.{Output}

-- how far an output has come
abbrev pub so_far : Output → Progress
so_far o = record { at = o.writer.at; count = o.count; max_id = o.max_id }

-- the same buffers, and IDs of as many bytes
pub record Keeps (o o' : Output) : Type 0 where
  pub id : o'.writer.id ≡ o.writer.id
  pub out : o'.writer.out.ghost_name ≡ o.writer.out.ghost_name
  pub lengths : o'.lengths.ghost_name ≡ o.lengths.ghost_name

-- the length of the record from `start` on was noted, and nothing else changed
pub record NotedIn (o o' : Output) (start : ℕ) : Type 0 where
  pub lengths : Puts o.lengths.now o'.lengths.now o.count o'.count ((o.writer.at - start) ∷ [])
  pub out : o'.writer.out.now ≡ o.writer.out.now
  pub at : o'.writer.at ≡ o.writer.at
  pub max_id : o'.max_id ≡ o.max_id
  pub keeps : Keeps o o'

-- nothing was written, though the place may be another
pub record Unwritten (o o' : Output) : Type 0 where
  pub out : o'.writer.out.now ≡ o.writer.out.now
  pub lengths : o'.lengths.now ≡ o.lengths.now
  pub keeps : Keeps o o'
