-- What the walk does to the output, in which it writes.
use Rattle.std.specs.Prelude.{ℕ, List}
use Rattle.image_spec.specs.Records.{Record}
use Rattle.image_write_directory.specs.declared.output.Output.{Output}
use Rattle.image_write_directory.specs.Outputs.{so_far, Keeps}
use Rattle.pass_walk.specs.Walking.{LinearizedTo, Writes}

-- these records were written, with this max_id, and the walk has come to this index
abbrev pub LinearizedIn : Output → Output → (next place : ℕ) → (R : List Record) → (top : ℕ) → Type 0
LinearizedIn o o' next place R top = LinearizedTo o.writer.id o.writer.out.now o'.writer.out.now o.lengths.now o'.lengths.now (so_far o) (record { next = next; progress = so_far o' }) place R top × Keeps o o'

abbrev pub WritesIn : Output → Output → (R : List Record) → (top : ℕ) → Type 0
WritesIn o o' R top = Writes o.writer.id o.writer.out.now o'.writer.out.now o.lengths.now o'.lengths.now (so_far o) (so_far o') R top × Keeps o o'
