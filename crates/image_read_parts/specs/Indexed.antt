-- The record at an index.
use Rattle.std.specs.Prelude.{ℕ, ◌<◌, ◌≡◌, List, drop}
use Rattle.image_spec.specs.Records.{Record}
use Rattle.image_spec.specs.Kinds.{kind_of}
use Rattle.image_directory.specs.Slots.{records_in}
use Rattle.image_directory.specs.declared.Frame.{Frame}
use Rattle.image_directory.specs.declared.image.Image.{Image}
use Rattle.image_read_parts.specs.Standing.{head_of}

abbrev pub record_at : Frame → List ℕ → ℕ → Record
record_at g s i = head_of (drop i (records_in g s))

-- the record at index i is of kind k
pub record At (g : Frame) (s : List ℕ) (i k : ℕ) : Type 0 where
  pub inside : i < g.count
  pub kind : kind_of (record_at g s i) ≡ k

-- .. by the image
abbrev pub record_of : Image → ℕ → Record
record_of m = record_at m.frame m.bytes.now

-- (Asked of no function: a `RecordAt` carries it.)
abbrev pub IsAt : Image → (i k : ℕ) → Type 0
IsAt m = At m.frame m.bytes.now
