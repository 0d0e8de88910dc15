-- What is known of an image on the way through the questions: `Read` after 1 to 5, `Checked` after 1 to 10.
use Rattle.std.specs.Prelude.{ℕ, ◌<◌, ◌≡◌, true, List}
use Rattle.model.specs.Questions.{question6, question7, question8, question9, question10}
use Rattle.image_spec.specs.declared.Layout.{Layout}
use Rattle.image_spec.specs.Layout.{body_at}
use Rattle.image_directory.specs.Slots.{records_in}
use Rattle.image_directory.specs.declared.Frame.{Frame}
use Rattle.image_write_parts.specs.declared.writer.Writer.{Writer}
use Rattle.image_open.specs.Opening.{Known}
use Rattle.scope_check.specs.Definitions.{Defined}
use Rattle.scope_check.specs.Deciding.{program_in}

-- an image of the layout, of d definitions and with this max_id, reads
pub record Read (L : Layout) (g : Frame) (s : List ℕ) (d m : ℕ) : Type 0 where
  pub known : Known L
  pub id : g.id ≡ L.id
  pub start : g.start ≡ body_at L g.count
  pub defined : Defined d (records_in g s)
  pub narrow : m < 65536

-- .. and has a yes to 6 to 10
pub record Checked (L : Layout) (g : Frame) (s : List ℕ) (d m : ℕ) : Type 0 where
  pub read : Read L g s d m
  pub six : question6 (program_in d (records_in g s) m) ≡ true
  pub seven : question7 (program_in d (records_in g s) m) ≡ true
  pub eight : question8 (program_in d (records_in g s) m) ≡ true
  pub nine : question9 (program_in d (records_in g s) m) ≡ true
  pub ten : question10 (program_in d (records_in g s) m) ≡ true

-- the writer is where the records of a program with as many records begin, and IDs have as many bytes
pub record AtRecords (g : Frame) (w : Writer) : Type 0 where
  pub at : w.at ≡ g.start
  pub id : w.id ≡ g.id
