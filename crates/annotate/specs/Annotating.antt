-- What the functions of annotation need, and what they write.
use Rattle.std.specs.Prelude.{ℕ, ◌≤◌, ◌≡◌, Bool, true, ◌&&◌, ◌||◌, cond, List, leb, eqb, length, replicate, Ok, Err}
use Rattle.syntax.specs.declared.names.VarId.{VarId}
use Rattle.model.specs.Questions.{asked, plain, any_binders, question6, question7}
use Rattle.image_spec.specs.Shape.{max_depth}
use Rattle.image_spec.specs.declared.Refusal.TheVariants.{Room}
use Rattle.image_spec.specs.Answers.{Answer}
use Rattle.image_directory.specs.Slots.{records_in}
use Rattle.image_directory.specs.declared.Frame.{Frame}
use Rattle.image_places_spec.specs.Places.{stmt_at, StmtStands}
use Rattle.image_write_parts.specs.Written.{Wrote}
use Rattle.image_write_parts.specs.declared.writer.Writer.{Writer}
use Rattle.scope_spec.specs.Rooms.{in_room}
use Rattle.scope_spec.specs.Calls.{set_bytes, has_annotation_lem}
use Rattle.scope_spec.specs.Marking.{marked_from}
use Rattle.image_read_parts.specs.Indexed.{record_at}
use Rattle.scope_check.specs.Definitions.{Defined}
use Rattle.scope_check.specs.Deciding.{program_in}
use Rattle.annotate_uses.specs.Sources.{Source}

-- has a record of the kind an annotation?
abbrev pub annotated_kind : ℕ → Bool
annotated_kind k = (leb 4 k && leb k 6) || ((leb 8 k && leb k 9) || eqb k 12)

-- the set that a row marks is written, and the walk has come to this place
pub record WroteSet (w w' : Writer) (next place : ℕ) (row : List ℕ) : Type 0 where
  pub next_is : next ≡ place
  pub wrote : Wrote w w' (set_bytes w.id (marked_from 0 row))

-- a statement with an annotation stands at i, and the questions 6 and 7 were asked of it
pub record Annotated (g : Frame) (s : List ℕ) (i : ℕ) : Type 0 where
  pub source : Source g s
  pub narrow : g.id ≤ 2
  pub stands : StmtStands max_depth (records_in g s) i (stmt_at max_depth (records_in g s) i)
  pub has : has_annotation_lem (record_at g s i) ≡ true
  pub scope : List VarId
  pub room : asked (stmt_at max_depth (records_in g s) i) in_room any_binders scope ≡ true
  pub plain : asked (stmt_at max_depth (records_in g s) i) plain any_binders scope ≡ true

-- an image of d definitions and with this max_id, whose IDs have at most two bytes, has passed questions 1 to 7
pub record Limited (g : Frame) (s : List ℕ) (d m : ℕ) : Type 0 where
  pub defined : Defined d (records_in g s)
  pub narrow : g.id ≤ 2
  pub six : question6 (program_in d (records_in g s) m) ≡ true
  pub seven : question7 (program_in d (records_in g s) m) ≡ true

-- document 01, question 12: does the answer fit the lent buffer? If not, all of it is set to zero
pub record Settled (r : Answer) (before after : List ℕ) (written max_id : ℕ) : Type 0 where
  pub answer : r ≡ cond (leb written (length before)) (Ok (record { length = written; max_id = max_id })) (Err Room)
  pub buffer : after ≡ cond (leb written (length before)) before (replicate (length before) 0)
