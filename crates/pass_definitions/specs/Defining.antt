-- The definition at an index, and what the walk over definitions needs.
use Rattle.std.specs.Prelude.{ℕ, ◌+◌, ◌*◌, List, drop}
use Rattle.model.specs.Syntax.{Def}
use Rattle.image_spec.specs.Records.{Record}
use Rattle.image_spec.specs.Shape.{flatten_defs}
use Rattle.image_directory.specs.Slots.{records_in}
use Rattle.image_directory.specs.declared.Frame.{Frame}
use Rattle.image_write_directory.specs.Emitting.{Progress}
use Rattle.image_places_spec.specs.Places.{Begins, stmt_at}
use Rattle.image_read_parts.specs.Standing.{head_of}
use Rattle.image_read_parts.specs.Parts.{list_of}
use Rattle.image_read_nodes.specs.Nodes.{first_of}
use Rattle.scope_spec.specs.FreeRows.{rows_defs}
use Rattle.scope_check.specs.Definitions.{DefsStand}
use Rattle.pass_work_spec.specs.Work.{work_defs}
use Rattle.pass_work_spec.specs.Placed.{AllFitDefs}
use Rattle.pass_walk.specs.Walking.{RoomTo, Sources}

-- document 01, "The image": a definition is its record, with name and parameters, and its body behind it; a source's is at most 64 deep
abbrev pub def_at : List Record → (i : ℕ) → Def
def_at rs i = record { name = first_of (head_of (drop i rs)); context = list_of (head_of (drop i rs)); body = stmt_at 64 rs (i + 1) }

-- n definitions stand at index i, the rows have their masks, the contexts at work fit, and there is room
pub record DefsAhead (g : Frame) (s rows : List ℕ) (w n i : ℕ) (p : Progress) (ds : List Def) : Type 0 where
  pub sources : Sources g s
  pub stand : DefsStand 64 n (records_in g s) i ds
  pub rows_are : Begins rows (2 * i) (rows_defs ds)
  pub fits : AllFitDefs ds
  pub room : RoomTo w p (flatten_defs (work_defs ds p.max_id).0) (work_defs ds p.max_id).1
