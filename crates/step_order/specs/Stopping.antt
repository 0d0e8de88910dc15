-- Does the linear machine stop at the state that a store is read as? And what is read to tell it.
use Rattle.std.specs.Prelude.{ℕ, ◌+◌, ◌<◌, ◌≡◌, Bool, false, Option, List, map}
use Rattle.model.specs.Syntax.{Prog}
use Rattle.model.specs.Machine.{Outcome}
use Rattle.model.specs.Linear.{linear_work, linear_step_lem}
use Rattle.image_spec.specs.Kinds.{clauses_of}
use Rattle.image_directory.specs.declared.Frame.{Frame}
use Rattle.image_read_parts.specs.Indexed.{record_at}
use Rattle.step_spec.specs.Located.{Located, stmt_in, cell_in, project, is_stop}
use Rattle.step_entries.specs.Named.{last_slot}
use Rattle.step_header.specs.declared.Header.{Header}
use Rattle.step_header.specs.Headers.{heap_in, entries_in}
use Rattle.step_places.specs.Searches.{PlaceOf, FindsClause}
use Rattle.step_places.specs.declared.stepper.Stepper.{Stepper}
use Rattle.step_rule.specs.Rules.{ProgramOf, Reads}
use Rattle.step_cells.specs.Cells.{Cell, cell_in'}

-- the cell of the last entry's value; one of sort 5 where it is none
abbrev pub last_cell_lem : (store : List ℕ) → Header → Cell
last_cell_lem store h = cell_in' (heap_in store h) (last_slot (entries_in store h))

-- the answer for the first clause with this tag of the record at index i; it need not have any, nor be there
pub record ClauseOf (g : Frame) (s : List ℕ) (i tag : ℕ) (r : Option ℕ) : Type 0 where
  pub at : PlaceOf g s 11 r
  pub finds : i < g.count → FindsClause g s (clauses_of (record_at g s i)) (i + 1) tag r

-- the linear machine's rule at the state, and its step
abbrev pub work_at : Prog → Located → Outcome
work_at P l = linear_work P (stmt_in P l.position) l.environment (map (cell_in P) l.cells)

abbrev pub step_at : Prog → Located → Outcome
step_at P l = linear_step_lem P (project P l)

-- does it stop, whatever program and state they are, where the state has neither ended nor stopped?
pub record StopsBy (f : Prog → Located → Outcome) (stepper : Stepper) (bytes store : List ℕ) (h : Header) (b : Bool) : Type 0 where
  pub is : (P : Prog) (l : Located) → ProgramOf P stepper bytes → Reads P store h l → l.has_ended ≡ false → l.has_stopped ≡ false → b ≡ is_stop (f P l)
