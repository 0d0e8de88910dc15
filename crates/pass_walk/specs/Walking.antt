-- What the walk that linearizes needs and does.
use Rattle.std.specs.Prelude.{ℕ, ◌+◌, ◌*◌, ◌<◌, ◌^◌, ◌≡◌, Bool, true, List, length}
use Rattle.syntax.specs.declared.names.VarId.{VarId}
use Rattle.model.specs.Syntax.{Stmt, Clauses}
use Rattle.image_spec.specs.Parse.{each, All}
use Rattle.image_spec.specs.Records.{Record, record_bytes}
use Rattle.image_spec.specs.Shape.{flatten, flatten_clauses}
use Rattle.image_directory.specs.Slots.{records_in}
use Rattle.image_directory.specs.declared.Frame.{Frame}
use Rattle.image_write_directory.specs.Emitting.{Emits, Progress}
use Rattle.image_places_spec.specs.Places.{Begins, StmtStands, ClausesStand, BodiesStand}
use Rattle.scope_spec.specs.FreeRows.{rows_stmt, rows_clauses, rows_bodies}
use Rattle.pass_work_spec.specs.Work.{work_stmt, work_clauses}
use Rattle.pass_work_spec.specs.Placed.{AllFit, AllFitClauses}
use Rattle.pass_step_spec.specs.Steps.{work_bodies}
use Rattle.pass_context.specs.Holding.{work_of}
use Rattle.pass_context.specs.declared.Held.{Held}
use Rattle.scope_spec.specs.Flat.{all_records_lem, small_record_lem, plain_record_lem}

-- an image whose records have all passed questions 6 and 7
pub record Sources (g : Frame) (s : List ℕ) : Type 0 where
  pub small : all_records_lem small_record_lem (records_in g s) ≡ true
  pub plain : all_records_lem plain_record_lem (records_in g s) ≡ true

-- where the walk has come to, and how far the output has
pub record Linearized : Type 0 where
  pub next : ℕ
  pub progress : Progress

-- from p on there is room for these records and a step more, and for names up to this max_id and a step more
pub record RoomTo (w : ℕ) (p : Progress) (R : List Record) (top : ℕ) : Type 0 where
  pub at : p.at + (length (each (record_bytes w) R) + 65536) < 2 ^ 64
  pub count : p.count + (length R + 2) < 2 ^ 64
  pub max_id : top + 256 < 2 ^ 32

-- ── what is needed: the part stands at index i, the rows have its masks over some scope, the context at work fits, and there is room ──

pub record StmtAhead (g : Frame) (s rows : List ℕ) (w d i : ℕ) (held : Held) (n : ℕ) (p : Progress) (t : Stmt) : Type 0 where
  pub sources : Sources g s
  pub stands : StmtStands d (records_in g s) i t
  pub scope : List VarId
  pub rows_are : Begins rows (2 * i) (rows_stmt t scope)
  pub fits : AllFit t scope (work_of held) n
  pub room : RoomTo w p (flatten (work_stmt t (work_of held) n p.max_id).0) (work_stmt t (work_of held) n p.max_id).1

pub record ClausesAhead (g : Frame) (s rows : List ℕ) (w d k i : ℕ) (before : Bool) (held : Held) (n : ℕ) (p : Progress) (cs : Clauses) : Type 0 where
  pub sources : Sources g s
  pub stand : ClausesStand d k (records_in g s) i cs
  pub scope : List VarId
  pub rows_are : Begins rows (2 * i) (rows_clauses cs scope)
  pub fits : AllFitClauses cs before scope (work_of held) n
  pub room : RoomTo w p (flatten_clauses (work_clauses cs before (work_of held) n p.max_id).0) (work_clauses cs before (work_of held) n p.max_id).1

pub record BodiesAhead (g : Frame) (s rows : List ℕ) (w d k i : ℕ) (held : Held) (n : ℕ) (p : Progress) (ts : List Stmt) : Type 0 where
  pub sources : Sources g s
  pub stand : BodiesStand d k (records_in g s) i ts
  pub scope : List VarId
  pub rows_are : Begins rows (2 * i) (rows_bodies ts scope)
  pub fits : All (λ (t : Stmt). AllFit t scope (work_of held) n) ts
  pub room : RoomTo w p (each flatten (work_bodies ts (work_of held) n p.max_id).0) (work_bodies ts (work_of held) n p.max_id).1

-- ── what is done ──

-- these records were written, up to q, with this max_id
pub record Writes (w : ℕ) (out out' lengths lengths' : List ℕ) (p q : Progress) (R : List Record) (top : ℕ) : Type 0 where
  pub emits : Emits w out out' lengths lengths' p q R
  pub max_id : q.max_id ≡ top

-- .. and the walk has come to this index
pub record LinearizedTo (w : ℕ) (out out' lengths lengths' : List ℕ) (p : Progress) (r : Linearized) (place : ℕ) (R : List Record) (top : ℕ) : Type 0 where
  pub next_is : r.next ≡ place
  pub writes : Writes w out out' lengths lengths' p r.progress R top
