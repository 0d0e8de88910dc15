-- What an Invoke finds for the value of var, and what it writes.
use Rattle.std.specs.Prelude.{ℕ, ◌+◌, ◌*◌, ◌/◌, ◌≤◌, ◌≡◌, true, false, List, [], ◌++◌, map, length, take, drop, Option, Some, None, Result, Err}
use Rattle.syntax.specs.declared.names.VarId.{VarId}
use Rattle.image_spec.specs.Parse.{each}
use Rattle.image_directory.specs.declared.Frame.{Frame}
use Rattle.step_slots.specs.Slots.{Slot, slot_bytes}
use Rattle.step_slots.specs.Views.{slots_at, all_slots}
use Rattle.step_spec.specs.Events.{event_head}
use Rattle.step_header.specs.declared.Header.{Header}
use Rattle.step_header.specs.Headers.{heap_in}
use Rattle.step_rows.specs.declared.row.Row.{Row}
use Rattle.step_rows.specs.Rows.{ids_of}
use Rattle.step_write.specs.declared.Work.{Work}
use Rattle.step_places.specs.declared.stepper.Stepper.{Stepper}
use Rattle.step_write.specs.Working.{Fit, Keeps}
use Rattle.step_gather.specs.Gathering.{renamed, shown_as}
use Rattle.step_cells.specs.Cells.{Cell, cell_in'}
use Rattle.step_write.specs.declared.Step.{Step}
use Rattle.step_write.specs.declared.Stop.{Stop}
use Rattle.step_write.specs.declared.Stop.TheVariants.{NoStep}
use Rattle.step_write.specs.Writing.{Finishes}
use Rattle.step_enter.specs.declared.Parameters.{Parameters}
use Rattle.step_enter.specs.Entering.{ClauseOf, entered}

-- the clause of a cell that has this tag and k parameters. There is none where the cell is no closure, was made at no record (which does not happen), or has
-- no such clause
pub data EntranceOf (frame : Frame) (bytes : List ℕ) (cell : Cell) (tag k : ℕ) : Option Parameters → Type 0 where
  no-closure : (cell.sort ≡ 4 → ⊥) → EntranceOf frame bytes cell tag k None
  no_record : cell.sort ≡ 4 → frame.count ≤ cell.id → EntranceOf frame bytes cell tag k None
  no-clause : cell.sort ≡ 4 → ClauseOf frame bytes cell.id tag None → EntranceOf frame bytes cell tag k None
  other-count : {p : Parameters} → cell.sort ≡ 4 → ClauseOf frame bytes cell.id tag (Some p) → (p.row.places.len ≡ k → ⊥) → EntranceOf frame bytes cell tag k None
  a-clause : {p : Parameters} → cell.sort ≡ 4 → ClauseOf frame bytes cell.id tag (Some p) → p.row.places.len ≡ k → EntranceOf frame bytes cell tag k (Some p)

-- ---- a clause is entered

-- what is asked before: these bytes are as many slots as there are parameters, and the cell is before the entries
pub record Enterable (w : Work) (bytes : List ℕ) (cell : Cell) (row : Row) : Type 0 where
  pub fit : Fit w
  pub whole : length bytes ≡ 16 * row.places.len
  pub slots : all_slots (slots_at bytes 0 row.places.len) ≡ true
  pub closure : cell.from + 16 * cell.len ≤ 64 + 16 * w.header.heap

-- the body's environment: these slots under the parameters' IDs, and then what the closure holds
pub record EntersClause (store events : List ℕ) (h : Header) (at : ℕ) (cell : Cell) (body : ℕ) (xs : List VarId) (values : List Slot) (tag : ℕ) (store' events' : List ℕ) (m : Result Step Stop) : Type 0 where
  pub finishes : Finishes store events at (entered h body (length values + cell.len)) (event_head 7 1 tag 0 cell.number) (64 + 16 * h.heap)
      (each slot_bytes (renamed xs values) ++ take (16 * cell.len) (drop cell.from store)) store' events' m

-- .. of the state in the one `Work`, to the state in the other, with the same two buffers
abbrev pub EntersClauseIn : (w w' : Work) → Cell → (body : ℕ) → List VarId → (values : List Slot) → (tag : ℕ) → Result Step Stop → Type 0
EntersClauseIn w w' cell body xs values tag m = EntersClause w.store.now w.events.now w.header w.at cell body xs values tag w'.store.now w'.events.now m × Keeps w w'

-- ---- the whole

-- bytes that are slots and nothing else, at most 128
pub record FewSlots (bytes : List ℕ) : Type 0 where
  pub whole : length bytes ≡ 16 * (length bytes / 16)
  pub few : length bytes / 16 ≤ 128
  pub are : all_slots (slots_at bytes 0 (length bytes / 16)) ≡ true

-- the header of the state in which the run has ended
abbrev pub over : Header → Header
over h = record { position = h.position; ended = true; stopped = false; cells = h.cells; heap = h.heap; entries = h.entries }

-- an Invoke of this value with the values of the args in these slots: of an outside number it shows them and ends the run; else it enters a clause, if
-- there is one
pub data Invokes (frame : Frame) (bytes store events : List ℕ) (h : Header) (at : ℕ) (value : Slot) (values : List Slot) (tag : ℕ) : (store' events' : List ℕ) → Result Step Stop → Type 0 where
  of-outside : {store' events' : List ℕ} {m : Result Step Stop} → value.sort ≡ 2
      → Finishes store events at (over h) (event_head 7 2 tag (length values) value.payload ++ each slot_bytes (map (shown_as (heap_in store h)) values)) 64 [] store' events' m
      → Invokes frame bytes store events h at value values tag store' events' m
  of-nothing : (value.sort ≡ 2 → ⊥) → EntranceOf frame bytes (cell_in' (heap_in store h) value) tag (length values) None
      → Invokes frame bytes store events h at value values tag store events (Err NoStep)
  of-closure : {p : Parameters} {store' events' : List ℕ} {m : Result Step Stop} → EntranceOf frame bytes (cell_in' (heap_in store h) value) tag (length values) (Some p)
      → EntersClause store events h at (cell_in' (heap_in store h) value) p.body (ids_of p.row) values tag store' events' m → Invokes frame bytes store events h at value values tag store' events' m

-- .. of the state in the one `Work`, to the state in the other, with the same two buffers
abbrev pub InvokesIn : Stepper → (w w' : Work) → (value : Slot) → (values : List Slot) → (tag : ℕ) → Result Step Stop → Type 0
InvokesIn s w w' value values tag m =
    Invokes s.image.frame s.image.bytes.now w.store.now w.events.now w.header w.at value values tag w'.store.now w'.events.now m × Keeps w w'
