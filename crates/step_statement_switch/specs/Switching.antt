-- What a Switch on a value reads and writes.
use Rattle.std.specs.Prelude.{ℕ, ◌≡◌, List, Option, Some, None, Result, Err}
use Rattle.image_directory.specs.declared.Frame.{Frame}
use Rattle.step_slots.specs.Slots.{Slot}
use Rattle.step_slots.specs.Views.{slots_at}
use Rattle.step_spec.specs.Events.{event_head}
use Rattle.step_header.specs.declared.Header.{Header}
use Rattle.step_header.specs.Headers.{heap_in}
use Rattle.step_rows.specs.Rows.{ids_of}
use Rattle.step_cells.specs.Cells.{Cell, cell_in'}
use Rattle.step_gather.specs.Gathering.{renamed}
use Rattle.step_places.specs.declared.stepper.Stepper.{Stepper}
use Rattle.step_write.specs.declared.Work.{Work}
use Rattle.step_write.specs.Working.{Keeps}
use Rattle.step_write.specs.declared.Step.{Step}
use Rattle.step_write.specs.declared.Stop.{Stop}
use Rattle.step_write.specs.declared.Stop.TheVariants.{NoStep}
use Rattle.step_enter.specs.declared.Parameters.{Parameters}
use Rattle.step_enter.specs.Entering.{ClauseOf, Enters}

-- the clause of the Switch at index i that is entered for a cell: none where it is not a cell of a Let, where no clause has its tag, or where the clause has
-- another number of parameters than the cell has values
pub data ClauseFor (frame : Frame) (bytes : List ℕ) (i : ℕ) (cell : Cell) : Option Parameters → Type 0 where
  other-cell : (cell.sort ≡ 3 → ⊥) → ClauseFor frame bytes i cell None
  no-clause : cell.sort ≡ 3 → ClauseOf frame bytes i cell.id None → ClauseFor frame bytes i cell None
  other-count : {p : Parameters} → cell.sort ≡ 3 → ClauseOf frame bytes i cell.id (Some p) → (p.row.places.len ≡ cell.len → ⊥) → ClauseFor frame bytes i cell None
  the_clause : {p : Parameters} → cell.sort ≡ 3 → ClauseOf frame bytes i cell.id (Some p) → p.row.places.len ≡ cell.len → ClauseFor frame bytes i cell (Some p)

-- the step with a cell: what it holds become entries under the names of the clause. The first j entries stay, and the n behind them come behind the new ones
pub data SwitchesOn (frame : Frame) (bytes store events : List ℕ) (h : Header) (at : ℕ) (cell : Cell) (j n : ℕ) : (store' events' : List ℕ) → Result Step Stop → Type 0 where
  not_switched : ClauseFor frame bytes h.position cell None → SwitchesOn frame bytes store events h at cell j n store events (Err NoStep)
  switched : {p : Parameters} {store' events' : List ℕ} {m : Result Step Stop} → ClauseFor frame bytes h.position cell (Some p)
      → Enters store events h at p.body (event_head 5 1 cell.id 0 cell.number) j n (renamed (ids_of p.row) (slots_at store cell.from cell.len)) store' events' m
      → SwitchesOn frame bytes store events h at cell j n store' events' m

-- .. with the cell to which this value refers
abbrev pub Switches : Frame → (bytes store events : List ℕ) → Header → (at : ℕ) → Slot → (j n : ℕ) → (store' events' : List ℕ) → Result Step Stop → Type 0
Switches frame bytes store events h at value j n store' events' m = SwitchesOn frame bytes store events h at (cell_in' (heap_in store h) value) j n store' events' m

-- .. of the state in the one `Work`, to the state in the other, with the same two buffers
abbrev pub SwitchesIn : Stepper → (w w' : Work) → Slot → (j n : ℕ) → Result Step Stop → Type 0
SwitchesIn s w w' value j n m =
    Switches s.image.frame s.image.bytes.now w.store.now w.events.now w.header w.at value j n w'.store.now w'.events.now m × Keeps w w'
