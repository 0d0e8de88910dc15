-- A clause or a definition that is entered: what is read of it, and what is written.
use Rattle.std.specs.Prelude.{ℕ, ◌+◌, ◌*◌, ◌≤◌, ◌≡◌, false, List, ◌++◌, length, take, drop, Option, Some, None, Result}
use Rattle.syntax.specs.Context.{ids}
use Rattle.image_spec.specs.Parse.{each}
use Rattle.image_spec.specs.Fields.{max_count}
use Rattle.image_spec.specs.Kinds.{clauses_of}
use Rattle.image_directory.specs.declared.Frame.{Frame}
use Rattle.image_read_parts.specs.Parts.{list_of}
use Rattle.image_read_parts.specs.Indexed.{record_at}
use Rattle.step_slots.specs.Slots.{Slot, slot_bytes}
use Rattle.step_header.specs.declared.Header.{Header}
use Rattle.step_places.specs.Searches.{FindsClause}
use Rattle.step_rows.specs.Rows.{ids_of}
use Rattle.step_write.specs.declared.Step.{Step}
use Rattle.step_write.specs.declared.Stop.{Stop}
use Rattle.step_write.specs.declared.Work.{Work}
use Rattle.step_write.specs.Working.{Keeps}
use Rattle.step_write.specs.Writing.{Finishes}
use Rattle.step_enter.specs.declared.Parameters.{Parameters}

-- what is read of the clause or definition that a search found: the IDs of its parameters, and the place of its body, which is behind it
pub data ParametersOf (frame : Frame) (bytes : List ℕ) : Option ℕ → Option Parameters → Type 0 where
  absent : ParametersOf frame bytes None None
  listed : {j : ℕ} {p : Parameters} → ids_of p.row ≡ ids (list_of (record_at frame bytes j)) → p.row.places.len ≤ max_count → p.body ≡ j + 1 → ParametersOf frame bytes (Some j) (Some p)

-- the parameters of the first clause with this tag of the record at index i
pub record ClauseOf (frame : Frame) (bytes : List ℕ) (i tag : ℕ) (r : Option Parameters) : Type 0 where
  pub found : Option ℕ
  pub finds : FindsClause frame bytes (clauses_of (record_at frame bytes i)) (i + 1) tag found
  pub reads : ParametersOf frame bytes found r

-- the header after it
abbrev pub entered : Header → (body entries : ℕ) → Header
entered h p n = record { position = p; ended = false; stopped = false; cells = h.cells; heap = h.heap; entries = n }

-- the place behind the first j entries
abbrev pub behind_entries : Header → (j : ℕ) → ℕ
behind_entries h j = 64 + 16 * (h.heap + j)

-- a step to the body at this place: the first j entries stay, then come these slots, then the n that stood behind the first j
pub record Enters (store events : List ℕ) (h : Header) (at body : ℕ) (shown : List ℕ) (j n : ℕ) (slots : List Slot) (store' events' : List ℕ) (m : Result Step Stop) : Type 0 where
  pub finishes : Finishes store events at (entered h body (j + length slots + n)) shown (behind_entries h j)
      (each slot_bytes slots ++ take (16 * n) (drop (behind_entries h j) store)) store' events' m

-- .. of the state in the one `Work`, to the state in the other, with the same two buffers
abbrev pub EntersIn : (w w' : Work) → (body : ℕ) → (shown : List ℕ) → (j n : ℕ) → (slots : List Slot) → Result Step Stop → Type 0
EntersIn w w' body shown j n slots m = Enters w.store.now w.events.now w.header w.at body shown j n slots w'.store.now w'.events.now m × Keeps w w'
