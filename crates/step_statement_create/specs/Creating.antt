-- What is read of a Create, and the slots and the header that its step writes.
use Rattle.std.specs.Prelude.{ℕ, ◌+◌, ◌-◌, ◌*◌, ◌≡◌, List, ◌++◌, take, drop, Result}
use Rattle.image_spec.specs.Kinds.{clauses_of}
use Rattle.image_directory.specs.declared.Frame.{Frame}
use Rattle.image_read_nodes.specs.Nodes.{first_of}
use Rattle.image_read_parts.specs.Indexed.{record_at}
use Rattle.step_slots.specs.Slots.{Slot, slot, slot_bytes}
use Rattle.step_spec.specs.Events.{event_head}
use Rattle.step_header.specs.declared.Header.{Header}
use Rattle.step_places.specs.Ends.{Hopped}
use Rattle.step_write.specs.declared.Step.{Step}
use Rattle.step_write.specs.declared.Stop.{Stop}
use Rattle.step_write.specs.Writing.{Finishes}
use Rattle.step_last.specs.NewCell.{with_cell, var_slot_lem}
use Rattle.step_statement_create.specs.declared.create.Parts.{Parts}

-- the ID of the var of the Create at index i, and the place of its body, which is behind its clauses
pub record PartsOf (frame : Frame) (bytes ends : List ℕ) (i : ℕ) (r : Parts) : Type 0 where
  pub id : r.id ≡ (first_of (record_at frame bytes i)).id.0
  pub next : Hopped ends (clauses_of (record_at frame bytes i)) (i + 1) r.next

-- the new cell's own slot: the place of the Create, and the cell's number
abbrev pub cell_slot_lem : Header → Slot
cell_slot_lem h = slot 4 h.position h.cells

-- what is written behind the slots of the cells where the last k entries become the cell's, and the others stay before var
abbrev pub closing : (store : List ℕ) → Header → (k id : ℕ) → List ℕ
closing store h k x =
    slot_bytes (cell_slot_lem h)
    ++ (take (16 * k) (drop (64 + 16 * h.heap + 16 * (h.entries - k)) store)
    ++ (take (16 * (h.entries - k)) (drop (64 + 16 * h.heap) store)
    ++ slot_bytes (var_slot_lem h x)))

-- .. with event and header
pub record Closes (store events : List ℕ) (h : Header) (at : ℕ) (r : Parts) (k : ℕ) (store' events' : List ℕ) (m : Result Step Stop) : Type 0 where
  pub finishes : Finishes store events at (with_cell h r.next k (h.entries - k)) (event_head 6 1 0 0 h.cells) (64 + 16 * h.heap) (closing store h k r.id) store' events' m
