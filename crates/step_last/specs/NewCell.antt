-- The header and the slot of var behind a Let or a Create, each of which makes a cell.
use Rattle.std.specs.Prelude.{ℕ, ◌+◌, false}
use Rattle.step_slots.specs.Slots.{Slot, slot}
use Rattle.step_header.specs.declared.Header.{Header}

-- the header after it, at this position: the cell holds so many slots behind its own, and so many entries stay beside var
abbrev pub with_cell : Header → (next held others : ℕ) → Header
with_cell h p j n = record { position = p; ended = false; stopped = false; cells = h.cells + 1; heap = h.heap + (j + 1); entries = n + 1 }

-- the new cell under var, by the place of its slot, which is behind those of the cells
abbrev pub var_slot_lem : Header → (id : ℕ) → Slot
var_slot_lem h x = slot 1 x h.heap
