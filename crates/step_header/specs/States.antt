-- The slots of a state in a store, and of a heap.
use Rattle.std.specs.Prelude.{List}
use Rattle.step_slots.specs.Slots.{Slot}
use Rattle.step_slots.specs.Views.{slots_at}
use Rattle.step_header.specs.declared.heap.Heap.{Heap}
use Rattle.step_header.specs.declared.state.State.{State}
use Rattle.step_header.specs.Headers.{heap_in, entries_in}

-- of its cells
abbrev pub heap_of : State → List Slot
heap_of s = heap_in s.store.now s.header

-- .. and of its environment
abbrev pub entries_of : State → List Slot
entries_of s = entries_in s.store.now s.header

-- the slots of cells that are said to be there, of a state or not
abbrev pub slots_of : Heap → List Slot
slots_of h = slots_at h.store.now 64 h.count
