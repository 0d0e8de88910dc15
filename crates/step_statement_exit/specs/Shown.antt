-- What an Exit shows of the value in a slot.
use Rattle.std.specs.Prelude.{ℕ, cond, List, eqb, get_or}
use Rattle.step_slots.specs.Slots.{Slot}
use Rattle.step_slots.specs.Views.{no_slot}

-- the number that the slot at a place among those of the cells has
unfoldable pub number_at : (heap : List Slot) (place : ℕ) → ℕ
number_at heap i = (get_or heap i no_slot).payload

-- a cell is shown by its number, another value as it is
unfoldable pub shown_in : (heap : List Slot) → Slot → ℕ
shown_in heap t = cond (eqb t.sort 1) (number_at heap t.payload) t.payload
