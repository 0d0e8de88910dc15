-- The cell that the slot of a value refers to.
use Rattle.std.specs.Prelude.{ℕ, ◌+◌, ◌*◌, cond, Option, Some, None, List, [], ◌∷◌, eqb, length, drop}
use Rattle.step_slots.specs.Slots.{Slot}
use Rattle.step_spec.specs.Store.{leading}
use Rattle.step_slots.specs.Sorts.{sort_code}
use Rattle.step_cells.specs.declared.Cell as code

-- a cell: its own slot, where in the bytes what it holds begins, and how many slots that is
pub record Cell : Type 0 where
  pub sort : ℕ
  pub id : ℕ
  pub number : ℕ
  pub from : ℕ
  pub len : ℕ

-- what is answered where there is none: no sort is above 4
abbrev pub no_cell_lem : Cell
no_cell_lem = record { sort = 5; id = 0; number = 0; from = 0; len = 0 }

-- what code has for a cell, or for none
abbrev pub as_cell : code.Cell → Cell
as_cell c = record { sort = sort_code c.sort; id = c.id; number = c.number; from = c.from; len = c.len }

abbrev pub found_cell : Option code.Cell → Cell
found_cell None = no_cell_lem
found_cell (Some c) = as_cell c

-- the cell whose own slot is the first of these, at this place among the slots of cells: what it holds follows, up to the next cell
abbrev pub cell_from : (place : ℕ) → List Slot → Cell
cell_from place [] = no_cell_lem
cell_from place (own ∷ others) = record { sort = own.sort; id = own.id; number = own.payload; from = 64 + 16 * (place + 1); len = length (leading others) }

-- the cell to which this slot refers, by its place among these slots of cells
unfoldable pub cell_in' : List Slot → Slot → Cell
cell_in' heap t = cond (eqb t.sort 1) (cell_from t.payload (drop t.payload heap)) no_cell_lem
