-- The sixteen bytes that an entry, a cell or a value takes, in a store, an event and a start. No width here depends on an image's layout.
use Rattle.std.specs.Prelude.{ℕ, ◌^◌, ◌≤◌, ◌<◌, Bool, List, [], ◌∷◌, ◌++◌, leb, replicate}
use Rattle.std.specs.Int.{w64}
use Rattle.std.proofs.Common.{of_z}
use Rattle.model.specs.Machine.{Value, int, cell, outside}
use Rattle.step_slots.specs.declared.Slot as code
use Rattle.step_slots.specs.Sorts.{sort_code}
use Rattle.image_spec.specs.Parse.{Parser, via, both, code, number, field, zeros}

-- what the sixteen bytes hold:
-- byte 0      the sort: 0 an integer, 1 a cell, 2 an outside number, 3 a cell of a Let, 4 a cell of a Create
-- bytes 1-3   zero
-- bytes 4-7   of an entry its ID, of a cell of a Let its tag, of a cell of a Create the place of its record, of a value without an ID zero
-- bytes 8-15  the integer (signed), the place of the cell's slot, the outside number, or the number of the cell

pub record Slot : Type 0 where
  pub sort : ℕ
  pub id : ℕ
  pub payload : ℕ

abbrev pub slot : ℕ → ℕ → ℕ → Slot
slot k i p = record { sort = k; id = i; payload = p }

-- what code has for a slot
abbrev pub as_slot : code.Slot → Slot
as_slot t = slot (sort_code t.sort) t.id t.payload

abbrev pub slot_bytes : Slot → List ℕ
slot_bytes s = (s.sort ∷ []) ++ (replicate 3 0 ++ (field 4 s.id ++ field 8 s.payload))

abbrev pub SlotOk : Slot → Type 0
SlotOk s = (s.sort ≤ 4) × (Unit {0} × ((s.id < 256 ^ 4) × (s.payload < 256 ^ 8)))

unfoldable pub slot_parser : Parser ℕ Slot
slot_parser = via (λ t. slot t.0 t.1.1.0 t.1.1.1) (both (code 4) (both (zeros 3) (both (number 4) (number 8))))

-- does a cell begin here?
abbrev pub is_cell_lem : Slot → Bool
is_cell_lem s = leb 3 s.sort

-- a value under an ID (or 0), where a cell is shown by the number that `of` gives for it
abbrev pub value_slot : (of : ℕ → ℕ) (id : ℕ) → Value → Slot
value_slot of i (int z) = slot 0 i (of_z w64 z)
value_slot of i (cell k) = slot 1 i (of k)
value_slot of i (outside n) = slot 2 i n
