-- The IDs of a row.
use Rattle.std.specs.Prelude.{ℕ, List, ◌≡◌, get_or}
use Rattle.syntax.specs.declared.names.VarId.{VarId}
use Rattle.step_slots.specs.Slots.{Slot}
use Rattle.step_rows.specs.declared.row.Row.{Row}
use Rattle.step_rows.specs.Placing.{identified, ids_in, behind_of}

-- the IDs of a row
abbrev pub ids_of : Row → List VarId
ids_of row = ids_in row.bytes.now row.places

-- the ID at place j; 0 where there is none
abbrev pub id_at : Row → (j : ℕ) → VarId
id_at row j = get_or (ids_of row) j (identified 0)

-- the row is the other one without its first k
pub record IsBehind (row : Row) (k : ℕ) (rest : Row) : Type 0 where
  pub bytes : rest.bytes.now ≡ row.bytes.now
  pub places : rest.places ≡ behind_of row.places k

abbrev pub slot_id : Slot → VarId
slot_id t = identified t.id
