-- The slot with an ID, the first found; and what it says of an environment.
use Rattle.std.specs.Prelude.{ℕ, ◌-◌, cond, List, [], ◌∷◌, eqb, get_or, length}
use Rattle.std.proofs.Math.Option.{Option, none, some}
use Rattle.model.specs.Machine.{Value}
use Rattle.step_slots.specs.Slots.{Slot, slot, value_slot}
use Rattle.step_slots.specs.Views.{no_slot}

-- the first with this ID
unfoldable pub named : (id : ℕ) → List Slot → Slot
named x [] = no_slot
named x (t ∷ ts) = cond (eqb x t.id) t (named x ts)

-- the last slot; one of sort 5 where there is none
abbrev pub last_slot : List Slot → Slot
last_slot ts = get_or ts (length ts - 1) no_slot

-- the slot of a value under an ID; none where there is no value
abbrev pub slot_or_none : (of : ℕ → ℕ) (id : ℕ) → Option Value → Slot
slot_or_none of x none = no_slot
slot_or_none of x (some v) = value_slot of x v

-- the same value without its ID, as a cell of a Let holds it, or under another
abbrev pub under : (id : ℕ) → Slot → Slot
under x t = slot t.sort x t.payload
