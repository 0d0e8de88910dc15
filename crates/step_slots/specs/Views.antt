-- The slots that stand in bytes, as code reads them: for all bytes, with one slot for what is none.
use Rattle.std.specs.Prelude.{ℕ, zero, suc, ◌+◌, Bool, true, ◌&&◌, Option, Some, None, List, [], ◌∷◌, leb, drop}
use Rattle.image_spec.specs.Parse.{Parsed, refused, got}
use Rattle.step_slots.specs.declared.Slot as code
use Rattle.step_slots.specs.Slots.{Slot, slot, as_slot, slot_parser}

-- what is read where sixteen bytes are no slot: no sort is above 4
abbrev pub no_slot : Slot
no_slot = slot 5 0 0

-- what code has for a slot, or for none
abbrev pub found_slot : Option code.Slot → Slot
found_slot None = no_slot
found_slot (Some t) = as_slot t

abbrev pub slot_from : Parsed ℕ Slot → Slot
slot_from refused = no_slot
slot_from (got t m) = t

-- the slot that begins at byte `at`
unfoldable pub slot_at : List ℕ → ℕ → Slot
slot_at s at = slot_from (slot_parser (drop at s))

-- the n slots from byte `at` on
unfoldable pub slots_at : List ℕ → (at n : ℕ) → List Slot
slots_at s at zero = []
slots_at s at (suc n) = slot_at s at ∷ slots_at s (at + 16) n

-- is it a slot?
abbrev pub is_slot : Slot → Bool
is_slot t = leb t.sort 4

-- (Asked of bytes that are written, or lent without a header; of a store at rest a `State` carries it.)
abbrev pub all_slots : List Slot → Bool
all_slots [] = true
all_slots (t ∷ ts) = is_slot t && all_slots ts
