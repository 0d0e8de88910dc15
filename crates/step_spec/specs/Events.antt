-- The bytes of an event, and of a start's values.
use Rattle.std.specs.Prelude.{ℕ, zero, suc, ◌^◌, ◌<◌, cond, List, [], ◌∷◌, ◌++◌, map, eqb, ltb, length, get_or}
use Rattle.std.proofs.Math.Option.{Option, none, some}
use Rattle.std.specs.Int.{w64}
use Rattle.std.proofs.Common.{SFits, of_z, to_z}
use Rattle.syntax.specs.declared.names.Name.{Name}
use Rattle.model.specs.Machine.{Value, int, cell, outside, Event, Literal', Op', IfC', Let', Create', Switch', Invoke', Call', Outside', PrintI64', Exit', Given, integer, outside_number}
use Rattle.image_spec.specs.Parse.{Parser, got, and_then, both, times, whole, each, All, code, number, field}
use Rattle.image_spec.specs.Image.{if_some}
use Rattle.step_slots.specs.Slots.{Slot, slot_bytes, slot_parser, value_slot}
use Rattle.step_spec.specs.Store.{bit}

-- document 02, A.2: an event takes 16 bytes, and 16 for each argument value shown:
-- byte 0      kind of the statement's record
-- byte 1      the sort of what bytes 8-15 hold: 0 an integer, 1 a cell, 2 an outside number; of IfC its branch (1 then, 0 else); of PrintI64 its
--             newline byte; of Call 0
-- bytes 2-3   the tag, or the label; else zero
-- bytes 4-7   how many argument values follow
-- bytes 8-15  the integer (signed), the number of the cell, or the outside number; else zero
-- Then the argument values, a slot each, a cell by its number.
abbrev pub event_head : (kind detail name count payload : ℕ) → List ℕ
event_head k d f n p = k ∷ d ∷ (field 2 f ++ (field 4 n ++ field 8 p))

abbrev pub itself : ℕ → ℕ
itself k = k

-- a value by itself: a cell by its number
abbrev pub shown_slot : Value → Slot
shown_slot v = value_slot itself 0 v

unfoldable pub event_bytes : Event → List ℕ
event_bytes (Literal' z) = event_head 8 0 0 0 (of_z w64 z)
event_bytes (Op' z) = event_head 9 0 0 0 (of_z w64 z)
event_bytes (IfC' b) = event_head 10 (bit b) 0 0 0
event_bytes (Let' k tag) = event_head 4 1 tag.0 0 k
event_bytes (Create' k) = event_head 6 1 0 0 k
event_bytes (Switch' k tag) = event_head 5 1 tag.0 0 k
event_bytes (Invoke' k tag) = event_head 7 1 tag.0 0 k
event_bytes (Call' f) = event_head 3 0 f.0 0 0
event_bytes (Outside' n tag args) = event_head 7 2 tag.0 (length args) n ++ each slot_bytes (map shown_slot args)
event_bytes (PrintI64' newline z) = event_head 12 (bit newline) 0 0 (of_z w64 z)
event_bytes (Exit' v) = event_head 13 (shown_slot v).sort 0 0 (shown_slot v).payload

-- the argument values that an event shows
abbrev pub args_of : Event → List Value
args_of (Literal' z) = []
args_of (Op' z) = []
args_of (IfC' b) = []
args_of (Let' k tag) = []
args_of (Create' k) = []
args_of (Switch' k tag) = []
args_of (Invoke' k tag) = []
args_of (Call' f) = []
args_of (Outside' n tag args) = args
args_of (PrintI64' newline z) = []
args_of (Exit' v) = []

-- the events whose numbers fit their bytes
abbrev pub ShownFits : Value → Type 0
ShownFits (int z) = SFits w64 z
ShownFits (cell k) = k < 256 ^ 8
ShownFits (outside n) = n < 256 ^ 8

abbrev pub EventFits : Event → Type 0
EventFits (Literal' z) = SFits w64 z
EventFits (Op' z) = SFits w64 z
EventFits (IfC' b) = Unit {0}
EventFits (Let' k tag) = (tag.0 < 256 ^ 2) × (k < 256 ^ 8)
EventFits (Create' k) = k < 256 ^ 8
EventFits (Switch' k tag) = (tag.0 < 256 ^ 2) × (k < 256 ^ 8)
EventFits (Invoke' k tag) = (tag.0 < 256 ^ 2) × (k < 256 ^ 8)
EventFits (Call' f) = f.0 < 256 ^ 2
EventFits (Outside' n tag args) = (tag.0 < 256 ^ 2) × (n < 256 ^ 8) × (length args < 256 ^ 4) × All ShownFits args
EventFits (PrintI64' newline z) = SFits w64 z
EventFits (Exit' v) = ShownFits v

-- how a host reads an event: its sixteen bytes and the argument values
abbrev pub shown_in : (sort payload : ℕ) → Value
shown_in zero p = int (to_z w64 p)
shown_in (suc zero) p = cell p
shown_in (suc (suc k)) p = outside p

abbrev pub named : ℕ → Name
named f = record { 0 = f }

abbrev pub events_by_kind : (detail name payload : ℕ) → List Slot → List Event
events_by_kind d f p args =
    Create' p ∷ Create' p ∷ Create' p
    ∷ Call' (named f)
    ∷ Let' p (named f)
    ∷ Switch' p (named f)
    ∷ Create' p
    ∷ cond (eqb d 2) (Outside' p (named f) (map (λ (s : Slot). shown_in s.sort s.payload) args)) (Invoke' p (named f))
    ∷ Literal' (to_z w64 p)
    ∷ Op' (to_z w64 p)
    ∷ IfC' (eqb d 1)
    ∷ Create' p
    ∷ PrintI64' (eqb d 1) (to_z w64 p)
    ∷ Exit' (shown_in d p)
    ∷ []

abbrev pub EventHead : Type 0
EventHead = ℕ × (ℕ × (ℕ × (ℕ × ℕ)))

abbrev pub event_head_parser : Parser ℕ EventHead
event_head_parser = both (code 255) (both (code 255) (both (number 2) (both (number 4) (number 8))))

unfoldable pub event_parser : Parser ℕ Event
event_parser s =
    and_then (event_head_parser s) λ h m.
    and_then (times h.1.1.1.0 slot_parser m) λ args r.
    got (get_or (events_by_kind h.1.0 h.1.1.0 h.1.1.1.1 args) h.0 (Create' 0)) r

-- document 01, "Events": one per step other than Substitute
abbrev pub shown_bytes : Option Event → List ℕ
shown_bytes none = []
shown_bytes (some e) = event_bytes e

-- ── starts ──

-- one integer or outside number, in a slot with ID 0
abbrev pub given_by_lem : (sort payload : ℕ) → Option Given
given_by_lem zero p = some (integer (to_z w64 p))
given_by_lem (suc zero) p = none
given_by_lem (suc (suc zero)) p = cond (ltb p 256) (some (outside_number p)) none
given_by_lem (suc (suc (suc k))) p = none

abbrev pub given_in : Slot → Option Given
given_in s = cond (eqb s.id 0) (given_by_lem s.sort s.payload) none

abbrev pub and_given : Option Given → Option (List Given) → Option (List Given)
and_given none vs = none
and_given (some v) none = none
and_given (some v) (some vs) = some (v ∷ vs)

abbrev pub givens_in : List Slot → Option (List Given)
givens_in [] = some []
givens_in (s ∷ ss) = and_given (given_in s) (givens_in ss)

-- document 02, A.2: a start .. whose values don't match its parameters in count or hold anything but integers and outside numbers up to 255:
-- these bytes as n values
unfoldable pub givens : (n : ℕ) → List ℕ → Option (List Given)
givens n bytes = if_some (whole (times n slot_parser bytes)) none givens_in
