-- What a call has asked once, and its steps need not ask again: that no ID stands twice in the linear machine's list.
use Rattle.std.specs.Prelude.{ℕ, ◌≡◌, Bool, true, List, map}
use Rattle.syntax.specs.Sets.{distinct}
use Rattle.syntax.specs.declared.names.VarId.{VarId}
use Rattle.step_spec.specs.declared.MachineKind.TheVariants.{Linear}
use Rattle.step_header.specs.declared.Header.{Header}
use Rattle.step_header.specs.Headers.{entries_in}
use Rattle.step_rows.specs.Rows.{slot_id}
use Rattle.step_places.specs.declared.stepper.Stepper.{Stepper}

-- where one is sure, the IDs are distinct
abbrev pub Sure : (sure : Bool) → List VarId → Type 0
Sure sure xs = sure ≡ true → distinct xs ≡ true

-- where the linear stepper is sure, those of the store's entries are. The source machine does not ask.
-- (Asked, and no field of `Work`: a step writes the store)
abbrev pub SureIn : Stepper → (sure : Bool) → (store : List ℕ) → Header → Type 0
SureIn stepper sure store h = stepper.machine ≡ Linear → Sure sure (map slot_id (entries_in store h))
