-- What the step shows that ends a run with an outside number.
use Rattle.std.specs.Prelude.{ℕ, List, [], ◌++◌, map, Result}
use Rattle.image_spec.specs.Parse.{each}
use Rattle.step_slots.specs.Slots.{Slot, slot_bytes}
use Rattle.step_header.specs.declared.Header.{Header}
use Rattle.step_header.specs.Headers.{heap_in}
use Rattle.step_gather.specs.Gathering.{shown_as}
use Rattle.step_write.specs.declared.EventHead.{EventHead}
use Rattle.step_write.specs.declared.Step.{Step}
use Rattle.step_write.specs.declared.Stop.{Stop}
use Rattle.step_write.specs.declared.Work.{Work}
use Rattle.step_write.specs.Working.{FinishesIn}
use Rattle.step_write.specs.Writing.{head_bytes}

-- an event with these values behind it, where the slots of the cells are these
abbrev pub shown_with : EventHead → (heap values : List Slot) → List ℕ
shown_with e H ts = head_bytes e ++ each slot_bytes (map (shown_as H) ts)

-- the step that ends a run: this event with these values behind it, and of the state only the header is written
abbrev pub ShowsIn : (w w' : Work) → EventHead → Header → (values : List Slot) → Result Step Stop → Type 0
ShowsIn w w' e header values m = FinishesIn w w' header (shown_with e (heap_in w.store.now header) values) 64 [] m
