-- `show_one` meets its contract. Assumes nothing.
use mathlib.Core.Path.{ap, ◌∙◌}
use Rattle.std.proofs.lemmas.List.Edits.{sets}
use Rattle.step_slots.specs.Slots.{Slot, slot_bytes}
use Rattle.step_slots.specs.Views.{slots_at}
use Rattle.step_gather.specs.Gathering.{shown_as}
use Rattle.step_gather.proofs.show_one.Goals as goal

pub returns-in-Some : goal.returns-in-Some
returns-in-Some c =
    let a = c.args in
    let H = slots_at a.heap.now.store.now 64 a.heap.now.count in
    c.put_slot.ensures.holds ∙ ap (λ (t : Slot). sets a.events.now a.to (slot_bytes t)) (c.shown.ensures ∙ ap (shown_as H) c.in-Some.ensures)

pub returns-in-None : goal.returns-in-None
returns-in-None c =
    let a = c.args in
    let H = slots_at a.heap.now.store.now 64 a.heap.now.count in
    c.put_none.ensures.holds ∙ ap (λ (t : Slot). sets a.events.now a.to (slot_bytes (shown_as H t))) c.in-None.ensures
