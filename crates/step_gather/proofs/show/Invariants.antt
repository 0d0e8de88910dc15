-- `show` meets its contract. Assumes nothing.
use mathlib.Core.List.{map}
use Rattle.step_slots.specs.Views.{slots_at}
use Rattle.step_gather.specs.Gathering.{shown_as}
use Rattle.step_gather.proofs.Filling.{Filled}
use Rattle.step_gather.proofs.show.Given as goal

abbrev pub invariant-loop-j : goal.invariant-loop-j
invariant-loop-j l = Filled (map (shown_as (slots_at l.heap.store.now 64 l.heap.count)) (slots_at l.slots l.at l.n)) l.initial.events l.to l.events l.j
