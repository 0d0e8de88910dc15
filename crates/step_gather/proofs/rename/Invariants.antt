-- `rename` meets its contract. Assumes nothing.
use Rattle.step_slots.specs.Views.{slots_at}
use Rattle.step_rows.specs.Rows.{ids_of}
use Rattle.step_gather.specs.Gathering.{renamed}
use Rattle.step_gather.proofs.Filling.{Filled}
use Rattle.step_gather.proofs.rename.Given as goal

abbrev pub invariant-loop-j : goal.invariant-loop-j
invariant-loop-j l = Filled (renamed (ids_of l.row) (slots_at l.initial.slots l.at l.row.places.len)) l.initial.slots l.at l.slots l.j
