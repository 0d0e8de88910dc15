-- `gather_from` meets its contract. Assumes nothing.
use lib.ListN.{drop}
use Rattle.step_slots.specs.Views.{slots_at}
use Rattle.step_rows.specs.Rows.{ids_of}
use Rattle.step_rows.proofs.RowLoops.{Passed}
use Rattle.step_gather.specs.Gathering.{all_found_lem, found_slots}
use Rattle.step_gather.proofs.Filling.{Filled}
use Rattle.step_gather.proofs.gather_from.Given as goal

abbrev pub invariant-loop-j : goal.invariant-loop-j
invariant-loop-j l =
    Passed l.row.places.len (λ k. all_found_lem (slots_at l.store l.at l.n) (drop k (ids_of l.row))) l.j × Filled (found_slots (slots_at l.store l.at l.n) (ids_of l.row)) l.initial.out l.to l.out l.j
