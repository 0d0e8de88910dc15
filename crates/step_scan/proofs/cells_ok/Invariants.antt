use Rattle.step_slots.specs.Sorts.{own_code}
use Rattle.step_scan.proofs.PassLaws.{Left}
use Rattle.step_scan.proofs.cells_ok.Given as goal

abbrev pub invariant-loop-i : goal.invariant-loop-i
invariant-loop-i l = Left l.image.frame l.image.bytes.now l.heap.store.now l.cells l.heap.count l.k (own_code l.own) l.i
