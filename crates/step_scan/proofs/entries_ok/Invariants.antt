use Rattle.step_scan.proofs.PassLaws.{EntriesLeft}
use Rattle.step_scan.proofs.entries_ok.Given as goal

abbrev pub invariant-loop-i : goal.invariant-loop-i
invariant-loop-i l = EntriesLeft l.heap.store.now l.heap.count l.entries l.i
