-- `Held::respelled` meets its contract: i entries are respelled in place. Assumes nothing.
use mathlib.Core.List.{map}
use lib.ListN.{take}
use Rattle.syntax.specs.Arrays.{context_of}
use Rattle.pass_work_spec.specs.Work.{respelled}
use Rattle.pass_entries.specs.Entries.{entry_in}
use Rattle.pass_context.proofs.HeldLaws.{Storing}
use Rattle.pass_context.proofs.Held.respelled.Given as goal

abbrev pub invariant-loop-i : goal.invariant-loop-i
invariant-loop-i l =
    let whole = map entry_in l.initial.out.0 in
    Storing (respelled (take l.i-end whole) (context_of l.names)) whole l.i-end l.out.0 l.out.1.0 l.i
