-- `Held::move_behind` meets its contract: i entries are stored. Assumes nothing.
use mathlib.Core.List.{map}
use lib.ListN.{take}
use Rattle.pass_work_spec.specs.Work.{moved_behind}
use Rattle.pass_entries.specs.Entries.{entry_in}
use Rattle.pass_context.specs.Holding.{entries_in}
use Rattle.pass_context.proofs.HeldLaws.{Storing}
use Rattle.pass_context.proofs.Held.move_behind.Given as goal

abbrev pub invariant-loop-i : goal.invariant-loop-i
invariant-loop-i l = Storing (moved_behind l.j (take l.n (entries_in l.self))) (map entry_in l.initial.out.0) l.n l.out.0 l.out.1.0 l.i
