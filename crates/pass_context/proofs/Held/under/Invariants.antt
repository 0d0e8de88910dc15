-- `Held::under` meets its contract: i entries are stored. Assumes nothing.
use mathlib.Core.List.{◌++◌, map}
use lib.ListN.{take}
use Rattle.syntax.specs.Arrays.{bindings_in}
use Rattle.pass_work_spec.specs.Work.{owns}
use Rattle.pass_entries.specs.Entries.{entry_in}
use Rattle.pass_context.specs.Holding.{work_of}
use Rattle.pass_context.proofs.Stores.{Built}
use Rattle.pass_context.proofs.Held.under.Given as goal

abbrev pub invariant-loop-i : goal.invariant-loop-i
invariant-loop-i l = Built (owns l.n (take l.k (bindings_in l.params)) ++ work_of l.self) (map entry_in l.initial.out.0) (map entry_in l.out.0) 64 l.i
