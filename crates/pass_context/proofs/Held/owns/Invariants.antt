-- `Held::owns` meets its contract: i binders are stored behind the others. Assumes nothing.
use mathlib.Core.List.{◌++◌, map}
use Prim.Native.Nat.{◌+◌}
use Rattle.syntax.specs.Arrays.{context_of}
use Rattle.pass_work_spec.specs.Work.{owns}
use Rattle.pass_entries.specs.Entries.{entry_in}
use Rattle.pass_context.specs.Holding.{entries_in, work_of}
use Rattle.pass_context.proofs.Stores.{Built}
use Rattle.pass_context.proofs.Held.owns.Given as goal

abbrev pub invariant-loop-i : goal.invariant-loop-i
invariant-loop-i l = Built (work_of l.self ++ owns l.n (context_of l.params)) (entries_in l.self) (map entry_in l.out.0) 64 (l.self.len + l.i)
