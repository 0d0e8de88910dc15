use Prim.Native.Nat.{◌+◌, ◌≤◌}
use mathlib.Core.Path.{◌≡◌}
use mathlib.Core.List.{List}
use lib.ListN.{length, drop}
use Rattle.syntax.specs.declared.names.VarId.{VarId}
use Rattle.scope_spec.specs.Marking.{marked_from}
use Rattle.annotate_marks.proofs.count_marked.Given as goal

abbrev pub invariant-loop-i : goal.invariant-loop-i
invariant-loop-i l = (l.marked ≤ l.i) × (l.marked + length (marked_from l.i (drop l.i l.row)) ≡ length (marked_from 0 l.row))
