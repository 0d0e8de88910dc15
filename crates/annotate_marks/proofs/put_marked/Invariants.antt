use Prim.Native.Nat.{◌+◌, ◌*◌, ◌≤◌}
use mathlib.Core.Path.{◌≡◌}
use Rattle.annotate_marks.proofs.MarkedLaws.{Ends}
use Rattle.annotate_marks.proofs.put_marked.Given as goal

abbrev pub invariant-loop-i : goal.invariant-loop-i
invariant-loop-i l =
    let s = l.initial.writer in
    ((l.writer.at ≤ s.at + 8 * l.i) × Ends l.width l.row s.out.now s.at l.writer.out.now l.writer.at l.i)
    × ((l.writer.id ≡ s.id) × (l.writer.out.ghost_name ≡ s.out.ghost_name))
