use mathlib.Core.Path.{◌≡◌}
use lib.ListN.{length}
use Rattle.syntax.specs.Arrays.{set_of}
use Rattle.syntax.proofs.Lists.{rest}
use Rattle.scope_spec.specs.Marking.{mark_all_lem}
use Rattle.annotate_marks.proofs.mark_all.Given as goal

abbrev pub invariant-loop-id : goal.invariant-loop-id
invariant-loop-id l =
    (length l.row ≡ length l.initial.row) × (mark_all_lem (set_of l.bound) (set_of l.fn.set) l.initial.row ≡ mark_all_lem (set_of l.bound) (rest l.fn.set.ids l.fn.set.len l.id-index) l.row)
