use mathlib.Core.Path.{refl, sym, ◌∙◌}
use native.Mathlib.Omega.{arith}
use Rattle.syntax.specs.Arrays.{set_of}
use Rattle.annotate_marks.proofs.MarkedLaws.{mark-bound, mark-free, mark-past}
use Rattle.annotate_marks.proofs.mark_one.Goals as goal

pub returns-then-contains : goal.returns-then-contains
returns-then-contains c =
    let a = c.args in
    mark-bound (set_of a.bound) a.id _ (sym c.contains.ensures ∙ c.if-contains.true)

pub returns-then-at-row : goal.returns-then-at-row
returns-then-at-row c =
    let a = c.args in
    mark-free (set_of a.bound) a.id _ _ (sym c.contains.ensures ∙ c.if-contains.false) refl

pub returns-else-at-row : goal.returns-else-at-row
returns-else-at-row c =
    let a = c.args in
    mark-past (set_of a.bound) a.id _ _ (sym c.contains.ensures ∙ c.if-contains.false) refl (omega arith)
