use Prim.Native.Nat.{◌≤◌, ◌<◌}
use mathlib.Core.Path.{sym, ap, ◌∙◌}
use native.Mathlib.Omega.{arith}
use borrow.Author.Rules.{rules}
use lib.ListN.{length}
use lib.Seq.{get_or-take}
use Rattle.std.proofs.lemmas.List.{length-take-le}
use Rattle.syntax.specs.Arrays.{set_of}
use Rattle.syntax.specs.declared.names.VarId.{VarId}
use Rattle.scope_spec.specs.Marking.{mark_one_lem}
use Rattle.annotate_marks.proofs.MarkedLaws.{mark-next, mark-end}
use Rattle.annotate_marks.proofs.mark_all.Goals as goal

pub loop-id-preserved : goal.loop-id-preserved
loop-id-preserved c =
    let l = c.loop-id in
    let s = c.args.set in
    let k : s.len ≤ length s.ids = omega (arith, s.size, s.fits) in
    let h : l.id-index < s.len = omega (arith, c.loop-id-test.true, length-take-le s.len s.ids k) in
    let next = c.mark_one.ensures ∙ ap (λ (x : VarId). mark_one_lem (set_of c.args.bound) x l.row) (get_or-take s.len s.ids l.id-index (record { 0 = 0 }) h) in
    (search rules, l.invariant.1 ∙ mark-next (set_of c.args.bound) s.ids s.len l.id-index (record { 0 = 0 }) l.row _ h k next)

pub shape_of-row : goal.shape_of-row
shape_of-row c = c.loop-id.invariant.0

pub returns : goal.returns
returns c =
    let l = c.loop-id in
    let s = c.args.set in
    let k : s.len ≤ length s.ids = omega (arith, s.size, s.fits) in
    sym (l.invariant.1 ∙ mark-end (set_of c.args.bound) s.ids s.len l.id-index l.row (omega (arith, c.loop-id-test.false, length-take-le s.len s.ids k)))
