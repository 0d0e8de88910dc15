use Prim.Native.Nat.{◌+◌, ◌≤◌}
use mathlib.Core.Path.{◌≡◌, ap, sym, ◌∙◌}
use native.Mathlib.Omega.{arith}
use mathlib.Core.List.{List}
use lib.ListN.{length}
use Rattle.syntax.specs.declared.names.VarId.{VarId}
use Rattle.annotate_marks.proofs.MarkedLaws.{marked_none, marked-one, marked-past}
use Rattle.annotate_marks.proofs.count_marked.Goals as goal
use Rattle.annotate_marks.proofs.count_marked.Goals.{then-row-i-ne0, else-row-i-ne0}

pub loop-i-preserved : goal.loop-i-preserved
loop-i-preserved c =
    let l = c.loop-i in
    let r = c.args.row.now in
    elim c.if-row-i-ne0.branch [
      | then-row-i-ne0 w ↦
          let e = ap length (marked-one r l.i (omega arith) w.if-row-i-ne0.true) in
          rw w.marked-is (omega arith, omega (arith, e, l.invariant.1))
      | else-row-i-ne0 w ↦
          let e = marked_none r l.i (omega arith) w.if-row-i-ne0.false in
          rw w.marked-is (omega arith, ap (λ (z : List VarId). l.marked + length z) (sym e) ∙ l.invariant.1)
    ]

pub returns : goal.returns
returns c =
    let l = c.loop-i in
    let e = ap length (marked-past c.args.row.now l.i (omega arith)) in
    omega (arith, e, l.invariant.1)
