use mathlib.Core.Path.{◌∙◌}
use native.Mathlib.Omega.{arith}
use Rattle.image_spec.proofs.FieldLaws.{field-length}
use Rattle.annotate_marks.proofs.MarkedLaws.{ends_none, ends-one, ends-past}
use Rattle.annotate_marks.proofs.put_marked.Goals as goal
use Rattle.annotate_marks.proofs.put_marked.Goals.{then-row-i-ne0, else-row-i-ne0}

pub number-requires : goal.number-requires
number-requires c =
    let s = c.args.writer.now in
    omega (arith, c.loop-i.invariant.0.0, s.narrow)

pub loop-i-preserved : goal.loop-i-preserved
loop-i-preserved c =
    let l = c.loop-i in
    let i = l.invariant in
    let s = c.args.writer.now in
    elim c.if-row-i-ne0.branch [
      | then-row-i-ne0 w ↦
          let p = w.number.ensures in
          let k = field-length s.id l.i in
          rw w.writer-is
          ((omega (arith, p.puts.ends, k, s.narrow), ends-one i.0.1 (omega arith) w.if-row-i-ne0.true p.puts), (p.id ∙ i.1.0, p.same ∙ i.1.1))
      | else-row-i-ne0 w ↦ rw w.writer-is ((omega arith, ends_none i.0.1 (omega arith) w.if-row-i-ne0.false), i.1)
    ]

pub returns : goal.returns
returns c =
    let i = c.loop-i.invariant in
    record { puts = ends-past i.0.1 (omega arith); id = i.1.0; same = i.1.1 }
