use Prim.Native.Nat.{◌+◌, ◌-◌}
use mathlib.Core.Path.{◌≡◌, ◌∙◌, refl, sym}
use native.Mathlib.Omega.{arith}
use Rattle.image_spec.proofs.FieldLaws.{field-length}
use Rattle.image_write_parts.proofs.Putting.{put_step}
use Rattle.image_write_parts.proofs.writer.Writer.number.Goals as goal

pub loop-preserved : goal.loop-preserved
loop-preserved c =
    let l = c.loop in
    let a = c.args in
    let p = c.byte.ensures in
    let e : a.width - l.counter - 1 ≡ a.width - (l.counter + 1) = omega arith in (
      (omega (arith, p.puts.ends), l.invariant.0.1 ∙ (put_step (a.width - l.counter) l.rest _ (omega arith) refl p.puts ∙ rw e)),
      (p.id ∙ l.invariant.1.0, p.same ∙ l.invariant.1.1),
    )

pub returns : goal.returns
returns c =
    let l = c.loop in
    let z : c.args.width - l.counter ≡ 0 = omega (arith, c.loop-test.false) in
    record {
      puts = record { holds = rw z at (sym l.invariant.0.1); ends = omega (arith, field-length c.args.width c.args.n) };
      id = l.invariant.1.0;
      same = l.invariant.1.1;
    }
