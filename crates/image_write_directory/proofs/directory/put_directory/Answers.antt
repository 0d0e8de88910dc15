use mathlib.Core.Path.{refl, ◌∙◌}
use native.Mathlib.Omega.{arith}
use Rattle.image_spec.proofs.FieldLaws.{field-length}
use Rattle.image_write_directory.proofs.DirectoryLaws.{directory_begins, directory_next, directory_ends}
use Rattle.image_write_directory.proofs.directory.put_directory.Goals as goal

pub loop-size-init : goal.loop-size-init
loop-size-init c =
    let w = c.args.writer.now in
    let h = c.requires.1 in
    (directory_begins c.args.width c.args.lengths.now w.out.now w.at c.args.start h.1 h.0, (refl, refl))

pub number-requires-in-loop-size : goal.number-requires-in-loop-size
number-requires-in-loop-size c =
    omega (arith, c.loop-size.invariant.0.far, c.loop-size-test.true, c.requires.0, c.number.ensures.puts.ends, field-length c.args.width c.loop-size.place)

pub loop-size-preserved : goal.loop-size-preserved
loop-size-preserved c =
    let i = c.loop-size.invariant in
    let p = c.number.ensures in
    let q = c.number-in-loop-size.ensures in (
      directory_next i.0 c.loop-size-test.true c.requires.0 (field-length _ _) (field-length _ _) p.puts q.puts,
      (q.id ∙ (p.id ∙ i.1.0), q.same ∙ (p.same ∙ i.1.1)),
    )

pub returns : goal.returns
returns c =
    let i = c.loop-size.invariant in
    record { puts = directory_ends i.0 c.loop-size-test.false; id = i.1.0; same = i.1.1 }
