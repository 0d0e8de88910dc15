use Rattle.std.proofs.Common.{arith, sym, eqb-true, length, ◌<◌}
use Rattle.std.proofs.lemmas.Bool.Decides.{nat_tests}
use Rattle.image_kinds.proofs.RecordStops.{formed-empty, formed}
use Rattle.image_kinds.proofs.form.record_formed.Goals as goal

pub returns-then-is_empty : goal.returns-then-is_empty
returns-then-is_empty c = let f = c.args.fields.now in sym (formed-empty f.id f.bytes.now (eqb-true (length f.bytes.now) 0 (sym c.if-is_empty.ensures)))

pub returns : goal.returns
returns c =
    let f = c.args.fields.now in
    let h : 0 < length f.bytes.now = grind (arith, nat_tests, c.if-is_empty.ensures) in
    rw (formed f.id f.bytes.now h, ← c.skip_content_of.ensures) c.eq.ensures
