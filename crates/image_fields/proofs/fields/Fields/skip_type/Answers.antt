use Rattle.std.proofs.Common.{arith}
use Rattle.image_fields.proofs.Stops.{got_none, got_some}
use Rattle.image_fields.proofs.FieldStops.{type_i64, type-named, type_bad, type_none}
use Rattle.image_fields.proofs.fields.Fields.skip_type.Goals as goal

pub returns-in_err-get : goal.returns-in_err-get
returns-in_err-get c =
    let a = c.args in
    let f = a.self.now in
    cc (type_none f.id f.bytes.now a.at (got_none _ _ _ c.get.ensures.lookup c.in_err-get.was), c.from_residual.ensures)

pub returns-in-0 : goal.returns-in-0
returns-in-0 c =
    let a = c.args in
    let f = a.self.now in
    let g = got_some _ _ _ _ c.get.ensures.lookup c.in_ok-get.was in
    cc (type_i64 f.id f.bytes.now a.at g.0 (omega arith), c.skip_zeros.ensures)

pub returns-in-1 : goal.returns-in-1
returns-in-1 c =
    let a = c.args in
    let f = a.self.now in
    let g = got_some _ _ _ _ c.get.ensures.lookup c.in_ok-get.was in
    cc (type-named f.id f.bytes.now a.at g.0 (omega arith), c.skip_identifier.ensures)

pub returns-in_default : goal.returns-in_default
returns-in_default c =
    let a = c.args in
    let f = a.self.now in
    let g = got_some _ _ _ _ c.get.ensures.lookup c.in_ok-get.was in
    cc (type_bad f.id f.bytes.now a.at g.0 (λ z. omega arith) (λ z. omega arith))
