use Rattle.image_fields.proofs.FieldStops.{stop-binding}
use Rattle.image_fields.proofs.fields.Fields.skip_binding.Goals as goal

pub returns-in_err-chirality : goal.returns-in_err-chirality
returns-in_err-chirality c =
    let a = c.args in
    let f = a.self.now in
    rw (stop-binding f.id f.bytes.now a.at, ← c.skip_identifier.ensures, c.in_err-chirality.was) c.from_residual.ensures

pub returns-in_err-ty : goal.returns-in_err-ty
returns-in_err-ty c =
    let a = c.args in
    let f = a.self.now in
    rw (stop-binding f.id f.bytes.now a.at, ← c.skip_identifier.ensures, c.in_ok-chirality.was, ← c.skip_code.ensures, c.in_err-ty.was) c.from_residual-in_err-ty.ensures

pub returns : goal.returns
returns c =
    let a = c.args in
    let f = a.self.now in
    rw (stop-binding f.id f.bytes.now a.at, ← c.skip_identifier.ensures, c.in_ok-chirality.was, ← c.skip_code.ensures, c.in_ok-ty.was) c.skip_type.ensures
