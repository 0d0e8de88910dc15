use Rattle.image_spec.specs.Fields.{identifier}
use Rattle.image_fields.proofs.Stops.{stop-marked}
use Rattle.image_fields.proofs.fields.Fields.skip_second.Goals as goal

pub returns-in_err-mark : goal.returns-in_err-mark
returns-in_err-mark c =
    let a = c.args in
    let f = a.self.now in
    rw (stop-marked (identifier f.id) f.bytes.now a.at, ← c.mark.ensures, c.in_err-mark.was) c.from_residual.ensures

pub returns-then-branch : goal.returns-then-branch
returns-then-branch c =
    let a = c.args in
    let f = a.self.now in
    rw (stop-marked (identifier f.id) f.bytes.now a.at, ← c.mark.ensures, c.in_ok-mark.was, c.if-branch.true) c.skip_identifier.ensures

pub returns-else-branch : goal.returns-else-branch
returns-else-branch c =
    let a = c.args in
    let f = a.self.now in
    rw (stop-marked (identifier f.id) f.bytes.now a.at, ← c.mark.ensures, c.in_ok-mark.was, c.if-branch.false)
