use Rattle.std.proofs.Common.{◌∙◌}
use Rattle.image_fields.proofs.Stops.{code-chosen, code-past, got_none, got_some}
use Rattle.image_fields.proofs.fields.Fields.skip_code.Goals as goal

pub returns-in_err-b : goal.returns-in_err-b
returns-in_err-b c =
    let a = c.args in
    let f = a.self.now in
    cc (code-past a.most f.bytes.now a.at (got_none _ _ _ c.get.ensures.lookup c.in_err-b.was), c.from_residual.ensures)

pub returns : goal.returns
returns c =
    let a = c.args in
    let f = a.self.now in
    let g = got_some _ _ _ _ c.get.ensures.lookup c.in_ok-b.was in
    c.then_some.ensures ∙ rw (← g.1) (code-chosen a.most f.bytes.now a.at g.0)
