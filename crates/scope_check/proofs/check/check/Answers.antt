-- `check` meets its contract. Assumes nothing.
use mathlib.Core.Path.{ap, ◌∙◌, subst}
use Rattle.std.proofs.Common.{rules, Ok}
use Rattle.image_spec.specs.Reading.{answer_of}
use Rattle.image_open.specs.Opens.{Opens}
use Rattle.image_open.proofs.OpenedLaws.{opened-image, opened-bytes, opened-refused}
use Rattle.scope_spec.specs.Calls.{check_of}
use Rattle.scope_check.proofs.CheckLaws.{opened-answer, closed-answer}
use Rattle.scope_check.proofs.check.check.Goals as goal
use Rattle.scope_check.proofs.check.check.Goals.{In_ok-opened}

-- the image was opened
opened : (c : In_ok-opened) → Opens c.args.layout c.args.image.now (Ok c.in_ok-opened.opened)
opened c = subst (Opens c.args.layout c.args.image.now) c.in_ok-opened.was c.open.ensures

pub returns : goal.returns
returns c =
    let o = opened (goal.at.returns c).In_ok-opened in
    c.check_image.ensures.0 ∙ (opened-answer (opened-image c.requires o) ∙ ap (λ s. answer_of (check_of c.args.layout s)) (opened-bytes o))

pub returns-in_err-opened : goal.returns-in_err-opened
returns-in_err-opened c =
    let a = c.args in
    let e = closed-answer a.layout a.image.now (opened-refused (subst (Opens a.layout a.image.now) c.in_err-opened.was c.open.ensures)) in
    search (rules, e)
