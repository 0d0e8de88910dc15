use Rattle.std.proofs.Common.{rules}
use mathlib.Core.Path.{sym, subst}
use Rattle.image_spec.specs.Layout.{layout1}
use Rattle.image_open.specs.Opening.{Known}
use Rattle.image_open.specs.Opens.{Opens}
use Rattle.image_open.proofs.OpenedLaws.{layout1-known, opens-answer}
use Rattle.image_open.proofs.read.Goals as goal
use Rattle.image_open.proofs.read.Goals.{After-open}

-- the image was opened by layout 1
opens : (c : After-open) → Opens layout1 c.args.image.now c.open.result
opens c = subst (λ l. Opens l c.args.image.now c.open.result) c.one.ensures c.open.ensures

pub open-requires : goal.open-requires
open-requires c = subst Known (sym c.one.ensures) layout1-known

pub returns-in_err-opened : goal.returns-in_err-opened
returns-in_err-opened c =
    let s = c.args.image.now in
    let o = opens-answer (subst (Opens layout1 s) c.in_err-opened.was (opens (goal.at.returns-in_err-opened c).After-open)) in
    search (rules, o)

pub returns : goal.returns
returns c = opens-answer (subst (Opens layout1 c.args.image.now) c.in_ok-opened.was (opens (goal.at.returns c).After-open))
