use mathlib.Core.Path.{sym, ap, ◌∙◌, subst}
use Rattle.image_spec.specs.declared.Layout.{Layout}
use Rattle.image_spec.specs.Answers.{Answer, Reports, report}
use Rattle.image_spec.specs.Reading.{answer_of}
use Rattle.scope_spec.specs.Calls.{check_of, check_call}
use Rattle.image_open.specs.Opening.{Known}
use Rattle.image_open.proofs.OpenedLaws.{layout1-known}
use Rattle.axcut.proofs.axcut_check.Goals as goal

pub check-requires : goal.check-requires
check-requires c = subst Known (sym c.one.ensures) layout1-known

pub returns : goal.returns
unfolding check_call
returns c =
    let s = c.args.image.now in
    let e = c.check.ensures ∙ ap (λ (l : Layout). answer_of (check_of l s)) c.one.ensures in
    subst (λ (a : Answer). Reports (report a) c.tell.result c.tell.new.length c.tell.new.max_id) e c.tell.ensures
