use mathlib.Core.Path.{sym, ap, subst}
use native.Mathlib.Omega.{arith}
use lib.ListN.{length}
use Rattle.image_spec.specs.declared.Layout.{Layout}
use Rattle.image_spec.specs.Answers.{Answer, Reports, report}
use Rattle.scope_spec.specs.Calls.{Replies}
use Rattle.pass_answer_spec.specs.Calls.{linearize_of, linearize_call}
use Rattle.image_open.specs.Opening.{Known}
use Rattle.image_open.proofs.OpenedLaws.{layout1-known}
use Rattle.axcut.proofs.axcut_linearize.Goals as goal

pub linearize-requires : goal.linearize-requires
linearize-requires c =
    let e = c.one.ensures in
    (subst Known (sym e) layout1-known, omega (arith, ap (λ (l : Layout). l.id) e))

pub returns : goal.returns
unfolding linearize_call
returns c =
    let a = c.args in
    let x = c.linearize in
    let w = subst (λ (l : Layout). Replies (linearize_of l a.image.now (length a.out.now)) x.result a.out.now x.new.out) c.one.ensures x.ensures in
    record {
      reports = subst (λ (z : Answer). Reports (report z) c.tell.result c.tell.new.length c.tell.new.max_id) w.answers c.tell.ensures;
      leaves = w.leaves;
    }
