use mathlib.Core.Path.{sym, ap, subst}
use native.Mathlib.Omega.{arith}
use lib.ListN.{length}
use Rattle.image_spec.specs.declared.Layout.{Layout}
use Rattle.image_spec.specs.Answers.{Answer, Reports, report}
use Rattle.scope_spec.specs.Calls.{annotate_of, annotate_call, Replies}
use Rattle.image_open.specs.Opening.{Known}
use Rattle.image_open.proofs.OpenedLaws.{layout1-known}
use Rattle.axcut.proofs.axcut_annotate.Goals as goal

pub annotate-requires : goal.annotate-requires
annotate-requires c =
    let e = c.one.ensures in
    (subst Known (sym e) layout1-known, omega (arith, ap (λ (l : Layout). l.id) e))

pub returns : goal.returns
unfolding annotate_call
returns c =
    let a = c.args in
    let w = subst (λ (l : Layout). Replies (annotate_of l a.image.now a.«record» (length a.out.now)) c.annotate.result a.out.now c.annotate.new.out) c.one.ensures c.annotate.ensures in
    record {
      reports = subst (λ (x : Answer). Reports (report x) c.tell.result c.tell.new.length c.tell.new.max_id) w.answers c.tell.ensures;
      leaves = w.leaves;
    }
