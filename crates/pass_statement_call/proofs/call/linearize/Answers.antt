-- `linearize` of a Call meets its contract. Assumes nothing.
use mathlib.Core.Path.{◌≡◌, refl, sym, ◌∙◌}
use mathlib.Core.List.{[], ◌++◌, append-nil}
use native.Mathlib.Omega.{arith}
use borrow.Author.Tests.{ne_eqb}
use Rattle.syntax.specs.Context.{same_context}
use Rattle.syntax.specs.Arrays.{context_of}
use Rattle.syntax.proofs.Counts.{context-count}
use Rattle.image_spec.specs.Records.{call}
use Rattle.pass_work_spec.specs.Work.{bindings}
use Rattle.pass_context.specs.Holding.{work_of}
use Rattle.pass_context.proofs.Counts.{work-count}
use Rattle.pass_arrange.proofs.ArrangeLaws.{arranges_as}
use Rattle.pass_step.proofs.FreshLaws.{fresh-count}
use Rattle.pass_step.proofs.EndLaws.{compared_right, uncounted_right, end_leaves}
use Rattle.pass_step.proofs.WriteLaws.{recorded, keeps_drawn}
use Rattle.pass_statement_call.proofs.CallLaws.{call-leaves}
use Rattle.pass_statement_call.proofs.call.linearize.Goals as goal
use Rattle.pass_statement_call.proofs.call.linearize.Goals.{Joined-here-args, then-here-args, else-here-args}

-- they are the context, or they are not
right_is : (c : Joined-here-args) → c.if-here-args.right ≡ same_context (bindings (work_of c.args.here.now.context)) (context_of c.used_all-args.result ++ [])
right_is c =
    let W = work_of c.args.here.now.context in
    let Γ = context_of c.used_all-args.result in
    elim c.if-here-args.branch [
      | then-here-args w ↦ compared_right W Γ w.empty.ensures w.same-right.ensures w.right-is
      | else-here-args w ↦ uncounted_right W Γ [] (work-count c.args.here.now.context) (context-count c.used_all-args.result) (λ e. w.if-here-args.false (omega arith)) (w.right-is ∙ ne_eqb _ _ w.if-here-args.false)
    ]

pub freshen_unless-freshened-requires : goal.freshen_unless-freshened-requires
freshen_unless-freshened-requires c =
    (omega (arith, c.empty-clashes.ensures.count), c.requires.1.1.max_id)

pub arrange_args-requires : goal.arrange_args-requires
arrange_args-requires c =
    let h = c.requires in
    (fresh-count _ c.used_all-args.result _ _ c.freshen_unless-freshened.ensures, h.1.1)

pub returns : goal.returns
returns c =
    let l = c.call-statement.result in
    let k = c.arrange_args.ensures in
    let z = recorded (call l.label []) k.1 c.put_call.ensures c.note.ensures in (
      call-leaves l.label (context_of l.args) _ _ c.call-statement.ensures.is
          (end_leaves [] [] (call l.label []) _ _ c.used_all-args.ensures c.empty-clashes.ensures (right_is (goal.at.returns c).Joined-here-args) c.freshen_unless-freshened.ensures
          (arranges_as _ (sym (append-nil _)) (sym (append-nil _)) k.0) z.puts z.noted refl),
      keeps_drawn z.keeps,
    )
