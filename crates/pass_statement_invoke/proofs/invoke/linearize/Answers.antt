-- `linearize` of an Invoke meets its contract. Assumes nothing.
use mathlib.Core.Path.{◌≡◌, refl, ◌∙◌}
use mathlib.Core.List.{[], ◌∷◌, ◌++◌}
use native.Mathlib.Omega.{arith}
use borrow.Author.Tests.{ne_eqb}
use Rattle.syntax.specs.Context.{same_context}
use Rattle.syntax.specs.Arrays.{context_of}
use Rattle.syntax.specs.declared.context.Chirality.TheVariants.{Cns}
use Rattle.syntax.proofs.Counts.{context-count}
use Rattle.model.specs.Rules.{bind}
use Rattle.image_spec.specs.Records.{invoke}
use Rattle.pass_work_spec.specs.Work.{bindings}
use Rattle.pass_context.specs.Holding.{work_of}
use Rattle.pass_context.proofs.Counts.{work-count}
use Rattle.pass_step.proofs.StepLaws.{holds-one}
use Rattle.pass_step.proofs.FreshLaws.{fresh-count}
use Rattle.pass_step.proofs.EndLaws.{compared_right, uncounted_right, end_leaves}
use Rattle.pass_step.proofs.WriteLaws.{recorded, keeps_drawn}
use Rattle.pass_statement_invoke.proofs.InvokeLaws.{set-holds-one, invoke-leaves}
use Rattle.pass_statement_invoke.proofs.invoke.linearize.Goals as goal
use Rattle.pass_statement_invoke.proofs.invoke.linearize.Goals.{Joined-here-args, then-here-args, else-here-args}

-- the arguments and the closure are the context, or they are not
right_is : (c : Joined-here-args) → c.if-here-args.right ≡ same_context (bindings (work_of c.args.here.now.context)) (context_of c.used_all-args.result ++ (bind c.used-var.result Cns c.invoke-statement.result.ty ∷ []))
right_is c =
    let W = work_of c.args.here.now.context in
    let Γ = context_of c.used_all-args.result in
    elim c.if-here-args.branch [
      | then-here-args w ↦ compared_right W Γ (holds-one w.empty.ensures w.push.ensures) w.same-right.ensures w.right-is
      | else-here-args w ↦ uncounted_right W Γ _ (work-count c.args.here.now.context) (context-count c.used_all-args.result) w.if-here-args.false (w.right-is ∙ ne_eqb _ _ w.if-here-args.false)
    ]

pub overflow_add-args : goal.overflow_add-args
overflow_add-args c = omega (arith, c.used_all-args.result.fits)

pub push-requires : goal.push-requires
push-requires c = omega (arith, c.empty.ensures.count)

pub add-clashes-requires : goal.add-clashes-requires
add-clashes-requires c = omega (arith, c.empty-2.ensures.count)

pub freshen_unless-freshened-requires : goal.freshen_unless-freshened-requires
freshen_unless-freshened-requires c =
    let k = (set-holds-one c.empty-2.ensures c.add-clashes.ensures).count in
    (omega (arith, k), c.requires.1.1.max_id)

pub arrange_closure-requires : goal.arrange_closure-requires
arrange_closure-requires c =
    let h = c.requires in
    (fresh-count _ c.used_all-args.result _ _ c.freshen_unless-freshened.ensures, h.1.1)

pub returns : goal.returns
returns c =
    let l = c.invoke-statement.result in
    let x = c.used-var.result in
    let k = c.arrange_closure.ensures in
    let z = recorded (invoke x l.tag l.ty []) k.1 c.put_invoke.ensures c.note.ensures in (
      invoke-leaves l.var l.tag l.ty (context_of l.args) _ _ x c.invoke-statement.ensures.is c.used-var.ensures
          (end_leaves (bind x Cns l.ty ∷ []) (x.id ∷ []) (invoke x l.tag l.ty []) _ _ c.used_all-args.ensures (set-holds-one c.empty-2.ensures c.add-clashes.ensures) (right_is (goal.at.returns c).Joined-here-args)
          c.freshen_unless-freshened.ensures k.0 z.puts z.noted refl),
      keeps_drawn z.keeps,
    )
