-- `open` of a Switch meets its contract. Assumes nothing.
use Prim.Native.Nat.{◌+◌}
use mathlib.Core.Path.{◌≡◌, sym, ◌∙◌}
use mathlib.Core.List.{[], ◌∷◌, ◌++◌}
use native.Mathlib.Omega.{arith}
use borrow.Author.Tests.{ne_eqb}
use lib.ListN.{length, length-append}
use Rattle.syntax.specs.Context.{same_context}
use Rattle.pass_work_spec.specs.Work.{bindings}
use Rattle.pass_context.specs.Holding.{work_of}
use Rattle.pass_step.proofs.StepLaws.{holds-one}
use Rattle.pass_step.proofs.OpenLaws.{bindings-count, other_length}
use Rattle.pass_statement_switch.proofs.SwitchLaws.{switch-opens}
use Rattle.pass_statement_switch.proofs.switch.open.Goals as goal
use Rattle.pass_statement_switch.proofs.switch.open.Goals.{Joined-context-new_context, then-context-new_context, else-context-new_context}

-- the context is right, by the lengths first
right_is : (c : Joined-context-new_context) → c.if-context-new_context.right ≡ same_context (bindings (work_of c.args.context.now)) (bindings (work_of c.filter_by_set-new_context.result) ++ (c.matched-xtor.result ∷ []))
right_is c =
    let new = c.filter_by_set-new_context in
    let list = bindings (work_of new.result) in
    let last = c.matched-xtor.result ∷ [] in
    let n : length (list ++ last) ≡ new.result.len + 1 = omega (arith, length-append list last, bindings-count new.result) in
    elim c.if-context-new_context.branch [
      | then-context-new_context w ↦ cc (w.right-is, w.same-right.ensures, w.context.ensures.list, (holds-one w.empty.ensures w.push.ensures).list)
      | else-context-new_context w ↦ w.right-is ∙ ne_eqb _ _ w.if-context-new_context.false ∙ sym (other_length c.args.context.now (list ++ last) n w.if-context-new_context.false)
    ]

pub overflow_add-new_context : goal.overflow_add-new_context
overflow_add-new_context c = record { fits = omega (arith, c.filter_by_set-new_context.result.fits) }

pub overflow_add-new_context-2 : goal.overflow_add-new_context-2
overflow_add-new_context-2 c = record { fits = omega (arith, c.filter_by_set-new_context.result.fits) }

pub reserve-requires : goal.reserve-requires
reserve-requires c =
    let h = c.requires in
    (omega (arith, c.filter_by_set-new_context.result.fits), (omega (arith, c.fixed.ensures, c.args.output.now.writer.narrow), h.1))

pub returns : goal.returns
returns c =
    let l = c.switch-statement in
    let r = c.reserve.ensures in (
      switch-opens l.result.var l.result.ty l.result.clauses l.ensures c.filter_by_set-new_context.ensures c.matched-xtor.ensures (right_is (goal.at.returns c).Joined-context-new_context) c.fixed.ensures r.0,
      r.1,
    )
