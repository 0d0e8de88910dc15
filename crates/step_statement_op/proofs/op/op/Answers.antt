use Rattle.std.specs.Prelude.{Some, None, Err}
use mathlib.Core.Path.{◌≡◌, sym, ap, ap₂, ◌∙◌}
use mir.Syntax.{w64}
use mir.Val.{of_z, to_z}
use borrow.Author.Rules.{rules}
use Rattle.syntax.specs.Options.{option_of}
use Rattle.model.specs.Integers.{eval_op}
use Rattle.step_write.specs.declared.Stop.TheVariants.{NoStep}
use Rattle.step_lookup.proofs.LookupLaws.{first-missing, second-missing, both-there}
use Rattle.step_statement_op.proofs.OpLaws.{shown, op-halts, op-makes}
use Rattle.step_statement_op.proofs.op.op.Goals as goal
use Rattle.step_statement_op.proofs.op.op.Goals.{After-evaluate}

-- what the operator gave
result_is : (c : After-evaluate)
    → let r = c.op-statement.result in let a = c.args in option_of c.evaluate.result ≡ shown a.work.now.store.now a.work.now.header r.fst r.op r.snd
result_is c =
    let f = eval_op c.op-statement.result.op in
    let x : c.integer_of.result ≡ Some c.in_ok-a.a = search rules in
    let y : c.integer_of-2.result ≡ Some c.in_ok-b.b = search rules in
    let m : to_z w64 (of_z w64 c.in_ok-a.a) ≡ c.in_ok-a.a = search rules in
    let n : to_z w64 (of_z w64 c.in_ok-b.b) ≡ c.in_ok-b.b = search rules in
    let a = ap option_of (sym x) ∙ (rw (c.state_of-state.ensures.stored, c.state_of-state.ensures.headed) at c.integer_of.ensures) in
    let b = ap option_of (sym y) ∙ (rw (c.state_of-state.ensures.stored, c.state_of-state.ensures.headed) at c.integer_of-2.ensures) in
    c.evaluate.ensures ∙ (ap₂ f m n ∙ both-there f _ _ a b)

pub returns-in_err-a : goal.returns-in_err-a
returns-in_err-a c = (
  let a = c.args in
      let n : c.integer_of.result ≡ None = search rules in
      let e : c.from_residual.result ≡ Err NoStep = search rules in
      let m = ap option_of (sym n) ∙ (rw (c.state_of-state.ensures.stored, c.state_of-state.ensures.headed) at c.integer_of.ensures) in
      rw e (record { makes = λ P l p o. op-halts a.stepper.now.machine p o c.op-statement.ensures a.work.now.events.now a.work.now.at (first-missing (eval_op c.op-statement.result.op) _ _ m) }),
  search rules,
)

pub returns-in_err-b : goal.returns-in_err-b
returns-in_err-b c = (
  let a = c.args in
      let n : c.integer_of-2.result ≡ None = search rules in
      let e : c.from_residual-in_err-b.result ≡ Err NoStep = search rules in
      let m = ap option_of (sym n) ∙ (rw (c.state_of-state.ensures.stored, c.state_of-state.ensures.headed) at c.integer_of-2.ensures) in
      rw e (record { makes = λ P l p o. op-halts a.stepper.now.machine p o c.op-statement.ensures a.work.now.events.now a.work.now.at (second-missing (eval_op c.op-statement.result.op) _ _ m) }),
  search rules,
)

pub returns-in_err-z : goal.returns-in_err-z
returns-in_err-z c = (
  let a = c.args in
      let n : c.evaluate.result ≡ None = search rules in
      let e : c.from_residual-in_err-z.result ≡ Err NoStep = search rules in
      let m = ap option_of (sym n) ∙ result_is (goal.at.returns-in_err-z c).After-evaluate in
      rw e (record { makes = λ P l p o. op-halts a.stepper.now.machine p o c.op-statement.ensures a.work.now.events.now a.work.now.at m }),
  search rules,
)

pub returns : goal.returns
returns c = (
  let a = c.args in
      let x : c.evaluate.result ≡ Some c.in_ok-z.z = search rules in
      let z : to_z w64 (of_z w64 c.in_ok-z.z) ≡ c.in_ok-z.z = search rules in
      let m = ap option_of (sym x) ∙ result_is (goal.at.returns c).After-evaluate in
      record { makes = λ P l p o. op-makes a.stepper.now.machine p o c.op-statement.ensures a.work.now.events.now a.work.now.at c.in_ok-z.z m (c.cast_unsigned.ensures ∙ ap (of_z w64) z) c.bind.ensures.0 },
  search rules,
)
