use Rattle.std.specs.Prelude.{Some, None, Err}
use mathlib.Core.Path.{◌≡◌, sym, ap, ap₂, ◌∙◌}
use mathlib.Core.Bool.{Bool}
use mathlib.Core.Option.{some}
use lib.IntN.{ℤ}
use mir.Syntax.{w64}
use mir.Val.{of_z, to_z}
use borrow.Author.Rules.{rules}
use Rattle.syntax.specs.Options.{option_of}
use Rattle.model.specs.Integers.{holds}
use Rattle.step_write.specs.declared.Stop.TheVariants.{NoStep}
use Rattle.step_lookup.proofs.LookupLaws.{first-missing, second-missing, both-there}
use Rattle.step_statement_ifc.proofs.IfCLaws.{shown, ifc-halts, then_makes, else_makes}
use Rattle.step_statement_ifc.proofs.ifc.ifc.Goals as goal
use Rattle.step_statement_ifc.proofs.ifc.ifc.Goals.{After-holds}

-- both operands have an integer: the choice is whether the comparison holds
choice_is : (c : After-holds)
    → let r = c.ifc-statement.result in let a = c.args in some c.holds.result ≡ shown a.work.now.store.now a.work.now.header r.sort r.fst (option_of r.snd)
choice_is c =
    let sort = c.ifc-statement.result.sort in
    let x : c.integer_of.result ≡ Some c.in_ok-a.a = search rules in
    let y : c.second.result ≡ Some c.in_ok-b.b = search rules in
    let m : to_z w64 (of_z w64 c.in_ok-a.a) ≡ c.in_ok-a.a = search rules in
    let n : to_z w64 (of_z w64 c.in_ok-b.b) ≡ c.in_ok-b.b = search rules in
    let a = ap option_of (sym x) ∙ (rw (c.state_of-state.ensures.stored, c.state_of-state.ensures.headed) at c.integer_of.ensures) in
    let b = ap option_of (sym y) ∙ (rw (c.state_of-state.ensures.stored, c.state_of-state.ensures.headed) at c.second.ensures) in
    ap some (c.holds.ensures ∙ ap₂ {C = Bool} (holds sort) m n) ∙ both-there (λ (i j : ℤ). some (holds sort i j)) _ _ a b

pub returns-in_err-a : goal.returns-in_err-a
returns-in_err-a c = (
  let a = c.args in
      let n : c.integer_of.result ≡ None = search rules in
      let e : c.from_residual.result ≡ Err NoStep = search rules in
      let m = ap option_of (sym n) ∙ (rw (c.state_of-state.ensures.stored, c.state_of-state.ensures.headed) at c.integer_of.ensures) in
      rw e (record { makes = λ P l p o. ifc-halts a.stepper.now.machine p o c.ifc-statement.ensures a.work.now.events.now a.work.now.at (first-missing _ _ _ m) }),
  search rules,
)

pub returns-in_err-b : goal.returns-in_err-b
returns-in_err-b c = (
  let a = c.args in
      let n : c.second.result ≡ None = search rules in
      let e : c.from_residual-in_err-b.result ≡ Err NoStep = search rules in
      let m = ap option_of (sym n) ∙ (rw (c.state_of-state.ensures.stored, c.state_of-state.ensures.headed) at c.second.ensures) in
      rw e (record { makes = λ P l p o. ifc-halts a.stepper.now.machine p o c.ifc-statement.ensures a.work.now.events.now a.work.now.at (second-missing _ _ _ m) }),
  search rules,
)

pub returns-then-holds : goal.returns-then-holds
returns-then-holds c = (
  let a = c.args in
      let m = sym (ap some c.if-holds.true) ∙ choice_is (goal.at.returns-then-holds c).After-holds in
      record { makes = λ P l p o. then_makes a.stepper.now.machine p o c.ifc-statement.ensures a.work.now.events.now a.work.now.at m c.enter.ensures.0 },
  search rules,
)

pub returns : goal.returns
returns c = (
  let a = c.args in
      let m = sym (ap some c.if-holds.false) ∙ choice_is (goal.at.returns c).After-holds in
      record { makes = λ P l p o. else_makes a.stepper.now.machine p o c.ifc-statement.ensures a.work.now.events.now a.work.now.at m a.stepper.now.right c.behind-place.ensures c.enter-2.ensures.0 },
  search rules,
)
