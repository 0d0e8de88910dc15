use Rattle.std.specs.Prelude.{Some, None, Err}
use mathlib.Core.Path.{◌≡◌, sym, ap, ◌∙◌}
use mir.Syntax.{w64}
use mir.Val.{of_z, to_z}
use borrow.Author.Rules.{rules}
use Rattle.syntax.specs.Options.{option_of}
use Rattle.image_spec.specs.Fields.{newline_code_lem}
use Rattle.step_write.specs.declared.Stop.TheVariants.{NoStep}
use Rattle.step_statement_print.proofs.PrintLaws.{print-halts, print-makes}
use Rattle.step_statement_print.proofs.print.print.Goals as goal

pub returns-in_err-z : goal.returns-in_err-z
returns-in_err-z c = (
  let a = c.args in
      let n : c.integer_of.result ≡ None = search rules in
      let e : c.from_residual.result ≡ Err NoStep = search rules in
      let m = ap option_of (sym n) ∙ (rw (c.state_of-state.ensures.stored, c.state_of-state.ensures.headed) at c.integer_of.ensures) in
      rw e (record { makes = λ P l p o. print-halts a.stepper.now.machine p o c.print-statement.ensures a.work.now.events.now a.work.now.at m }),
  search rules,
)

pub returns : goal.returns
returns c = (
  let a = c.args in
      let x : c.integer_of.result ≡ Some c.in_ok-z.z = search rules in
      let z : to_z w64 (of_z w64 c.in_ok-z.z) ≡ c.in_ok-z.z = search rules in
      let d : c.from.result ≡ newline_code_lem c.print-statement.result.newline = search rules in
      let m = ap option_of (sym x) ∙ (rw (c.state_of-state.ensures.stored, c.state_of-state.ensures.headed) at c.integer_of.ensures) in
      let g = c.cast_unsigned.ensures ∙ ap (of_z w64) z in
      record { makes = λ P l p o. print-makes a.stepper.now.machine p o c.print-statement.ensures a.work.now.events.now a.work.now.at c.in_ok-z.z m d g (rw c.of_payload-event.ensures at c.stay.ensures.0) },
  search rules,
)
