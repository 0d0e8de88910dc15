use Rattle.std.specs.Prelude.{Some, None, Err}
use mathlib.Core.Path.{◌≡◌, refl, sym, ap, ◌∙◌}
use borrow.Author.Rules.{rules}
use Rattle.step_slots.specs.Slots.{as_slot}
use Rattle.step_slots.specs.Views.{found_slot}
use Rattle.step_header.specs.Headers.{heap_in}
use Rattle.step_slots.proofs.SortLaws.{sort-below, sort-number}
use Rattle.step_write.specs.declared.Stop.TheVariants.{NoStep}
use Rattle.step_statement_exit.proofs.ExitLaws.{as_shown, exit-halts, exit-makes}
use Rattle.step_statement_exit.proofs.exit.exit.Goals as goal

pub returns-in_err-value : goal.returns-in_err-value
returns-in_err-value c = (
  let a = c.args in
      let w = a.work.now in
      let n : c.slot_of.result ≡ None = search rules in
      let e : c.from_residual.result ≡ Err NoStep = search rules in
      let q = ap found_slot (sym n) ∙ (rw (c.state_of-state.ensures.stored, c.state_of-state.ensures.headed) at c.slot_of.ensures) in
      rw e (record { makes = λ P l p o. exit-halts a.stepper.now.machine p o c.exit-statement.ensures q w.events.now w.at refl }),
  search rules,
)

pub returns : goal.returns
returns c = (
  let a = c.args in
      let w = a.work.now in
      let v = c.in_ok-value.value in
      let x : c.slot_of.result ≡ Some v = search rules in
      let q = ap found_slot (sym x) ∙ (rw (c.state_of-state.ensures.stored, c.state_of-state.ensures.headed) at c.slot_of.ensures) in
      let shown = (rw (c.state_of-state.ensures.stored, c.state_of-state.ensures.headed) at c.shown_payload-payload.ensures) ∙ as_shown (heap_in w.store.now w.header) (as_slot v) in
      record {
        makes = λ P l p o. exit-makes a.stepper.now.machine p o c.exit-statement.ensures q w.events.now w.at (sort-below v.sort) (sort-number v.sort) shown (rw c.of_payload-event.ensures at c.stay.ensures.0);
      },
  search rules,
)
