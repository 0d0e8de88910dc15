-- `source` meets its contract. Assumes nothing.
use Rattle.std.specs.Prelude.{Some, None, Err}
use mathlib.Core.Path.{◌≡◌, refl, sym, ap, ap₂, ◌∙◌}
use borrow.Author.Rules.{rules}
use Rattle.step_slots.specs.Views.{found_slot}
use Rattle.step_header.specs.Headers.{entries_in}
use Rattle.step_entries.specs.Named.{named}
use Rattle.step_write.specs.declared.Stop.TheVariants.{NoStep}
use Rattle.step_statement_switch.proofs.SwitchLaws.{no-value}
use Rattle.step_statement_switch.proofs.SourceLaws.{source-makes}
use Rattle.step_statement_switch.proofs.switch.source.Goals as goal
use Rattle.step_statement_switch.proofs.switch.source.Goals.{After-slot_of}

-- what is found is the value of the variable
asked : (c : After-slot_of) → found_slot c.slot_of.result ≡ named c.first-var.result.id.0 (entries_in c.args.work.now.store.now c.args.work.now.header)
asked c =
    let e = c.state_of-state.ensures in
    c.slot_of.ensures ∙ ap (named c.first-var.result.id.0) (ap₂ entries_in e.stored e.headed)

pub returns-in_err-value : goal.returns-in_err-value
returns-in_err-value c = (
  let n : c.slot_of.result ≡ None = search rules in
      let e : c.from_residual.result ≡ Err NoStep = search rules in
      rw e record {
        makes = λ P l p o.
            source-makes p o c.requires.record' refl c.first-var.ensures (ap found_slot (sym n) ∙ asked (goal.at.returns-in_err-value c).After-slot_of) refl no-value;
      },
  search rules,
)

pub returns : goal.returns
returns c = (
  let s : c.slot_of.result ≡ Some c.in_ok-value.value = search rules in
      record {
        makes = λ P l p o.
            source-makes p o c.requires.record' refl c.first-var.ensures (ap found_slot (sym s) ∙ asked (goal.at.returns c).After-slot_of) refl c.switch.ensures.0;
      },
  search rules,
)
