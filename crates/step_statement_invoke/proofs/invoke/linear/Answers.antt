-- `linear` meets its contract. Assumes nothing.
use Rattle.std.specs.Prelude.{Some, None, Err}
use Prim.Native.Nat.{◌+◌, ◌*◌}
use mathlib.Core.Path.{◌≡◌, refl, sym, ap, ◌∙◌}
use native.Mathlib.Omega.{arith}
use borrow.Author.Rules.{rules}
use Rattle.step_slots.specs.Views.{found_slot}
use Rattle.step_header.specs.Headers.{entries_in}
use Rattle.step_entries.specs.Named.{last_slot}
use Rattle.step_entries.proofs.LastLaws.{last_some, last-there}
use Rattle.step_write.specs.declared.Stop.TheVariants.{NoStep}
use Rattle.step_statement_invoke.proofs.LinearLaws.{linear-makes, none_makes}
use Rattle.step_statement_invoke.proofs.invoke.linear.Goals as goal
use Rattle.step_statement_invoke.proofs.invoke.linear.Goals.{After-last_value}

-- what is found is the last entry
found : (c : After-last_value) → let w = c.args.work.now in found_slot c.last_value.result ≡ last_slot (entries_in w.store.now w.header)
found c = rw (c.state_of-state.ensures.stored, c.state_of-state.ensures.headed) at c.last_value.ensures

pub returns-in_err-value : goal.returns-in_err-value
returns-in_err-value c = (
  let n : c.last_value.result ≡ None = search rules in
      let e : c.from_residual.result ≡ Err NoStep = search rules in
      rw e record { makes = λ P l p o. none_makes o p c.requires.record' c.args.stepper.now.image.ready (ap found_slot (sym n) ∙ found (goal.at.returns-in_err-value c).After-last_value) },
  search rules,
)

pub overflow_sub-k : goal.overflow_sub-k
overflow_sub-k c =
    let w = c.args.work.now in
    let s : c.last_value.result ≡ Some c.in_ok-value.value = search rules in
    let there = ap found_slot (sym s) ∙ found (goal.at.overflow_sub-k c).After-last_value in
    omega (arith, last_some w.store.now (64 + 16 * w.header.heap) w.header.entries c.in_ok-value.value there)

pub linear_enter-requires : goal.linear_enter-requires
linear_enter-requires c = (c.requires, omega arith)

pub returns : goal.returns
returns c = (
  let w = c.args.work.now in
      let s : c.last_value.result ≡ Some c.in_ok-value.value = search rules in
      let there = ap found_slot (sym s) ∙ found (goal.at.returns c).After-last_value in
      let positive = last_some w.store.now (64 + 16 * w.header.heap) w.header.entries c.in_ok-value.value there in
      let read = last-there w.store.now (64 + 16 * w.header.heap) w.header.entries there positive in
      record {
        makes = λ P l p o. linear-makes o p c.requires.record' c.args.stepper.now.image.ready positive read refl c.read_tag-tag.ensures c.linear_enter.ensures.0;
      },
  search rules,
)
