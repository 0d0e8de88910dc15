-- `linear` meets its contract. Assumes nothing.
use Rattle.std.specs.Prelude.{Some, None, Err}
use Prim.Native.Nat.{◌+◌, ◌-◌, ◌*◌}
use mathlib.Core.Path.{◌≡◌, refl, sym, ap, ◌∙◌}
use native.Mathlib.Omega.{arith}
use borrow.Author.Rules.{rules}
use Rattle.step_slots.specs.Views.{found_slot, slot_at}
use Rattle.step_header.specs.Headers.{entries_in}
use Rattle.step_entries.specs.Named.{last_slot}
use Rattle.step_entries.proofs.LastLaws.{last_some, last-there}
use Rattle.step_write.specs.declared.Stop.TheVariants.{NoStep}
use Rattle.step_statement_switch.proofs.LinearLaws.{none_makes, linear-makes}
use Rattle.step_statement_switch.proofs.switch.linear.Goals as goal
use Rattle.step_statement_switch.proofs.switch.linear.Goals.{After-last_value}

-- what is found is the last entry
found : (c : After-last_value) → let w = c.args.work.now in found_slot c.last_value.result ≡ last_slot (entries_in w.store.now w.header)
found c = rw (c.state_of-state.ensures.stored, c.state_of-state.ensures.headed) at c.last_value.ensures

pub returns-in_err-value : goal.returns-in_err-value
returns-in_err-value c = (
  let n : c.last_value.result ≡ None = search rules in
      let e : c.from_residual.result ≡ Err NoStep = search rules in
      rw e record { makes = λ P l p o. none_makes o p c.requires.record' (ap found_slot (sym n) ∙ found (goal.at.returns-in_err-value c).After-last_value) },
  search rules,
)

pub overflow_sub-front : goal.overflow_sub-front
overflow_sub-front c =
    let w = c.args.work.now in
    let s : c.last_value.result ≡ Some c.in_ok-value.value = search rules in
    let there = ap found_slot (sym s) ∙ found (goal.at.overflow_sub-front c).After-last_value in
    omega (arith, last_some w.store.now (64 + 16 * w.header.heap) w.header.entries c.in_ok-value.value there)

pub returns : goal.returns
returns c = (
  let w = c.args.work.now in
      let s : c.last_value.result ≡ Some c.in_ok-value.value = search rules in
      let there = ap found_slot (sym s) ∙ found (goal.at.returns c).After-last_value in
      let positive = last_some w.store.now (64 + 16 * w.header.heap) w.header.entries c.in_ok-value.value there in
      let k : 64 + 16 * w.header.heap + 16 * (w.header.entries - 1) ≡ 64 + 16 * (w.header.heap + (w.header.entries - 1)) = omega arith in
      let read = last-there w.store.now (64 + 16 * w.header.heap) w.header.entries there positive ∙ ap (slot_at w.store.now) k in
      record { makes = λ P l p o. linear-makes o p c.requires.record' refl refl positive read c.switch.ensures.0 },
  search rules,
)
