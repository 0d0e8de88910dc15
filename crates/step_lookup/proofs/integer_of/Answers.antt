use mathlib.Core.Path.{◌≡◌, ap, ◌∙◌}
use native.Mathlib.Omega.{arith}
use mir.Syntax.{w64}
use mir.Val.{of_z, to_z}
use borrow.Author.Rules.{rules}
use Rattle.syntax.specs.Options.{option_of}
use Rattle.step_slots.specs.declared.sort.Sort.TheVariants.{Integer}
use Rattle.step_slots.specs.Sorts.{sort_code}
use Rattle.step_slots.specs.Slots.{as_slot}
use Rattle.step_slots.specs.Views.{no_slot}
use Rattle.step_slots.proofs.SortLaws.{sort-differs}
use Rattle.step_lookup.proofs.LookupLaws.{integer_is, no-integer}
use Rattle.step_lookup.proofs.integer_of.Goals as goal

pub returns-in_err-slot : goal.returns-in_err-slot
returns-in_err-slot c = ap option_of c.from_residual.ensures ∙ no-integer {u = no_slot} c.in_err-slot.ensures (λ q. absurd (omega (arith, q)))

pub returns-in-Integer : goal.returns-in-Integer
returns-in-Integer c =
    let z = c.cast_signed.result in
    let b : to_z w64 (of_z w64 z) ≡ z = search rules in
    integer_is {u = as_slot c.in_ok-slot.slot} c.in_ok-slot.ensures (ap sort_code c.in-Integer.is) (b ∙ c.cast_signed.ensures)

pub returns-in_default : goal.returns-in_default
returns-in_default c = no-integer {u = as_slot c.in_ok-slot.slot} c.in_ok-slot.ensures (sort-differs c.in_ok-slot.slot.sort Integer c.in_default.not-Integer)
