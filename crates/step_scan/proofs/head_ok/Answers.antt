use mathlib.Core.Path.{sym, ◌∙◌}
use Rattle.step_slots.specs.declared.sort.Sort.TheVariants.{LetCell}
use Rattle.step_slots.specs.Slots.{as_slot}
use Rattle.step_slots.proofs.SortLaws.{sort-differs}
use Rattle.step_scan.proofs.PassLaws.{head-create, create-of}
use Rattle.step_scan.proofs.head_ok.Goals as goal

pub returns-in_default : goal.returns-in_default
returns-in_default c = λ P heap o.
    let t = c.args.t in
    c.is_create.ensures ∙ (create-of t.id o ∙ sym (head-create P heap (as_slot t) (sort-differs t.sort LetCell c.in_default.not-LetCell)))
