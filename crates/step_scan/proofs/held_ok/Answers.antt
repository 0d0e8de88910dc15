use mathlib.Core.Path.{sym, ap, ◌∙◌}
use Rattle.std.specs.Prelude.{Some}
use Rattle.step_slots.specs.declared.sort.Sort.TheVariants.{Integer, LetCell}
use Rattle.step_slots.specs.Sorts.{own_code}
use Rattle.step_slots.specs.Slots.{as_slot}
use Rattle.step_slots.specs.Views.{slots_at}
use Rattle.step_slots.proofs.SortLaws.{sort-differs}
use Rattle.step_scan.proofs.PassLaws.{held-field, held-entry}
use Rattle.step_scan.proofs.held_ok.Goals as goal

pub returns-then-t-eq0 : goal.returns-then-t-eq0
returns-then-t-eq0 c = λ P. let a = c.args in
    let e = ap own_code (c.in-Some.is ∙ ap Some c.in-LetCell.is) in
    c.value_ok.ensures P ∙ sym (held-field P (slots_at a.heap.now.store.now 64 a.heap.now.count) (own_code a.own) (as_slot a.t) e c.if-t-eq0.true)

pub returns-in_default-sort : goal.returns-in_default-sort
returns-in_default-sort c = λ P. let a = c.args in
    let s = c.in-Some.sort in
    let e = ap own_code c.in-Some.is in
    c.value_ok-in_default-sort.ensures P
    ∙ sym (held-entry P (slots_at a.heap.now.store.now 64 a.heap.now.count) (own_code a.own) (as_slot a.t)
    (λ q. sort-differs s Integer c.in_default-sort.not-Integer (sym e ∙ q)) (λ q. sort-differs s LetCell c.in_default-sort.not-LetCell (sym e ∙ q)))
