-- `cell_of` meets its contract. Assumes nothing.
use mathlib.Core.Path.{◌≡◌, refl, sym, ◌∙◌}
use mathlib.Core.Bool.{Bool, true, false, not, true≢false, false≢true}
use Rattle.step_slots.specs.declared.sort.Sort.TheVariants.{Cell}
use Rattle.step_slots.specs.Slots.{as_slot}
use Rattle.step_slots.proofs.SortLaws.{codes_same, codes_differ, alike, unlike, none_there}
use Rattle.step_cells.proofs.HeldLaws.{no-reference, past-reference, own-slot, reference}
use Rattle.step_cells.proofs.cell_of.Goals as goal
use Rattle.step_cells.proofs.cell_of.Goals.{then-ne-via-then-ne, then-ne-via-else-ne+then-heap-at}

pub returns-then-ne : goal.returns-then-ne
returns-then-ne c =
    let s = c.args.state.now in
    let t = c.args.value in
    elim c.then-ne.branch [
      | then-ne-via-then-ne w ↦ no-reference _ (as_slot t) (codes_differ t.sort Cell refl (unlike c.ne.ensures w.if-ne.true))
      | then-ne-via-else-ne+then-heap-at w ↦ past-reference s.store.now s.header (as_slot t) refl refl w.if-heap-at.true
    ]

pub returns-in_err-own : goal.returns-in_err-own
returns-in_err-own c =
    let s = c.args.state.now in
    absurd (true≢false (sym (own-slot s.store.now s.header.heap c.args.value.payload c.if-heap-at.false s.holds.heap) ∙ none_there c.in_err-own.ensures))

pub returns : goal.returns
returns c =
    let s = c.args.state.now in
    let t = c.args.value in
    reference s.store.now s.header (as_slot t) refl refl (codes_same t.sort Cell refl (alike c.ne.ensures c.if-ne.false)) c.if-heap-at.false
    {own = as_slot c.in_ok-own.own} c.in_ok-own.ensures c.held_count-len.ensures
