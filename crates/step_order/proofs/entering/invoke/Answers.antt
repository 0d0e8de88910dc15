-- `invoke` meets its contract. Assumes nothing.
use mathlib.Core.Path.{◌≡◌, refl, sym, ap, ap₂, ◌∙◌}
use mathlib.Core.List.{List, ◌++◌, map-append}
use lib.ListN.{length}
use native.Mathlib.Omega.{arith}
use Rattle.syntax.specs.declared.names.VarId.{VarId}
use Rattle.model.specs.Syntax.{Prog}
use Rattle.model.specs.Machine.{values}
use Rattle.model.specs.Linear.{before_last, last_value_lem}
use Rattle.step_spec.specs.Located.{Machine, Located, is_stop}
use Rattle.step_rows.specs.Placing.{ids_in}
use Rattle.step_rows.specs.Rows.{ids_of}
use Rattle.step_rule.specs.Rules.{ProgramOf, Stored}
use Rattle.step_slots.specs.declared.sort.Sort.TheVariants.{CreateCell}
use Rattle.step_slots.proofs.SortLaws.{codes_same, codes_differ, alike, unlike}
use Rattle.step_cells.specs.Cells.{as_cell}
use Rattle.step_cells.proofs.CellLaws.{OfCreate}
use Rattle.step_order.specs.Stopping.{work_at}
use Rattle.step_order.proofs.PartLaws.{held-inside, held-keys}
use borrow.Author.Tests.{ne_eqb}
use Rattle.step_order.proofs.EnterLaws.{Enters, missing, fewer, as_many}
use Rattle.step_order.proofs.StopLaws.{reads-stored, fewer-values, last-create, invoke-goes, invoke-enters}
use Rattle.step_tags.specs.Tags.{tag_in}
use Rattle.step_order.proofs.HandLaws.{record-at_hand, at_hand}
use Rattle.step_order.proofs.entering.invoke.Goals as goal
use Rattle.step_order.proofs.entering.invoke.Goals.{After-clause_of, After-saturating_sub-values}

-- the last value is a Create's cell
the_create : (c : After-clause_of) {M : Machine} {P : Prog} {l : Located} →
    let a = c.args in
    Stored M P a.hand.now.known.now.state.store.now a.hand.now.known.now.state.header l → OfCreate P a.hand.now.known.now.state.store.now a.hand.now.known.now.state.header l (last_value_lem l.environment) (as_cell c.in-Some.cell)
the_create c o = last-create o c.in-Some.ensures (codes_same c.in-Some.cell.sort CreateCell refl (alike c.ne.ensures c.if-ne.false))

-- the machine enters what the search answers, by the tag that was read
enters : (c : After-clause_of) {M : Machine} {P : Prog} {l : Located} →
    let a = c.args in
    ProgramOf P a.hand.now.stepper.now a.hand.now.stepper.now.image.bytes.now → (o : Stored M P a.hand.now.known.now.state.store.now a.hand.now.known.now.state.header l)
    → Enters a.hand.now.stepper.now.image.frame a.hand.now.stepper.now.image.bytes.now c.clause_of.result (values (before_last 1 l.environment)) (λ new. new ++ (the_create c o).entries) (is_stop (work_at P l))
enters c p o =
    invoke-enters p o c.in-Some.ensures (at_hand c.args.hand.now c.requires) c.args.hand.now.stepper.now.image.ready (c.tag_of.ensures ∙ ap tag_in (record-at_hand c.args.hand.now)) (the_create c o) refl c.from.ensures c.clause_of.ensures

-- how many values there are for its parameters
counted : (c : After-saturating_sub-values) {M : Machine} {P : Prog} {l : Located} →
    let a = c.args in
    Stored M P a.hand.now.known.now.state.store.now a.hand.now.known.now.state.header l → length (values (before_last 1 l.environment)) ≡ c.saturating_sub-values.result
counted c o = fewer-values o ∙ sym c.saturating_sub-values.ensures

pub returns-in_default : goal.returns-in_default
returns-in_default c = record { is = λ P l p o e g. invoke-goes p (reads-stored o e g) c.in_default.ensures (at_hand c.args.hand.now c.requires) (λ q. omega (arith, q)) }

pub returns-then-ne : goal.returns-then-ne
returns-then-ne c = record {
  is = λ P l p o e g.
      let w = reads-stored o e g in
      invoke-goes p w c.in-Some.ensures (at_hand c.args.hand.now c.requires) (codes_differ c.in-Some.cell.sort CreateCell refl (unlike c.ne.ensures c.if-ne.true));
}

pub invariant_of-found : goal.invariant_of-found
invariant_of-found c = record { there = c.clause_of.ensures.at _ c.in-Some-clause_of.is }

pub returns-else-parameters-values : goal.returns-else-parameters-values
returns-else-parameters-values c = record {
  is = λ P l p o e g.
      let w = reads-stored o e g in
      let before = goal.at.returns-else-parameters-values c in
      let other-count = c.if-parameters-values.false in
      ne_eqb _ _ other-count
      ∙ fewer (enters before.After-clause_of p w) c.in-Some-clause_of.is c.list_row.result c.list_row.ensures
      (λ m. other-count (m ∙ counted before.After-saturating_sub-values w));
}

pub invariant_of-held : goal.invariant_of-held
invariant_of-held c = let s = c.args.hand.now.known.now.state in record { inside = held-inside s.store.now s.header s.holds c.in-Some.ensures c.slot_places.ensures }

pub returns-then-parameters-values : goal.returns-then-parameters-values
returns-then-parameters-values c = record {
  is = λ P l p o e g.
      let a = c.args in
      let w = reads-stored o e g in
      let xs = ids_of c.list_row.result in
      let ys = ids_in a.hand.now.known.now.state.store.now c.slot_places.result in
      let before = goal.at.returns-then-parameters-values c in
      let m = the_create before.After-clause_of w in
      as_many (enters before.After-clause_of p w) c.in-Some-clause_of.is c.list_row.result c.list_row.ensures
      (c.if-parameters-values.true ∙ sym (counted before.After-saturating_sub-values w)) (xs ++ ys)
      (λ new q. map-append _ new m.entries ∙ ap₂ {C = List VarId} (λ (a b : List VarId). a ++ b) q (sym (held-keys w m c.slot_places.ensures))) c.repeats.ensures;
}

pub returns-in_default-clause_of : goal.returns-in_default-clause_of
returns-in_default-clause_of c = record { is = λ P l p o e g. missing (enters (goal.at.returns-in_default-clause_of c).After-clause_of p (reads-stored o e g)) c.in_default-clause_of.is }
