-- `switch` meets its contract. Assumes nothing.
use mathlib.Core.Path.{refl, sym, ap₂, ◌∙◌}
use mathlib.Core.List.{List, ◌++◌, map-append}
use native.Mathlib.Omega.{arith}
use Rattle.syntax.specs.declared.names.VarId.{VarId}
use Rattle.model.specs.Syntax.{Prog}
use Rattle.model.specs.Linear.{before_last, last_value_lem}
use Rattle.step_spec.specs.Located.{Machine, Located, is_stop}
use Rattle.step_rows.specs.Rows.{ids_of}
use Rattle.step_rule.specs.Rules.{ProgramOf, Stored}
use Rattle.step_slots.specs.declared.sort.Sort.TheVariants.{LetCell}
use Rattle.step_slots.proofs.SortLaws.{codes_same, codes_differ, alike, unlike}
use Rattle.step_cells.specs.Cells.{as_cell}
use Rattle.step_cells.proofs.CellLaws.{OfLet}
use Rattle.step_order.specs.Stopping.{work_at}
use Rattle.step_order.proofs.ListLaws.{sure_front, sure_row}
use borrow.Author.Tests.{ne_eqb}
use Rattle.step_order.proofs.EnterLaws.{Enters, missing, fewer, as_many}
use Rattle.step_order.proofs.StopLaws.{reads-stored, fields-count, front-keys, last_let, switch-goes, switch-enters}
use Rattle.step_order.proofs.HandLaws.{at_hand}
use Rattle.step_order.proofs.entering.switch.Goals as goal
use Rattle.step_order.proofs.entering.switch.Goals.{After-clause_of}

-- the last value is a Let's cell
the_let : (c : After-clause_of) {M : Machine} {P : Prog} {l : Located} →
    let a = c.args in
    Stored M P a.hand.now.known.now.state.store.now a.hand.now.known.now.state.header l → OfLet P a.hand.now.known.now.state.store.now a.hand.now.known.now.state.header l (last_value_lem l.environment) (as_cell c.in-Some.cell)
the_let c o = last_let o c.in-Some.ensures (codes_same c.in-Some.cell.sort LetCell refl (alike c.ne.ensures c.if-ne.false))

-- the machine enters what the search answers
enters : (c : After-clause_of) {M : Machine} {P : Prog} {l : Located} →
    let a = c.args in
    ProgramOf P a.hand.now.stepper.now a.hand.now.stepper.now.image.bytes.now → (o : Stored M P a.hand.now.known.now.state.store.now a.hand.now.known.now.state.header l)
    → Enters a.hand.now.stepper.now.image.frame a.hand.now.stepper.now.image.bytes.now c.clause_of.result (the_let c o).fields (λ new. before_last 1 l.environment ++ new) (is_stop (work_at P l))
enters c p o = switch-enters p o c.in-Some.ensures (at_hand c.args.hand.now c.requires) (the_let c o) c.args.hand.now.index_is c.clause_of.ensures

pub returns-in_default : goal.returns-in_default
returns-in_default c = record { is = λ P l p o e g. switch-goes p (reads-stored o e g) c.in_default.ensures (at_hand c.args.hand.now c.requires) (λ q. omega (arith, q)) }

pub returns-then-ne : goal.returns-then-ne
returns-then-ne c = record {
  is = λ P l p o e g.
      let w = reads-stored o e g in
      switch-goes p w c.in-Some.ensures (at_hand c.args.hand.now c.requires) (codes_differ c.in-Some.cell.sort LetCell refl (unlike c.ne.ensures c.if-ne.true));
}

pub invariant_of-found : goal.invariant_of-found
invariant_of-found c = record { there = c.clause_of.ensures.at _ c.in-Some-clause_of.is }

pub returns-else-parameters-cell : goal.returns-else-parameters-cell
returns-else-parameters-cell c = record {
  is = λ P l p o e g.
      let w = reads-stored o e g in
      let before = (goal.at.returns-else-parameters-cell c).After-clause_of in
      let other-count = c.if-parameters-cell.false in
      ne_eqb _ _ other-count
      ∙ fewer (enters before p w) c.in-Some-clause_of.is c.list_row-parameters.result c.list_row-parameters.ensures
      (λ n. other-count (n ∙ fields-count (the_let before w)));
}

pub invariant_of-others : goal.invariant_of-others
invariant_of-others c = record { knows = sure_front c.front.ensures (sure_row c.entries_row.ensures c.args.hand.now.known.now.knows) }

pub returns-then-parameters-cell : goal.returns-then-parameters-cell
returns-then-parameters-cell c = record {
  is = λ P l p o e g.
      let w = reads-stored o e g in
      let xs = ids_of c.front.result in
      let ys = ids_of c.list_row-parameters.result in
      let q = front-keys w c.entries_row.ensures c.front.ensures in
      let before = (goal.at.returns-then-parameters-cell c).After-clause_of in
      as_many (enters before p w) c.in-Some-clause_of.is c.list_row-parameters.result c.list_row-parameters.ensures
      (c.if-parameters-cell.true ∙ sym (fields-count (the_let before w))) (xs ++ ys)
      (λ new m. map-append _ (before_last 1 l.environment) new ∙ ap₂ {C = List VarId} (λ (a b : List VarId). a ++ b) (sym q) m) c.repeats.ensures;
}

pub returns-in_default-clause_of : goal.returns-in_default-clause_of
returns-in_default-clause_of c = record { is = λ P l p o e g. missing (enters (goal.at.returns-in_default-clause_of c).After-clause_of p (reads-stored o e g)) c.in_default-clause_of.is }
