-- `clause_for` meets its contract. Assumes nothing.
use mathlib.Core.Path.{◌≡◌, refl, sym, subst, ◌∙◌}
use mathlib.Core.Bool.{Bool, true, false}
use lib.Dec.{eqb}
use borrow.Author.Tests.{eqb-true, eqb-false, not-true, not-false}
use Rattle.std.specs.Prelude.{Option}
use Rattle.std.specs.Bool.{then_some}
use Rattle.step_slots.specs.declared.sort.Sort.TheVariants.{LetCell}
use Rattle.step_slots.specs.Sorts.{sort_code}
use Rattle.step_slots.proofs.SortLaws.{codes_same, codes_differ}
use Rattle.step_cells.specs.Cells.{as_cell}
use Rattle.step_enter.specs.declared.Parameters.{Parameters}
use Rattle.step_statement_switch.specs.Switching.{ClauseFor, other-cell, no-clause, other-count, the_clause}
use Rattle.step_statement_switch.proofs.switch.clause_for.Goals as goal

pub returns-then-ne : goal.returns-then-ne
returns-then-ne c = other-cell (codes_differ c.args.cell.sort LetCell refl (not-true _ (sym c.ne.ensures ∙ c.if-ne.true)))

pub returns-in_err-clause : goal.returns-in_err-clause
returns-in_err-clause c = rw c.from_residual.ensures (no-clause (codes_same c.args.cell.sort LetCell refl (not-false _ (sym c.ne.ensures ∙ c.if-ne.false))) c.in_err-clause.ensures)

pub returns : goal.returns
returns c =
    let m = c.args.stepper.now.image in
    let F : Option Parameters → Type 0 = λ (r : Option Parameters). ClauseFor m.frame m.bytes.now c.args.position (as_cell c.args.cell) r in
    subst F (sym c.then_some.ensures) (go (eqb c.in_ok-clause.clause.row.places.len c.args.cell.len) refl)
  where
    let_cell : sort_code c.args.cell.sort ≡ 3
    let_cell = codes_same c.args.cell.sort LetCell refl (not-false _ (sym c.ne.ensures ∙ c.if-ne.false))

    go : (b : Bool) → eqb c.in_ok-clause.clause.row.places.len c.args.cell.len ≡ b
        → ClauseFor c.args.stepper.now.image.frame c.args.stepper.now.image.bytes.now c.args.position (as_cell c.args.cell) (then_some b c.in_ok-clause.clause)
    go true e = the_clause let_cell c.in_ok-clause.ensures (eqb-true _ _ e)
    go false e = other-count let_cell c.in_ok-clause.ensures (eqb-false _ _ e)
