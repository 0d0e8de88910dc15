-- `entrance_of` meets its contract. Assumes nothing.
use mathlib.Core.Path.{◌≡◌, refl, sym, subst}
use mathlib.Core.Bool.{Bool, true, false}
use lib.Dec.{eqb}
use borrow.Author.Tests.{eqb-true, eqb-false}
use Rattle.std.specs.Prelude.{Option}
use Rattle.std.specs.Bool.{then_some}
use Rattle.step_slots.specs.declared.sort.Sort.TheVariants.{CreateCell}
use Rattle.step_slots.specs.Sorts.{sort_code}
use Rattle.step_slots.proofs.SortLaws.{codes_same, codes_differ, alike, unlike}
use Rattle.step_cells.specs.Cells.{as_cell}
use Rattle.step_enter.specs.declared.Parameters.{Parameters}
use Rattle.step_statement_invoke.specs.Invoking.{EntranceOf, no-closure, no_record, no-clause, other-count, a-clause}
use Rattle.step_statement_invoke.proofs.invoke.entrance_of.Goals as goal
use Rattle.step_statement_invoke.proofs.invoke.entrance_of.Goals.{then-ne-via-then-ne, then-ne-via-else-ne+then-stepper-cell, Else-ne}

-- the cell is a closure's
closure : (c : Else-ne) → sort_code c.args.cell.sort ≡ 4
closure c = codes_same c.args.cell.sort CreateCell refl (alike c.ne.ensures c.if-ne.false)

pub returns-then-ne : goal.returns-then-ne
returns-then-ne c =
    elim c.then-ne.branch [
      | then-ne-via-then-ne w ↦ no-closure (codes_differ c.args.cell.sort CreateCell refl (unlike c.ne.ensures w.if-ne.true))
      | then-ne-via-else-ne+then-stepper-cell w ↦ no_record (codes_same c.args.cell.sort CreateCell refl (alike c.ne.ensures w.if-ne.false)) w.if-stepper-cell.true
    ]

pub returns-in_err-clause : goal.returns-in_err-clause
returns-in_err-clause c = rw c.from_residual.ensures (no-clause (closure (goal.at.returns-in_err-clause c).Else-ne) c.in_err-clause.ensures)

pub returns : goal.returns
returns c =
    let m = c.args.stepper.now.image in
    let F : Option Parameters → Type 0 = λ (r : Option Parameters). EntranceOf m.frame m.bytes.now (as_cell c.args.cell) c.args.tag c.args.k r in
    subst F (sym c.then_some.ensures) (go (eqb c.in_ok-clause.clause.row.places.len c.args.k) refl)
  where
    go : (b : Bool) → eqb c.in_ok-clause.clause.row.places.len c.args.k ≡ b
        → EntranceOf c.args.stepper.now.image.frame c.args.stepper.now.image.bytes.now (as_cell c.args.cell) c.args.tag c.args.k (then_some b c.in_ok-clause.clause)
    go true e = a-clause (closure (goal.at.returns c).Else-ne) c.in_ok-clause.ensures (eqb-true _ _ e)
    go false e = other-count (closure (goal.at.returns c).Else-ne) c.in_ok-clause.ensures (eqb-false _ _ e)
