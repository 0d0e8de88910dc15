-- `behind` meets its contract. Assumes nothing.
use mathlib.Core.Path.{subst, sym}
use Rattle.step_rows.specs.Placing.{Inside}
use Rattle.step_rows.specs.declared.places.Places.{Places}
use Rattle.step_rows.proofs.RowLaws.{inside-behind}
use Rattle.step_rows.proofs.behind.Goals as goal

pub invariant_of-result : goal.invariant_of-result
invariant_of-result c = record { inside = subst (λ (p : Places). Inside c.args.row.now.bytes.now p) (sym c.places_behind.ensures) (inside-behind c.args.row.now.bytes.now c.args.row.now.places c.args.k c.args.row.now.inside c.requires) }
