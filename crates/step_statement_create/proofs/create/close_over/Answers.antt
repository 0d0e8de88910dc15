-- `close_over` meets its contract. Assumes nothing.
use borrow.Author.Rules.{rules}
use mathlib.Core.Path.{refl}
use Rattle.step_statement_create.proofs.LinearLaws.{closes_as}
use Rattle.step_statement_create.proofs.create.close_over.Goals as goal

pub returns : goal.returns
returns c =
    (closes_as c.after-next.ensures c.event-shown.ensures refl refl c.cell_slot-cell.ensures c.var_slot-var.ensures (rw c.store_of.ensures at c.pack.ensures) c.finish_before.ensures.0, search rules)
