-- `enter_clause` meets its contract. Assumes nothing.
use borrow.Author.Rules.{rules}
use mathlib.Core.Path.{refl}
use Rattle.step_rows.proofs.RowLaws.{ids-length}
use Rattle.step_statement_invoke.proofs.EnteringLaws.{enters-clause}
use Rattle.step_statement_invoke.proofs.invoke.enter_clause.Goals as goal

pub returns : goal.returns
returns c = (
  let a = c.args in
      let row = a.clause.now.row in
      enters-clause a.slots.now row.places.len (ids-length row.bytes.now row.places) c.requires.whole c.rename.ensures refl refl c.event-shown.ensures (rw c.after-next.ensures at c.finish_entering.ensures.0),
  search rules,
)
