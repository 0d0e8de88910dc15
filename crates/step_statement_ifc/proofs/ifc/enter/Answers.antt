-- `enter` meets its contract. Assumes nothing.
use borrow.Author.Rules.{rules}
use Rattle.step_statement_ifc.proofs.ifc.enter.Goals as goal

pub returns : goal.returns
returns c = (rw c.of_payload-event.ensures at c.stay.ensures.0, search rules)
