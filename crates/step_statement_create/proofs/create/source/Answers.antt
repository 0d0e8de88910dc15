-- `source` meets its contract. Assumes nothing.
use borrow.Author.Rules.{rules}
use mathlib.Core.Path.{refl}
use Rattle.step_statement_create.proofs.SourceLaws.{source-makes}
use Rattle.step_statement_create.proofs.create.source.Goals as goal

pub returns : goal.returns
returns c = (
  record {
    makes = λ P l p o.
        source-makes o p c.requires.record' c.args.stepper.now.right c.read_parts-create.ensures c.after-next.ensures c.event-shown.ensures
        refl refl c.cell_slot-cell.ensures c.var_slot-var.ensures c.finish_holding.ensures.0;
  },
  search rules,
)
