-- `enter` meets its contract. Assumes nothing.
use borrow.Author.Rules.{rules}
use mathlib.Core.Path.{refl}
use Rattle.step_rows.specs.Rows.{ids_of}
use Rattle.step_rows.proofs.RowLaws.{ids-length}
use Rattle.step_enter.proofs.EnterLaws.{enters_as}
use Rattle.step_enter.proofs.enter.Goals as goal

pub returns : goal.returns
returns c = (
  let row = c.args.entered.now.row in
      enters_as (ids_of row) c.args.scratch.now refl (ids-length row.bytes.now row.places) c.requires.1.0 c.rename.ensures refl (rw c.after-next.ensures at c.finish.ensures.0),
  search rules,
)
