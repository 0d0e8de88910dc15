-- `is_distinct` meets its contract. Assumes nothing.
use mathlib.Core.Path.{sym, ◌∙◌}
use Rattle.step_order.proofs.list.is_distinct.Goals as goal

pub returns-then-list : goal.returns-then-list
returns-then-list c = c.if-list.true ∙ sym (c.args.list.now.knows c.if-list.true)
