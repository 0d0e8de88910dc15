-- `ends_in` meets its contract. Assumes nothing.
use mathlib.Core.Path.{◌∙◌}
use Rattle.step_order.proofs.ListLaws.{ends-behind}
use Rattle.step_order.proofs.list.ends_in.Goals as goal

pub returns : goal.returns
returns c = c.same.ensures ∙ ends-behind c.args.row.now c.args.listed.now c.saturating_sub-others.ensures c.behind.ensures
