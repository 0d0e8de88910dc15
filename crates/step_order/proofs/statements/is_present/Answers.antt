-- `is_present` meets its contract. Assumes nothing.
use mathlib.Core.Path.{ap, ◌∙◌}
use Rattle.syntax.specs.Sets.{elem}
use Rattle.syntax.specs.declared.names.Identifier.{Identifier}
use Rattle.step_rows.specs.Rows.{ids_of}
use Rattle.step_order.proofs.statements.is_present.Goals as goal

pub returns : goal.returns
returns c =
    let a = c.args in
    c.has.ensures ∙ ap (λ (v : Identifier). elem v.id (ids_of a.row.now)) c.first-var.ensures
