-- `is_last` meets its contract. Assumes nothing.
use mathlib.Core.Path.{ap, ◌∙◌}
use mathlib.Core.List.{[], ◌∷◌}
use Rattle.syntax.specs.declared.names.Identifier.{Identifier}
use Rattle.model.specs.Linear.{ends_in_lem}
use Rattle.step_rows.specs.Rows.{ids_of}
use Rattle.step_order.proofs.statements.is_last.Goals as goal

pub returns : goal.returns
returns c =
    let a = c.args in
    c.last_is.ensures ∙ ap (λ (v : Identifier). ends_in_lem (v.id ∷ []) (ids_of a.row.now)) c.first-var.ensures
