-- `create` meets its contract. Assumes nothing.
use mathlib.Core.Path.{sym, ◌∙◌}
use Rattle.image_read_parts.specs.Recorded.{record_in}
use Rattle.image_read_parts.proofs.Indexing.{at-kind}
use Rattle.step_rows.specs.Rows.{ids_of}
use Rattle.step_rows.specs.RecordRows.{environment_of}
use Rattle.step_rows.proofs.RecordRowLaws.{Entered, environment_none, environment_some}
use Rattle.step_order.proofs.OrderlyLaws.{create_none, create_is}
use Rattle.step_order.proofs.statements.create.Goals as goal
use Rattle.step_order.proofs.statements.create.Goals.{In-Some}

-- the environment that was found
entered : (c : In-Some) →
    let a = c.args in
    Entered c.in-Some.listed (environment_of (record_in a.node.now))
entered c = environment_some c.environment_row.ensures c.in-Some.is

pub returns-in-None : goal.returns-in-None
returns-in-None c =
    let a = c.args in
    sym (create_none (record_in a.node.now) (ids_of a.list.now.row) (at-kind a.node.now c.requires).kind (environment_none c.environment_row.ensures c.in-None.is))

pub returns-in-Some : goal.returns-in-Some
returns-in-Some c =
    let a = c.args in
    let n = entered (goal.at.returns-in-Some c).In-Some in
    c.replaces.ensures
    ∙ sym (create_is (record_in a.node.now) (ids_of a.list.now.row) n.context (at-kind a.node.now c.requires).kind n.is n.holds c.first-var.ensures)
