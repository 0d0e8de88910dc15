-- `list_row` meets its contract. Assumes nothing.
use mathlib.Core.Path.{sym, subst}
use native.Mathlib.Omega.{arith}
use Rattle.image_spec.specs.Fields.{list_bytes, ListOk}
use Rattle.image_read_parts.specs.Standing.{Stands}
use Rattle.image_read_parts.specs.Parts.{list_of}
use Rattle.image_read_parts.specs.Recorded.{record_in}
use Rattle.image_read_nodes.specs.Nodes.{ListAt}
use Rattle.image_read_nodes.proofs.ListLaws.{list-from}
use Rattle.step_rows.proofs.RecordRowLaws.{binding-written, counted-inside, counted-places, counted-row}
use Rattle.step_rows.proofs.records.list_row.Goals as goal
use Rattle.step_rows.proofs.records.list_row.Goals.{After-list_at-list}

-- where the list stands
there : (c : After-list_at-list) → Stands (list_bytes c.args.node.now.image.frame.id) (ListOk c.args.node.now.image.frame.id) c.args.node.now.image.bytes.now c.list_at-list.result.start (list_of (record_in c.args.node.now))
there c = list-from c.args.node.now (subst (λ r. ListAt r c.list_at-list.result.start) c.list_at-list.ensures c.list_at-list.result.stands)

pub counted-requires : goal.counted-requires
counted-requires c = counted-inside (binding-written c.args.node.now.image.frame.id) (there (goal.at.counted-requires c).After-list_at-list)

pub invariant_of-result : goal.invariant_of-result
invariant_of-result c =
    let n = c.args.node.now.image.frame.id in
    record { inside = counted-places (binding-written n) (there (goal.at.invariant_of-result c).After-list_at-list) c.args.node.now.image.ready.id.1 (omega arith) c.counted.ensures }

pub returns : goal.returns
returns c = counted-row (binding-written c.args.node.now.image.frame.id) (there (goal.at.returns c).After-list_at-list) c.counted.ensures
