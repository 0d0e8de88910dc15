-- `environment_row` meets its contract. Assumes nothing.
use native.Mathlib.Omega.{arith}
use Rattle.image_read_parts.specs.Indexed.{record_at}
use Rattle.image_read_parts.proofs.Indexing.{at-kind}
use Rattle.step_rows.specs.RecordRows.{environment_of}
use Rattle.step_rows.proofs.RecordRowLaws.{Environs, environment-there, environment-inside, absent-row, listed-room, listed-places, listed-row}
use Rattle.step_rows.proofs.records.environment_row.Goals as goal
use Rattle.step_rows.proofs.records.environment_row.Goals.{After-tail_at-at}

-- what stands where the tail begins
there : (c : After-tail_at-at) →
    let m = c.args.node.now.image in
    Environs m.frame.id m.bytes.now c.tail_at-at.result (environment_of (record_at m.frame m.bytes.now c.args.node.now.index))
there c =
    let n = c.args.node.now in
    environment-there n.image.frame n.image.bytes.now n.index c.tail_at-at.ensures n.image.ready (at-kind n c.requires)

pub bounds-node-at : goal.bounds-node-at
bounds-node-at c = environment-inside c.args.node.now.image.frame.id (there (goal.at.bounds-node-at c).After-tail_at-at)

pub returns-then-node-at-eq0 : goal.returns-then-node-at-eq0
returns-then-node-at-eq0 c = absent-row c.args.node.now.image.frame.id (there (goal.at.returns-then-node-at-eq0 c).After-tail_at-at) c.if-node-at-eq0.true

pub overflow_add-at : goal.overflow_add-at
overflow_add-at c = omega (arith, environment-inside c.args.node.now.image.frame.id (there (goal.at.overflow_add-at c).After-tail_at-at))

pub counted-requires : goal.counted-requires
counted-requires c = listed-room c.args.node.now.image.frame.id (there (goal.at.counted-requires c).After-tail_at-at) c.if-node-at-eq0.false

pub invariant_of-result : goal.invariant_of-result
invariant_of-result c =
    record { inside = listed-places c.args.node.now.image.frame.id (there (goal.at.invariant_of-result c).After-tail_at-at) c.if-node-at-eq0.false c.args.node.now.image.ready.id.1 c.counted.ensures }

pub returns : goal.returns
returns c = listed-row c.args.node.now.image.frame.id (there (goal.at.returns c).After-tail_at-at) c.if-node-at-eq0.false c.counted.ensures
