-- `source_row` meets its contract. Assumes nothing.
use native.Mathlib.Omega.{arith}
use Rattle.image_read_parts.proofs.Indexing.{at-kind}
use Rattle.step_rows.proofs.RecordRowLaws.{source-written, counted-inside, counted-places, counted-row, pairs-there}
use Rattle.step_rows.proofs.records.source_row.Goals as goal

pub counted-requires : goal.counted-requires
counted-requires c =
    let n = c.args.node.now in
    counted-inside (source-written n.image.frame.id) (pairs-there n.image.frame n.image.bytes.now n.index c.tail_at-at.ensures n.image.ready (at-kind n c.requires))

pub invariant_of-result : goal.invariant_of-result
invariant_of-result c =
    let h = pairs-there c.args.node.now.image.frame c.args.node.now.image.bytes.now c.args.node.now.index c.tail_at-at.ensures c.args.node.now.image.ready (at-kind c.args.node.now c.requires) in
    record { inside = counted-places (source-written c.args.node.now.image.frame.id) h c.args.node.now.image.ready.id.1 (omega arith) c.counted.ensures }

pub returns : goal.returns
returns c =
    let h = pairs-there c.args.node.now.image.frame c.args.node.now.image.bytes.now c.args.node.now.index c.tail_at-at.ensures c.args.node.now.image.ready (at-kind c.args.node.now c.requires) in
    counted-row (source-written c.args.node.now.image.frame.id) h c.counted.ensures
