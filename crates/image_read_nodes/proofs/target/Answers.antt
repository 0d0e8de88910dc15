-- `target` meets its contract. Assumes nothing.
use Rattle.image_read_parts.proofs.Indexing.{at-kind}
use Rattle.image_read_nodes.proofs.NodeLaws.{identifier-room, target_there}
use Rattle.image_read_nodes.proofs.target.Goals as goal

pub identifier-requires : goal.identifier-requires
identifier-requires c =
    let n = c.args.node.now in
    (n.there.inside, identifier-room n.image.frame n.image.bytes.now n.index _ (target_there n.image.frame n.image.bytes.now n.index n.image.ready (at-kind n c.requires)))

pub returns : goal.returns
returns c =
    let n = c.args.node.now in
    c.identifier.ensures.is _ (target_there n.image.frame n.image.bytes.now n.index n.image.ready (at-kind n c.requires))
