-- `first` meets its contract. Assumes nothing.
use Rattle.image_kinds.specs.Codes.{code_of}
use Rattle.image_kinds.specs.declared.kinds.Kind.TheVariants.{Substitute}
use Rattle.image_kinds.proofs.KindNames.{same_code}
use Rattle.image_read_nodes.proofs.NodeLaws.{identifier-room, first-there}
use Rattle.image_read_nodes.proofs.first.Goals as goal

pub identifier-requires : goal.identifier-requires
identifier-requires c =
    let n = c.args.node.now in
    let k = first-there n.image.frame n.image.bytes.now n.index (code_of n.kind) n.image.ready n.there (λ q. c.requires (same_code n.kind Substitute q)) c.first_at.ensures in
    (n.there.inside, identifier-room n.image.frame n.image.bytes.now n.index _ k)

pub returns : goal.returns
returns c =
    let n = c.args.node.now in
    c.identifier.ensures.is _ (first-there n.image.frame n.image.bytes.now n.index (code_of n.kind) n.image.ready n.there (λ q. c.requires (same_code n.kind Substitute q)) c.first_at.ensures)
