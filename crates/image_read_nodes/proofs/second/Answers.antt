-- `second` meets its contract. Assumes nothing.
use mathlib.Core.Path.{sym}
use Rattle.image_read_parts.proofs.Indexing.{at-kind}
use Rattle.image_read_nodes.proofs.SecondLaws.{mark-room, unmarked_none, second-room, second-read}
use Rattle.image_read_nodes.proofs.second.Goals as goal

pub byte-requires : goal.byte-requires
byte-requires c =
    let n = c.args.node.now in
    (n.there.inside, mark-room n.image.ready (at-kind n c.requires) c.fixed-mark.ensures)

pub identifier-requires : goal.identifier-requires
identifier-requires c =
    let n = c.args.node.now in
    (n.there.inside, second-room n.image.ready (at-kind n c.requires) c.fixed-mark.ensures c.byte.ensures c.if-byte-eq0.false)

pub returns-then-byte-eq0 : goal.returns-then-byte-eq0
returns-then-byte-eq0 c =
    let n = c.args.node.now in
    sym (unmarked_none n.image.ready (at-kind n c.requires) c.fixed-mark.ensures c.byte.ensures c.if-byte-eq0.true)

pub returns : goal.returns
returns c =
    let n = c.args.node.now in
    second-read n.image.ready (at-kind n c.requires) c.fixed-mark.ensures c.byte.ensures c.if-byte-eq0.false c.identifier.ensures
