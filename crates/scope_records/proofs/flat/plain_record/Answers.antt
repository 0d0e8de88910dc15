-- `plain_record` meets its contract. Assumes nothing.
use mathlib.Core.Path.{sym, ◌∙◌}
use native.Mathlib.Omega.{arith}
use borrow.Author.Tests.{ne_eqb}
use Rattle.image_spec.specs.Kinds.{kind_of}
use Rattle.image_kinds.specs.declared.kinds.Kind.TheVariants.{Substitute, Create}
use Rattle.image_read_parts.specs.Recorded.{record_in}
use Rattle.image_read_parts.proofs.Indexing.{at-kind}
use Rattle.image_read_nodes.proofs.TailLaws.{mark-more, tail-byte, tail-room}
use Rattle.scope_records.proofs.FlatLaws.{plain_is, not_kind}
use Rattle.scope_records.proofs.flat.plain_record.Goals as goal

pub byte-requires : goal.byte-requires
byte-requires c =
    let n = c.args.node.now in
    let t = at-kind n c.in-Create.is in
    (n.there.inside, tail-room n.image.frame n.image.bytes.now n.index 6 0 _ t (c.fixed.ensures ∙ omega arith) (omega (arith, mark-more n.image.frame.id (record_in n) t.kind)))

pub returns-in-Create : goal.returns-in-Create
returns-in-Create c =
    let n = c.args.node.now in
    let r = record_in n in
    let k = (at-kind n c.in-Create.is).kind in
    let b = tail-byte n.image.frame.id 6 r 0 _ k (c.fixed.ensures ∙ omega arith) (omega (arith, mark-more n.image.frame.id r k)) c.byte.ensures in
    sym (plain_is n.image.frame.id r ∙ rw (k, ← b))

pub returns-in_default : goal.returns-in_default
returns-in_default c =
    let n = c.args.node.now in
    let r = record_in n in
    sym (plain_is n.image.frame.id r ∙ rw (
      ne_eqb (kind_of r) 2 (not_kind r Substitute n.there.kind c.in_default.not-Substitute),
      ne_eqb (kind_of r) 6 (not_kind r Create n.there.kind c.in_default.not-Create),
    ))
