-- `small_record` meets its contract. Assumes nothing.
use Prim.Native.Nat.{◌<◌}
use mathlib.Core.Path.{sym, ◌∙◌}
use native.Mathlib.Omega.{arith}
use borrow.Author.Tests.{ne_eqb}
use lib.ListN.{length}
use Rattle.image_spec.specs.Kinds.{kind_of, tail_bytes}
use Rattle.image_kinds.specs.declared.kinds.Kind.TheVariants.{Create, Literal, Op, IfC, Print, Exit}
use Rattle.image_read_parts.specs.Recorded.{record_in}
use Rattle.image_read_nodes.proofs.TailLaws.{tail_some, tail-byte, tail-room}
use Rattle.scope_records.proofs.FlatLaws.{small_is, not_kind}
use Rattle.scope_records.proofs.flat.small_record.Goals as goal
use Rattle.scope_records.proofs.flat.small_record.Goals.{In_default}

-- a record of another kind has a tail
tailed : (c : In_default) → 0 < length (tail_bytes c.args.node.now.image.frame.id (record_in c.args.node.now))
tailed c =
    let n = c.args.node.now in
    let r = record_in n in
    let k = n.there.kind in
    let d = c.in_default in
    tail_some n.image.frame.id r (not_kind r Literal k d.not-Literal) (not_kind r Op k d.not-Op) (not_kind r Print k d.not-Print) (not_kind r Exit k d.not-Exit)

pub byte-requires : goal.byte-requires
byte-requires c =
    let n = c.args.node.now in
    (n.there.inside, tail-room n.image.frame n.image.bytes.now n.index _ 0 _ n.there (c.fixed.ensures ∙ omega arith) (tailed (goal.at.byte-requires c).In_default))

pub returns-in_default : goal.returns-in_default
returns-in_default c =
    let n = c.args.node.now in
    let w = n.image.frame.id in
    let r = record_in n in
    let k = n.there.kind in
    let d = c.in_default in
    let b = tail-byte w _ r 0 _ k (c.fixed.ensures ∙ omega arith) (tailed (goal.at.returns-in_default c).In_default) c.byte.ensures in
    sym (small_is w r ∙ rw (
      ne_eqb (kind_of r) 8 (not_kind r Literal k d.not-Literal),
      ne_eqb (kind_of r) 9 (not_kind r Op k d.not-Op),
      ne_eqb (kind_of r) 10 (not_kind r IfC k d.not-IfC),
      ne_eqb (kind_of r) 12 (not_kind r Print k d.not-Print),
      ne_eqb (kind_of r) 13 (not_kind r Exit k d.not-Exit),
      ne_eqb (kind_of r) 6 (not_kind r Create k d.not-Create),
      ← b,
    ))
