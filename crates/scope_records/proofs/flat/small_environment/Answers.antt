-- `small_environment` meets its contract. Assumes nothing.
use Prim.Native.Nat.{ℕ, ◌+◌}
use mathlib.Core.Path.{◌≡◌, sym, ap, ◌∙◌}
use native.Mathlib.Omega.{arith}
use borrow.Author.Tests.{eq-eqb, ne_eqb}
use lib.ListN.{get_or}
use Rattle.image_spec.specs.Kinds.{tail_bytes}
use Rattle.image_read_parts.specs.Recorded.{record_in}
use Rattle.image_read_parts.proofs.Indexing.{at-kind}
use Rattle.image_read_nodes.proofs.TailLaws.{tail-byte, tail-room, mark-more}
use Rattle.scope_records.proofs.FlatLaws.{environment_is}
use Rattle.scope_records.proofs.flat.small_environment.Goals as goal
use Rattle.scope_records.proofs.flat.small_environment.Goals.{After-byte}

-- the mark
mark : (c : After-byte) → c.byte.result ≡ get_or (tail_bytes c.args.node.now.image.frame.id (record_in c.args.node.now)) 0 0
mark c =
    let n = c.args.node.now in
    let r = record_in n in
    let k = (at-kind n c.requires).kind in
    tail-byte n.image.frame.id 6 r 0 _ k (c.fixed-mark.ensures ∙ omega arith) (omega (arith, mark-more n.image.frame.id r k)) c.byte.ensures

pub byte-requires : goal.byte-requires
byte-requires c =
    let n = c.args.node.now in
    let t = at-kind n c.requires in
    (n.there.inside, tail-room n.image.frame n.image.bytes.now n.index 6 0 _ t (c.fixed-mark.ensures ∙ omega arith) (omega (arith, mark-more n.image.frame.id (record_in n) t.kind)))

pub returns-then-byte-eq0 : goal.returns-then-byte-eq0
returns-then-byte-eq0 c =
    let n = c.args.node.now in
    let b = mark (goal.at.returns-then-byte-eq0 c).After-byte in
    eq-eqb c.byte.result 0 c.if-byte-eq0.true ∙ sym (environment_is n.image.frame.id (record_in n) (at-kind n c.requires).kind ∙ rw (eq-eqb _ 0 (sym b ∙ c.if-byte-eq0.true)))

pub byte-requires-else-byte-eq0 : goal.byte-requires-else-byte-eq0
byte-requires-else-byte-eq0 c =
    let n = c.args.node.now in
    let t = at-kind n c.requires in
    (n.there.inside, tail-room n.image.frame n.image.bytes.now n.index 6 1 _ t (ap (λ (n : ℕ). n + 1) c.fixed-mark.ensures) (mark-more n.image.frame.id (record_in n) t.kind))

pub returns-else-byte-eq0 : goal.returns-else-byte-eq0
returns-else-byte-eq0 c =
    let n = c.args.node.now in
    let r = record_in n in
    let k = (at-kind n c.requires).kind in
    let b = mark (goal.at.returns-else-byte-eq0 c).After-byte in
    let d = tail-byte n.image.frame.id 6 r 1 _ k (ap (λ (n : ℕ). n + 1) c.fixed-mark.ensures) (mark-more n.image.frame.id r k) c.byte-else-byte-eq0.ensures in
    sym (environment_is n.image.frame.id r k ∙ rw (ne_eqb _ 0 (λ q. c.if-byte-eq0.false (b ∙ q)), ← d))
