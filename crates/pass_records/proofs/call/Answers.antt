use mathlib.Core.Path.{refl, sym, ◌∙◌}
use native.Mathlib.Omega.{arith}
use Rattle.image_spec.specs.Records.{call}
use Rattle.image_read_parts.proofs.Indexing.{at-kind}
use Rattle.pass_records.proofs.ListPlaces.{unpacked, at-made, named-at}
use Rattle.pass_records.proofs.call.Goals as goal

pub named-all-requires : goal.named-all-requires
named-all-requires c = named-at 3 (at-kind c.args.node.now c.requires.0) refl refl (omega arith) refl c.requires.1

pub returns : goal.returns
returns c =
    let e = at-made 3 (at-kind c.args.node.now c.requires.0) in
    let n = c.named-all.ensures in
    unpacked n.list (e ∙ sym (λ i. call (n.name i) (n.list.list i)))
