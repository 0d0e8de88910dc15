use Rattle.std.proofs.Common.{refl, sym, ap, ◌∙◌}
use Rattle.image_spec.specs.Kinds.{bodies}
use Rattle.image_directory.proofs.Places.{seen}
use Rattle.image_read_nodes.proofs.TailLaws.{Looked, looked}
use Rattle.image_read_nodes.proofs.parts_of.Goals as goal
use Rattle.image_read_nodes.proofs.parts_of.Goals.{After-unwrap-node}

-- the record that was looked at
here : (c : After-unwrap-node) → Looked c.args.image.now.frame c.args.image.now.bytes.now c.args.i c.unwrap-node.result
here c =
    let a = c.args in
    looked a.image.now.frame a.image.now.bytes.now a.i _ c.args.image.now.ready (sym c.look.ensures ∙ c.unwrap-node.ensures)

pub unwrap-node-requires : goal.unwrap-node-requires
unwrap-node-requires c =
    let a = c.args in
    let v = seen a.image.now.frame a.image.now.bytes.now a.i c.args.image.now.ready c.requires in
    rw (c.look.ensures, v.list) refl

pub returns : goal.returns
returns c =
    let h = here (goal.at.returns c).After-unwrap-node in
    record { at = h.at; clauses = c.from.ensures ∙ sym h.count; bodies = c.bodies.ensures ∙ ap bodies (sym h.at.kind) }
