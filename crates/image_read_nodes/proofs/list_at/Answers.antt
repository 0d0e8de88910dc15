-- `list_at` meets its contract. Assumes nothing.
use Prim.Native.Nat.{◌+◌}
use native.Mathlib.Omega.{arith}
use Rattle.image_spec.specs.Fields.{list_bytes, ListOk}
use Rattle.image_read_parts.specs.Standing.{Stands}
use Rattle.image_read_parts.specs.Parts.{list_of}
use Rattle.image_read_parts.specs.Indexed.{record_at}
use Rattle.image_kinds.specs.Codes.{code_of}
use Rattle.image_read_nodes.proofs.ListLaws.{list-there, list-run, list-to}
use Rattle.image_read_nodes.proofs.list_at.Goals as goal
use Rattle.image_read_nodes.proofs.list_at.Goals.{After-fixed}

-- where the list stands
there : (c : After-fixed) → Stands (list_bytes c.args.node.now.image.frame.id) (ListOk c.args.node.now.image.frame.id) c.args.node.now.image.bytes.now
    (c.offset.result + c.fixed.result) (list_of (record_at c.args.node.now.image.frame c.args.node.now.image.bytes.now c.args.node.now.index))
there c =
    let n = c.args.node.now in
    rw c.fixed.ensures (list-there n.image.frame n.image.bytes.now n.index (code_of n.kind) _ n.image.ready n.there c.requires c.offset.ensures)

pub fixed-requires : goal.fixed-requires
fixed-requires c = omega (arith, c.args.node.now.image.ready.id)

pub overflow_add-start : goal.overflow_add-start
overflow_add-start c = omega (arith, (list-run c.args.node.now.image.frame.id (there (goal.at.overflow_add-start c).After-fixed)).inside)

pub invariant_of-result : goal.invariant_of-result
invariant_of-result c = record { stands = list-to c.args.node.now c.requires (there (goal.at.invariant_of-result c).After-fixed) }
