-- `list_binding` meets its contract. Assumes nothing.
use Prim.Native.Nat.{◌+◌, ◌*◌, ◌<◌, ◌≤◌}
use lib.ListN.{length, get_or}
use native.Mathlib.Omega.{arith}
use Rattle.syntax.specs.Context.{empty_binding}
use Rattle.image_spec.specs.Fields.{binding_bytes, BindingOk}
use Rattle.image_read_parts.specs.Standing.{Stands}
use Rattle.image_read_parts.specs.Parts.{list_of}
use Rattle.image_read_parts.specs.Recorded.{record_in}
use Rattle.image_read_parts.proofs.NamedPlaces.{binding-room}
use Rattle.image_read_nodes.proofs.ListLaws.{list-from, binding_in}
use Rattle.image_read_nodes.proofs.list_binding.Goals as goal
use Rattle.image_read_nodes.proofs.list_binding.Goals.{After-fields-fields}

-- where the binding stands
there : (c : After-fields-fields) → c.args.j < length (list_of (record_in c.args.list.now.node.now)) → let f = c.fields-fields.result in let w = f.id in
    Stands (binding_bytes w) (BindingOk w) f.bytes.now (c.args.list.now.start + (1 + c.args.j * (6 + (w + w)))) (get_or (list_of (record_in c.args.list.now.node.now)) c.args.j empty_binding)
there c h =
    let list = c.args.list.now in
    rw (c.fields-fields.ensures.id, c.fields-fields.ensures.bytes) (binding_in list.node.now.image.frame.id c.args.j (list-from list.node.now list.stands) h)

inside : (c : After-fields-fields) → c.args.j < length (list_of (record_in c.args.list.now.node.now)) → let f = c.fields-fields.result in let w = f.id in
    c.args.list.now.start + (1 + c.args.j * (6 + (w + w))) + (6 + (w + w)) ≤ length f.bytes.now
inside c h = let f = c.fields-fields.result in binding-room f.id f.bytes.now _ _ (there c h)

pub overflow_mul-at : goal.overflow_mul-at
overflow_mul-at c = omega (arith, inside (goal.at.overflow_mul-at c).After-fields-fields c.requires)

pub overflow_add-at-3 : goal.overflow_add-at-3
overflow_add-at-3 c = omega (arith, inside (goal.at.overflow_add-at-3 c).After-fields-fields c.requires)

pub overflow_add-list : goal.overflow_add-list
overflow_add-list c = omega (arith, inside (goal.at.overflow_add-list c).After-fields-fields c.requires)

pub binding_at-requires : goal.binding_at-requires
binding_at-requires c =
    record { width = rw c.fields-fields.ensures.id c.args.list.now.node.now.image.ready.id.1; inside = omega (arith, inside (goal.at.binding_at-requires c).After-fields-fields c.requires) }

pub returns : goal.returns
returns c = c.binding_at.ensures.is _ (there (goal.at.returns c).After-fields-fields c.requires)
