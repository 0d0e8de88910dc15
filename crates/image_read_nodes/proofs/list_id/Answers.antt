-- `list_id` meets its contract. Assumes nothing.
use Prim.Native.Nat.{◌+◌, ◌*◌, ◌<◌}
use lib.ListN.{length}
use native.Mathlib.Numerals.{add-one}
use native.Mathlib.Omega.{arith}
use Rattle.image_read_nodes.proofs.ListLaws.{Placed, list-placed, list-from}
use Rattle.image_read_parts.specs.Parts.{list_of}
use Rattle.image_read_parts.specs.Recorded.{record_in}
use Rattle.image_read_nodes.proofs.list_id.Goals as goal
use Rattle.image_read_nodes.proofs.list_id.Goals.{After-fields-fields}

-- where the binding stands
there : (c : After-fields-fields) → c.args.j < length (list_of (record_in c.args.list.now.node.now)) → let f = c.fields-fields.result in let w = f.id in
    Placed w f.bytes.now (c.args.list.now.start + (1 + c.args.j * (6 + (w + w)))) (list_of (record_in c.args.list.now.node.now)) c.args.j
there c h =
    let list = c.args.list.now in
    rw (c.fields-fields.ensures.id, c.fields-fields.ensures.bytes) (list-placed list.node.now.image.frame.id c.args.j (list-from list.node.now list.stands) h)

pub overflow_mul-j : goal.overflow_mul-j
overflow_mul-j c = omega (arith, (there (goal.at.overflow_mul-j c).After-fields-fields c.requires).inside)

pub overflow_add-j : goal.overflow_add-j
overflow_add-j c = omega (arith, (there (goal.at.overflow_add-j c).After-fields-fields c.requires).inside)

pub overflow_add-list : goal.overflow_add-list
overflow_add-list c = omega (arith, (there (goal.at.overflow_add-list c).After-fields-fields c.requires).inside)

pub identifier_at-requires : goal.identifier_at-requires
identifier_at-requires c =
    record { width = rw c.fields-fields.ensures.id c.args.list.now.node.now.image.ready.id.1; inside = omega (arith, (there (goal.at.identifier_at-requires c).After-fields-fields c.requires).inside) }

pub returns : goal.returns
returns c =
    let p = there (goal.at.returns c).After-fields-fields c.requires in
    record { is = rw (add-one, c.identifier_at.ensures.is p.binding.var p.var) p.next }
