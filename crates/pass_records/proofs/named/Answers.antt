use Prim.Native.Nat.{◌+◌}
use native.Mathlib.Omega.{arith}
use Rattle.image_spec.specs.Fields.{identifier_bytes, list_bytes, IdentifierOk, ListOk}
use Rattle.image_read_parts.specs.Indexed.{record_of}
use Rattle.image_read_parts.specs.Parts.{list_of}
use Rattle.image_read_parts.specs.Standing.{Stands}
use Rattle.image_read_nodes.proofs.ListLaws.{list-run}
use Rattle.image_read_nodes.specs.Nodes.{first_of}
use Rattle.pass_records.proofs.ListPlaces.{named-first, named-list}
use Rattle.pass_records.proofs.named.Goals as goal
use Rattle.pass_records.proofs.named.Goals.{After-offset-start}

-- where the name and the list stand
name-there : (c : After-offset-start) → let f = c.fields-fields.result in let r = record_of c.args.node.now.image c.args.node.now.index in
    Stands (identifier_bytes f.id) (IdentifierOk f.id) f.bytes.now (c.offset-start.result + 1) (first_of r)
name-there c = rw (c.fields-fields.ensures.id, c.fields-fields.ensures.bytes) (named-first c.requires c.offset-start.ensures)

list-there : (c : After-offset-start) → let f = c.fields-fields.result in let r = record_of c.args.node.now.image c.args.node.now.index in
    Stands (list_bytes f.id) (ListOk f.id) f.bytes.now (c.offset-start.result + (3 + f.id)) (list_of r)
list-there c = rw (c.fields-fields.ensures.id, c.fields-fields.ensures.bytes) (named-list c.requires c.offset-start.ensures c.args.node.now.image.ready)

pub overflow_add-start : goal.overflow_add-start
overflow_add-start c = omega (arith, (list-run _ (list-there (goal.at.overflow_add-start c).After-offset-start)).inside)

pub identifier_at-requires : goal.identifier_at-requires
identifier_at-requires c = record {
  width = rw c.fields-fields.ensures.id c.args.node.now.image.ready.id.1;
  inside = omega (arith, (list-run _ (list-there (goal.at.identifier_at-requires c).After-offset-start)).inside);
}

pub overflow_add-start-2 : goal.overflow_add-start-2
overflow_add-start-2 c = omega (arith, (list-run _ (list-there (goal.at.overflow_add-start-2 c).After-offset-start)).inside)

pub list-requires : goal.list-requires
list-requires c = record {
  width = rw c.fields-fields.ensures.id c.args.node.now.image.ready.id.1;
  list = _;
  stands = list-there (goal.at.list-requires c).After-offset-start;
  small = c.requires.small;
}

pub returns : goal.returns
returns c =
    let o = (goal.at.returns c).After-offset-start in
    record { name = c.identifier_at.ensures.is _ (name-there o); list = c.list.ensures.is _ (list-there o) }
