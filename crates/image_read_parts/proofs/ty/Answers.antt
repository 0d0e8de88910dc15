-- `ty` meets its contract. Assumes nothing.
use Prim.Native.Nat.{◌+◌}
use native.Mathlib.Omega.{arith}
use Rattle.image_read_parts.specs.Standing.{Room}
use Rattle.image_read_parts.proofs.StandingLaws.{part_room, part-reads}
use Rattle.image_read_parts.proofs.ty.Goals as goal
use Rattle.image_read_parts.proofs.ty.Goals.{After-offset}

-- the place is in the image
room : (c : After-offset) → Room c.args.image.now.frame.id (c.offset.result + c.args.at) (3 + c.args.image.now.frame.id) c.args.image.now.bytes.now
room c = part_room c.args.image.now.ready.id.1 c.offset.ensures c.requires.1

pub overflow_add-offset : goal.overflow_add-offset
overflow_add-offset c = omega (arith, (room (goal.at.overflow_add-offset c).After-offset).inside)

pub type_at-requires : goal.type_at-requires
type_at-requires c = rw (c.fields.ensures.id, c.fields.ensures.bytes) (room (goal.at.type_at-requires c).After-offset)

pub returns : goal.returns
returns c = part-reads c.offset.ensures c.requires.1 (rw (c.fields.ensures.id, c.fields.ensures.bytes) at c.type_at.ensures)
