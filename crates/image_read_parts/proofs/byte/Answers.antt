use Prim.Native.Nat.{◌+◌}
use native.Mathlib.Omega.{arith}
use Rattle.image_read_parts.specs.Standing.{Room}
use Rattle.image_read_parts.proofs.StandingLaws.{part_room, part-reads, byte_reads}
use Rattle.image_read_parts.proofs.byte.Goals as goal
use Rattle.image_read_parts.proofs.byte.Goals.{After-offset}

-- the place is in the image
room : (c : After-offset) → Room c.args.image.now.frame.id (c.offset.result + c.args.at) 1 c.args.image.now.bytes.now
room c = part_room c.args.image.now.ready.id.1 c.offset.ensures c.requires.1

pub overflow_add-result : goal.overflow_add-result
overflow_add-result c = omega (arith, (room (goal.at.overflow_add-result c).After-offset).inside)

pub bounds-image-offset : goal.bounds-image-offset
bounds-image-offset c = omega (arith, (room (goal.at.bounds-image-offset c).After-offset).inside)

pub returns : goal.returns
returns c = part-reads c.offset.ensures c.requires.1 byte_reads
