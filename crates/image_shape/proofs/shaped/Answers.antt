use Rattle.image_directory.specs.Slots.{records_in}
use Rattle.image_directory.proofs.Places.{records-length}
use Rattle.image_shape.proofs.Steps.{program-ends}
use Rattle.image_shape.proofs.shaped.Goals as goal

pub returns : goal.returns
returns c =
    let a = c.args in
    rw (program-ends a.defs (records_in a.image.now.frame a.image.now.bytes.now), records-length a.image.now.frame a.image.now.bytes.now c.args.image.now.ready, ← c.skip_definitions.ensures) c.eq.ensures
