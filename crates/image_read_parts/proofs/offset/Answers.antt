use Rattle.image_directory.proofs.Places.{spot}
use Rattle.image_read_parts.proofs.StandingLaws.{spot-stands}
use Rattle.image_read_parts.proofs.offset.Goals as goal

pub returns : goal.returns
returns c =
    let m = c.args.image.now in
    spot-stands (spot m.frame m.bytes.now c.args.i _ m.ready c.requires c.slot_of.ensures)
