-- `passes` meets its contract. Assumes nothing.
use Rattle.image_directory.proofs.Places.{seen}
use Rattle.scope_records.proofs.flat.passes.Goals as goal

pub unwrap-kind-requires : goal.unwrap-kind-requires
unwrap-kind-requires c =
    let m = c.args.image.now in
    rw (c.look.ensures, (seen m.frame m.bytes.now c.args.i m.ready c.requires).list)
