use Rattle.std.proofs.Common.{refl}
use Rattle.image_directory.proofs.Places.{seen}
use Rattle.scope_records.proofs.flat.small_create.Goals as goal

pub unwrap-clauses-requires : goal.unwrap-clauses-requires
unwrap-clauses-requires c =
    let n = c.args.node.now in
    let v = seen n.image.frame n.image.bytes.now n.index n.image.ready n.there.inside in
    rw (c.look.ensures, v.list) refl
