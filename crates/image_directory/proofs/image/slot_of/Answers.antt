-- `slot_of` meets its contract. Assumes nothing.
use Rattle.std.proofs.Common.{refl, sym, ◌∙◌}
use Rattle.image_directory.proofs.Places.{seen}
use Rattle.image_directory.proofs.image.slot_of.Goals as goal

pub unwrap-requires : goal.unwrap-requires
unwrap-requires c =
    let a = c.args in
    let v = seen a.image.now.frame a.image.now.bytes.now a.i a.image.now.ready c.requires in
    rw (c.read_slot.ensures, v.slot) refl

pub returns : goal.returns
returns c = sym c.read_slot.ensures ∙ c.unwrap.ensures
