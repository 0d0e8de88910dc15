use Rattle.std.proofs.Common.{arith, sym, ◌+◌, ◌<◌, length}
use Rattle.image_directory.proofs.Tiling.{slot-here, slot-short}
use Rattle.image_directory.proofs.read_slot.Goals as goal
use Rattle.image_directory.proofs.read_slot.Goals.{then-image-at-via-then-image-at, then-image-at-via-else-image-at+then-image-at-2}

pub returns : goal.returns
returns c =
    let a = c.args in
    sym (slot-here a.place a.image.now a.at _ _ _ c.number-offset.ensures c.number-size.ensures)

pub returns-then-image-at : goal.returns-then-image-at
returns-then-image-at c =
    let a = c.args in
    let h : length a.image.now < a.at + (a.place + a.place) =
    elim c.then-image-at.branch [
      | then-image-at-via-then-image-at w ↦ omega arith
      | then-image-at-via-else-image-at+then-image-at-2 w ↦ omega arith
    ] in
    sym (slot-short a.place a.image.now a.at (omega arith) h)
