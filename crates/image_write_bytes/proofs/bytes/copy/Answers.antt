use Prim.Native.Nat.{◌+◌, ◌-◌}
use mathlib.Core.Path.{refl, sym, ap, ◌∙◌}
use mathlib.Core.List.{◌++◌}
use lib.ListN.{take}
use borrow.Rule.Slice.PartMut.{post_of}
use Rattle.image_write_bytes.proofs.Copying.{put-room}
use Rattle.image_write_bytes.proofs.bytes.copy.Goals as goal

pub returns : goal.returns
returns c =
    let a = c.args in
    let l = a.out.now in
    let start = c.min-start.result in
    let room = c.min-room.result in
    record {
      holds = ap (λ z. take start l ++ (z ++ post_of start (start + room - start) l)) c.copy_from_slice.ensures.after ∙ sym (put-room l a.bytes.now a.at start room c.min-start.ensures c.min-room.ensures);
      ends = refl;
    }
