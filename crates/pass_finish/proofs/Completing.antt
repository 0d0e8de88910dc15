-- Bytes put at a provisional place, moved up behind what is to stand before them, and that put before them: the same as all of it put at
-- once (`completed`). Assumes nothing.
use Prim.Native.Nat.{ℕ, ◌+◌, ◌≤◌}
use mathlib.Core.Path.{◌≡◌, refl, sym, ap, ◌∙◌}
use mathlib.Core.List.{List, ◌++◌}
use native.Mathlib.Omega.{arith}
use native.Mathlib.Nat.{zero-add}
use lib.ListN.{length, take, drop, length-append}
use lib.Seq.{sets}
use Rattle.image_write_parts.proofs.Putting.{sets_reserved}
use Rattle.image_write_bytes.proofs.Covering.{put_back, hidden}

pub completed : (l : List ℕ) (start : ℕ) (front bytes : List ℕ) → start ≤ length front → length front + length bytes ≤ length l
    → sets (sets (sets l start bytes) (length front) (take (length bytes) (drop start (sets l start bytes)))) 0 front ≡ sets l 0 (front ++ bytes)
completed l start front bytes h k =
    let o = sets l start bytes in
    ap (λ (z : List ℕ). sets (sets o (length front) z) 0 front) (put_back l start bytes (omega (arith, h, k)))
    ∙ ap (λ (z : ℕ). sets (sets o z bytes) 0 front) (sym (zero-add (length front)))
    ∙ sets_reserved front o 0 (length front) bytes refl
    ∙ hidden l start bytes (front ++ bytes) (omega (arith, h, length-append front bytes)) (omega (arith, k, length-append front bytes))
