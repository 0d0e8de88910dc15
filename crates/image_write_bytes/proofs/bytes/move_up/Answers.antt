use Prim.Native.Nat.{◌+◌}
use mathlib.Core.Path.{◌∙◌}
use native.Mathlib.Omega.{arith}
use Rattle.image_write_bytes.proofs.Copying.{copied-within}
use Rattle.image_write_bytes.proofs.bytes.move_up.Goals as goal

pub returns : goal.returns
returns c =
    let a = c.args in
    c.copy_within.ensures.after ∙ copied-within a.out.now a.from a.n (a.from + a.by) (omega (arith, c.requires)) c.requires
