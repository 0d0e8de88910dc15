use Prim.Native.Nat.{◌%◌}
use native.Mathlib.Omega.{arith}
use lib.ListN.{length-set}
use Rattle.image_write_parts.proofs.Putting.{puts-pair}
use Rattle.image_write_parts.proofs.store_pair.Goals as goal

pub bounds-out-at-2 : goal.bounds-out-at-2
bounds-out-at-2 c =
    let a = c.args in
    omega (arith, length-set a.out.now a.at (a.n % 256))

pub returns : goal.returns
returns c =
    let a = c.args in
    puts-pair a.out.now a.at a.n
