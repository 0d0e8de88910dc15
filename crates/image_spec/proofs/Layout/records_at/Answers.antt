-- `records_at` meets its contract: a directory is small. Assumes nothing.
use Prim.Native.Nat.{◌+◌, ◌≤◌}
use native.Mathlib.Omega.{arith}
use native.Mathlib.Nat.{mul-le-mul}
use Rattle.image_spec.proofs.Layout.records_at.Goals as goal

pub overflow_mul-result : goal.overflow_mul-result
overflow_mul-result c =
    let p = c.args.self.place in
    let width : p + p ≤ 8 = omega (arith, c.requires.1.0) in
    let few : c.args.n ≤ 65535 = omega (arith, c.requires.1.1) in
    record { fits = omega (arith, mul-le-mul few width) }

pub overflow_add-result : goal.overflow_add-result
overflow_add-result c =
    let p = c.args.self.place in
    let width : p + p ≤ 8 = omega (arith, c.requires.1.0) in
    let few : c.args.n ≤ 65535 = omega (arith, c.requires.1.1) in
    record { fits = omega (arith, mul-le-mul few width, c.directory_at.ensures, c.requires.0, c.requires.1.0) }
