-- `places_behind` meets its contract. Assumes nothing.
use Prim.Native.Nat.{◌*◌, ◌≤◌}
use native.Mathlib.Omega.{arith}
use native.Mathlib.Nat.{mul-le-mul_left}
use Rattle.step_rows.proofs.places_behind.Goals as goal
use Rattle.step_rows.proofs.places_behind.Goals.{Start}

-- the elements before place k are no more than all
before : (c : Start) → c.args.places.stride * c.args.k ≤ c.args.places.stride * c.args.places.len
before c = mul-le-mul_left c.args.places.stride c.requires.0

pub overflow_mul-result : goal.overflow_mul-result
overflow_mul-result c = omega (arith, before (goal.at.overflow_mul-result c).Start, c.requires.1)

pub overflow_add-result : goal.overflow_add-result
overflow_add-result c = omega (arith, before (goal.at.overflow_add-result c).Start, c.requires.1)
