-- The place of a Substitute and of a record. Assumes nothing.
use Prim.Native.Nat.{ℕ, ◌+◌, ◌*◌, ◌≤◌}
use native.Mathlib.Omega.{arith}
use native.Mathlib.Nat.{mul-le-mul}

-- the pairs of a Substitute take few bytes
pub pairs-most : (k w : ℕ) → k ≤ 128 → w ≤ 8 → k * (8 + (w + (w + w))) ≤ 4096
pairs-most k w h v = let b : 8 + (w + (w + w)) ≤ 32 = omega arith in mul-le-mul h b
