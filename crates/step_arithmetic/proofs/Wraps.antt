-- The model's `wrap` is what std's wrapping methods of i64 leave. Assumes nothing.
use Rattle.std.proofs.Common.{◌≡◌, ℕ, suc, ◌-◌, ◌^◌, Bool, true, false, cond, ltb, ℤ, pos, negsuc, refl, ap, ◌∙◌, arith, w64, to_z}
use Rattle.std.specs.Int.{int_wrap, int_rem_euclid}
use Rattle.std.specs.Prelude.{unsigned_abs}
use mir.Val.{sel}
use Rattle.model.specs.Integers.{residue, signed, wrap}

-- the model's reading of 64 bits is the machine's
read-signed : (n : ℕ) → to_z w64 n ≡ signed n
read-signed n = go (ltb n (2 ^ 63))
  where
    go : (t : Bool) → sel t (pos n) (negsuc (2 ^ 64 - suc n)) ≡ cond t (pos n) (negsuc (2 ^ 64 - suc n))
    go true = refl
    go false = refl

residue-is : (z : ℤ) → unsigned_abs (int_rem_euclid z (pos (2 ^ 64))) ≡ residue z
residue-is (pos n) = refl
residue-is (negsuc n) = omega arith

pub wrap-is : (z : ℤ) → int_wrap w64 z ≡ wrap z
unfolding int_wrap wrap
wrap-is z = read-signed (unsigned_abs (int_rem_euclid z (pos (2 ^ 64)))) ∙ ap signed (residue-is z)
