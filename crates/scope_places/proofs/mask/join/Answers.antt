-- `join` meets its contract. Assumes nothing.
use Prim.Native.Nat.{ℕ, ◌%◌, ◌^◌}
use mathlib.Core.Path.{◌≡◌, sym, ap, ◌∙◌}
use native.Mathlib.Omega.{arith}
use lib.Bits.{bit_or}
use lib.Pow.{pow_pos}
use Rattle.scope_places.proofs.MaskLaws.{one_shifted}
use Rattle.scope_places.proofs.mask.join.Goals as goal

pub nonzero_rem-result : goal.nonzero_rem-result
nonzero_rem-result c = let a = c.args in omega (arith, one_shifted a.n c.if-n-lt-MAX.true, pow_pos a.n)

pub returns-then-n-lt-MAX : goal.returns-then-n-lt-MAX
returns-then-n-lt-MAX c = let a = c.args in ap (λ (z : ℕ). bit_or a.mask (a.below % z)) (one_shifted a.n c.if-n-lt-MAX.true)

pub returns : goal.returns
returns c =
    let a = c.args in
    let n : a.n ≡ 64 = omega (arith, c.requires, c.if-n-lt-MAX.false) in
    let e : a.below % 2 ^ a.n ≡ a.below = ap (λ (z : ℕ). a.below % 2 ^ z) n ∙ omega arith in
    ap (bit_or a.mask) (sym e)
