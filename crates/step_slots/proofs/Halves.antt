-- A number of a + b bytes is one of a bytes and one of b bytes; one of eight bytes is its two halves. Assumes nothing.
use Prim.Native.Nat.{ℕ, zero, suc, ◌+◌, ◌*◌, ◌/◌, ◌%◌, ◌^◌, ◌<◌}
use mathlib.Core.List.{◌++◌}
use mathlib.Core.Path.{◌≡◌, ap, ◌∙◌}
use native.Mathlib.Omega.{arith}
use native.Mathlib.Nat.{pow-succ', suc-add, zero-add, mul_assoc}
use Rattle.image_spec.specs.Parse.{field}

pub field_join : (a b x y : ℕ) → x < 256 ^ a → field (a + b) (x + 256 ^ a * y) ≡ field a x ++ field b y
field_join zero b x y h = let e : x + 256 ^ 0 * y ≡ y = omega arith in rw (zero-add, e)
field_join (suc a) b x y h =
    let c = 256 ^ a * y in
    let p : 256 ^ suc a ≡ 256 * 256 ^ a = pow-succ' 256 a in
    let e : 256 ^ suc a * y ≡ 256 * c = ap (λ z. z * y) p ∙ mul_assoc 256 (256 ^ a) y in
    let low : (x + 256 * c) % 256 ≡ x % 256 = omega arith in
    let high : (x + 256 * c) / 256 ≡ x / 256 + c = omega arith in
    let k : x / 256 < 256 ^ a = omega (arith, p) in
    rw (e, suc-add, low, high, field_join a b (x / 256) y k)

pub halves : (n : ℕ) → field 8 n ≡ field 4 (n % 4294967296) ++ field 4 (n / 4294967296)
halves n =
    let h : n % 4294967296 < 256 ^ 4 = omega arith in
    let e : n ≡ n % 4294967296 + 256 ^ 4 * (n / 4294967296) = omega arith in
    ap (field 8) e ∙ field_join 4 4 (n % 4294967296) (n / 4294967296) h
