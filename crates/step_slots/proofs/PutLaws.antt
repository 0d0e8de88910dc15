-- Laws of bytes that are stored where there is room: a number's, as std's `to_le_bytes` has them, in a part of a buffer. Assumes nothing.
use Prim.Native.Nat.{ℕ, zero, suc, ◌+◌, ◌-◌, ◌/◌, ◌%◌, ◌^◌, ◌≤◌}
use mathlib.Core.List.{List, ◌∷◌, ◌++◌, append_assoc}
use mathlib.Core.Path.{◌≡◌, refl, sym, ap, ap₂, ◌∙◌}
use native.Mathlib.Omega.{arith}
use native.Mathlib.Nat.{pow-suc, div-div-eq-div-mul, div-one}
use lib.ListN.{length, take, drop}
use lib.Seq.{sets, sets-eq}
use borrow.Rule.Slice.PartMut.{put_mid, Post-is}
use Rattle.std.specs.Int.{bytes_low_first, byte_at}
use Rattle.image_spec.specs.Parse.{field}
use Rattle.image_spec.proofs.FieldLaws.{field-length}
use Rattle.image_write_parts.specs.Puts.{Puts}

-- a number of four bytes is two of two bytes
pub pairs : (n : ℕ) → field 4 n ≡ field 2 n ++ field 2 (n / 65536)
pairs n = let k : n / 256 / 256 ≡ n / 65536 = omega arith in ap (λ (z : ℕ). n % 256 ∷ n / 256 % 256 ∷ field 2 z) k

-- the bytes of n from byte i on are a field's
low-bytes : (k i n : ℕ) → bytes_low_first i k n ≡ field k (n / 256 ^ i)
low-bytes zero i n = refl
low-bytes (suc k) i n =
    let e : n / 256 ^ suc i ≡ n / 256 ^ i / 256 = ap (λ d. n / d) (pow-suc 256 i) ∙ sym (div-div-eq-div-mul n (256 ^ i) 256) in
    ap₂ (λ (b : ℕ) (l : List ℕ). b ∷ l) (first i) (low-bytes k (suc i) n ∙ ap (field k) e)
  where
    first : (j : ℕ) → byte_at j n ≡ n / 256 ^ j % 256
    first zero = ap (λ m. m % 256) (sym (div-one n))
    first (suc j) = refl

-- a part of a buffer that is replaced by as many bytes
pub puts-part : (l bytes : List ℕ) (at w : ℕ) → length bytes ≡ w → at + w ≤ length l → Puts l (put_mid at (at + w - at) l bytes) at (at + w) bytes
puts-part l bytes at w e h =
    let room : at + length bytes ≤ length l = omega (arith, e, h) in
    let split : sets l at bytes ≡ take at l ++ bytes ++ drop (at + w) l = sets-eq bytes l at room ∙ ap (λ i. take at l ++ bytes ++ drop (at + i) l) e in
    record {
      holds = ap (λ z. take at l ++ (bytes ++ z)) (Post-is at (at + w) l (omega arith)) ∙ sym (append_assoc (take at l) bytes (drop (at + w) l)) ∙ sym split;
      ends = omega (arith, e);
    }

-- .. by the bytes of a number
pub puts-number : (l bytes : List ℕ) (at w n : ℕ) → bytes ≡ bytes_low_first 0 w n → at + w ≤ length l → Puts l (put_mid at (at + w - at) l bytes) at (at + w) (field w n)
puts-number l bytes at w n e h =
    let f : bytes ≡ field w n = e ∙ low-bytes w 0 n ∙ ap (field w) (div-one n) in
    rw f (puts-part l (field w n) at w (field-length w n) h)
