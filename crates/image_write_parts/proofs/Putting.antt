-- Laws of bytes put into a buffer: stored bytes, one run after another, a run whose place was reserved, a byte past the end, the bytes of a number.
-- Assumes nothing.
use Prim.Native.Nat.{ℕ, zero, suc, ◌+◌, ◌-◌, ◌/◌, ◌%◌, ◌≤◌, ◌<◌}
use mathlib.Core.List.{List, [], ◌∷◌, ◌++◌}
use mathlib.Core.Path.{◌≡◌, refl, ap, sym, subst, ◌∙◌}
use native.Mathlib.Omega.{arith}
use native.Mathlib.Numerals.{add-one}
use native.Mathlib.Nat.{add-zero, add-suc, suc-add}
use lib.ListN.{length, set, length-append, replicate}
use lib.Seq.{sets, set_comm, length-sets}
use Rattle.image_spec.specs.Parse.{field}
use Rattle.image_write_parts.specs.Puts.{Puts}

pub sets_append : (xs l : List ℕ) (i : ℕ) (ys : List ℕ) → sets l i (xs ++ ys) ≡ sets (sets l i xs) (i + length xs) ys
sets_append [] l i ys = rw add-zero
sets_append (x ∷ xs) l i ys = rw (add-suc, ← suc-add) (sets_append xs (set l i x) (suc i) ys)

pub puts_none : (l : List ℕ) (at : ℕ) → Puts l l at at []
puts_none l at = record { holds = refl; ends = sym (add-zero at) }

-- the buffer keeps its length
pub puts-same : {before after : List ℕ} {at next : ℕ} {bytes : List ℕ} → Puts before after at next bytes → length after ≡ length before
puts-same {before} {at = at} {bytes = bytes} p = ap length p.holds ∙ length-sets before at bytes

-- bytes that are stored
pub puts-byte : (l : List ℕ) (at b : ℕ) → Puts l (set l at b) at (at + 1) (b ∷ [])
puts-byte l at b = record { holds = refl; ends = refl }

pub puts-pair : (l : List ℕ) (at n : ℕ) → Puts l (set (set l at (n % 256)) (at + 1) (n / 256 % 256)) at (at + 2) (field 2 n)
puts-pair l at n = record { holds = rw (add-one at); ends = refl }

-- equal bytes
pub puts_as : {before after : List ℕ} {at next : ℕ} {xs ys : List ℕ} → xs ≡ ys → Puts before after at next xs → Puts before after at next ys
puts_as {before} {after} {at} {next} e p = subst (λ z. Puts before after at next z) e p

-- one run of bytes after another
pub puts_then : {a b c : List ℕ} {at n m : ℕ} {xs ys : List ℕ} → Puts a b at n xs → Puts b c n m ys → Puts a c at m (xs ++ ys)
puts_then {a = a} {at = at} {xs = xs} {ys = ys} p q = record {
  holds = q.holds ∙ rw (p.holds, p.ends) (sym (sets_append xs a at ys));
  ends = rw (q.ends, p.ends, length-append xs ys) (omega arith);
}

-- ---- a place that is reserved: the bytes behind it are put first

-- a byte before a run of bytes can be put first
pub set_before : (ys l : List ℕ) (i j b : ℕ) → i < j → set (sets l j ys) i b ≡ sets (set l i b) j ys
set_before [] l i j b h = refl
set_before (y ∷ ys) l i j b h = set_before ys (set l j y) i (suc j) b (omega arith) ∙ ap (λ z. sets z (suc j) ys) (set_comm l j i y b (λ e. absurd (omega (arith, e))))

-- .. and a run that ends before another begins
pub sets_before : (xs l : List ℕ) (i j : ℕ) (ys : List ℕ) → i + length xs ≤ j → sets (sets l j ys) i xs ≡ sets (sets l i xs) j ys
sets_before [] l i j ys h = refl
sets_before (x ∷ xs) l i j ys h = ap (λ z. sets z (suc i) xs) (set_before ys l i j x (omega arith)) ∙ sets_before xs (set l i x) (suc i) j ys (omega arith)

pub sets_reserved : (xs l : List ℕ) (at k : ℕ) (ys : List ℕ) → length xs ≡ k → sets (sets l (at + k) ys) at xs ≡ sets l at (xs ++ ys)
sets_reserved xs l at k ys e = rw (← e) (sets_before xs l at (at + length xs) ys (omega arith) ∙ sym (sets_append xs l at ys))

pub puts_reserved : {a b c : List ℕ} {at k n m : ℕ} {xs ys : List ℕ} → length xs ≡ k → Puts a b (at + k) n ys → Puts b c at m xs → Puts a c at n (xs ++ ys)
puts_reserved {a = a} {at = at} {k = k} {xs = xs} {ys = ys} e p q = record {
  holds = q.holds ∙ rw p.holds (sets_reserved xs a at k ys e);
  ends = rw (p.ends, length-append xs ys) (omega (arith, e));
}

-- ---- the bytes of a number

-- the lowest byte of a number, and then the others
pub put_step : (w n b : ℕ) {l m : List ℕ} {at next : ℕ} → 0 < w → b ≡ n % 256 → Puts l m at next (b ∷ [])
    → sets l at (field w n) ≡ sets m next (field (w - 1) (n / 256))
put_step zero n b t e p = absurd (omega arith)
put_step (suc w) n b {l} {m} {at} {next} t e p =
    let k : suc w - 1 ≡ w = omega arith in
    let q : next ≡ suc at = p.ends ∙ add-one at in
    rw (k, q, p.holds, e)

-- zero bytes
zero_field : (w : ℕ) → field w 0 ≡ replicate w 0
zero_field zero = refl
zero_field (suc w) = ap (λ z. 0 ∷ z) (zero_field w)

pub zero_type : (w : ℕ) → field (3 + w) 0 ≡ 0 ∷ replicate (2 + w) 0
zero_type w = let k : 3 + w ≡ suc (2 + w) = omega arith in rw k (ap (λ z. 0 ∷ z) (zero_field (2 + w)))
