-- Where a quotient is defined, and that it fits there. Assumes nothing.
use Rattle.std.proofs.Common.{◌≡◌, ℕ, zero, suc, ◌-◌, ◌/◌, ◌^◌, ◌<◌, ◌≤◌, Bool, true, false, not, ◌&&◌, ◌||◌, ℤ, pos, negsuc, neg_ℤ}
use Rattle.std.proofs.Common.{sym, refl, subst, ap, ◌∙◌, div-le_self, div-one, arith, w64, SFits, of_z}
use Rattle.std.specs.Prelude.{Option, Some, None, int_div}
use Rattle.std.specs.Option.{SomeIff}
use Rattle.std.specs.Int.{CanDivide}
use Rattle.std.proofs.Math.Option.{none}
use Rattle.syntax.specs.Options.{option_of}
use mathlib.Core.Bool.{false≢true}
use native.Mathlib.Nat.{div-lt_self}
use lib.Signed.{mag, quot_z}
use mir.ValLaws.{sfits_le}
use Rattle.model.specs.Integers.{same_int, divisible, given}
use Rattle.step_arithmetic.proofs.Compares.{eq_z-same, eq_z_true, same_bits}

-- ── the two edges ──

abbrev least : ℤ
least = negsuc (2 ^ 63 - 1)

same_true : (a b : ℤ) → same_int a b ≡ true → a ≡ b
same_true a b e = eq_z_true a b (eq_z-same a b ∙ e)

-- what `divisible` says, as facts
pub record Divisible (a b : ℤ) : Type 0 where
  pub not_zero : b ≡ pos 0 → ⊥
  pub not_edge : a ≡ least → b ≡ negsuc 0 → ⊥

pub divisible_facts : (a b : ℤ) → divisible a b ≡ true → Divisible a b
divisible_facts a b d = record {
  not_zero = λ e. false≢true (ap (λ (z : ℤ). divisible a z) (sym e) ∙ d);
  not_edge = λ e f. false≢true (ap (λ (z : ℤ). divisible z (negsuc 0)) (sym e) ∙ ap (λ (z : ℤ). divisible a z) (sym f) ∙ d);
}

-- ── a quotient fits ──
neg_le : (r a : ℕ) → r ≤ suc a → mag (neg_ℤ (pos r)) ≤ a
neg_le zero a h = omega arith
neg_le (suc r) a h = omega arith

pub quot_fits : (a b : ℤ) → Divisible a b → SFits w64 a → SFits w64 (quot_z a b)
quot_fits (pos a) (pos b) d f = sfits_le {z = pos a} (div-le_self a b) f
quot_fits (pos a) (negsuc b) d f = sfits_le {z = pos a} (neg_le (a / suc b) a (omega (arith, div-le_self a (suc b)))) f
quot_fits (negsuc a) (pos b) d f = sfits_le {z = negsuc a} (neg_le (suc a / b) a (div-le_self (suc a) b)) f
quot_fits (negsuc a) (negsuc zero) d f = record { sfits = omega (arith, div-one (suc a), below a f.sfits (λ e. d.not_edge (ap negsuc e) refl)) }
  where
    below : (a : ℕ) → a < 2 ^ 63 → (a ≡ 2 ^ 63 - 1 → ⊥) → suc a < 2 ^ 63
    below a h n = omega arith
quot_fits (negsuc a) (negsuc (suc b)) d f = record { sfits = omega (arith, div-lt_self {n = suc a} {k = suc (suc b)} (omega arith) (omega arith), f.sfits) }

-- ── what is asked where the machine divides ──
module _ (a b : ℤ) (f : SFits w64 a) (g : SFits w64 b) where
  b_zero : of_z w64 b ≡ 0 → b ≡ pos 0
  b_zero e = same_bits b (pos 0) g (record { sfits = omega arith }) e

  pub can_divide : divisible a b ≡ true → CanDivide w64 a b
  can_divide d = (positive (λ e. (divisible_facts a b d).not_zero (b_zero e)), quot_fits a b (divisible_facts a b d) f)
    where
      positive : {k : ℕ} → (k ≡ 0 → ⊥) → 0 < k
      positive h = omega arith

  pub is_divisible : CanDivide w64 a b → divisible a b ≡ true
  is_divisible q = go (same_int b (pos 0)) (same_int a least) (same_int b (negsuc 0)) refl refl refl
    where
      go : (z e m : Bool) → same_int b (pos 0) ≡ z → same_int a least ≡ e → same_int b (negsuc 0) ≡ m → not (z || (e && m)) ≡ true
      go true e m zero_is e_is m_is = let none_there : of_z w64 b ≡ 0 = ap (of_z w64) (same_true b (pos 0) zero_is) in absurd (omega (arith, none_there, q.0))
      go false true true z_is least_is minus_is =
          let by_minus_one : SFits w64 (int_div a (negsuc 0)) = subst (λ (y : ℤ). SFits w64 (int_div a y)) (same_true b (negsuc 0) minus_is) q.1 in
          absurd (no_quotient (subst (λ (x : ℤ). SFits w64 (int_div x (negsuc 0))) (same_true a least least_is) by_minus_one))
        where
          no_quotient : SFits w64 (int_div least (negsuc 0)) → ⊥
          no_quotient fits = omega (arith, fits.sfits)
      go false true false z_is e_is m_is = refl
      go false false m z_is e_is m_is = refl

  -- what `checked_div` and `checked_rem` give is what the model gives
  pub checked : (found : Option ℤ) (z : ℤ) → SomeIff found (CanDivide w64 a b) z → option_of found ≡ given (divisible a b) z
  checked None z undefined = go (divisible a b) refl
    where
      go : (t : Bool) → divisible a b ≡ t → none ≡ given t z
      go true d = absurd (undefined (can_divide d))
      go false d = refl
  checked (Some x) z defined = rw (is_divisible defined.0, defined.1) refl
