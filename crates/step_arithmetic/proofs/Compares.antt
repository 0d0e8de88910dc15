-- Two integers of 64 bits compared by their bits. Assumes nothing.
use Rattle.std.proofs.Common.{◌≡◌, ℕ, Bool, true, false, ◌&&◌, eqb, leb, ℤ, pos, negsuc, sym, refl, ap, ◌∙◌, arith, w64, SFits, to_z, of_z, eq-eqb, ne_eqb, eqb-true, le-leb, leb-true}
use mathlib.Core.Bool.{and_comm, false≢true}
use borrow.Author.Tests.{eqb-false, lt-leb}
use Rattle.model.specs.Integers.{same_int}
use Rattle.std.proofs.lemmas.Int.{to_z-of_z}

-- ── equality ──

-- by cases; the model's `same_int` is two comparisons
abbrev pub eq_z : ℤ → ℤ → Bool
eq_z (pos a) (pos b) = eqb a b
eq_z (pos a) (negsuc b) = false
eq_z (negsuc a) (pos b) = false
eq_z (negsuc a) (negsuc b) = eqb a b

eqb_both : (a b : ℕ) → eqb a b ≡ leb a b && leb b a
eqb_both a b = go (eqb a b) (leb a b) refl refl
  where
    go : (t u : Bool) → eqb a b ≡ t → leb a b ≡ u → t ≡ u && leb b a
    go true true e d = let h = eqb-true a b e in sym (le-leb b a (omega arith))
    go true false e d = let h = eqb-true a b e in sym (le-leb a b (omega arith)) ∙ d
    go false true e d = let n : a ≡ b → ⊥ = eqb-false a b e in let h = leb-true a b d in sym (lt-leb b a (omega arith))
    go false false e d = refl

pub eq_z-same : (a b : ℤ) → eq_z a b ≡ same_int a b
eq_z-same (pos a) (pos b) = eqb_both a b
eq_z-same (pos a) (negsuc b) = refl
eq_z-same (negsuc a) (pos b) = refl
eq_z-same (negsuc a) (negsuc b) = eqb_both a b ∙ and_comm (leb a b) (leb b a)

pub eq_z_true : (a b : ℤ) → eq_z a b ≡ true → a ≡ b
eq_z_true (pos a) (pos b) e = ap pos (eqb-true a b e)
eq_z_true (pos a) (negsuc b) e = absurd (false≢true e)
eq_z_true (negsuc a) (pos b) e = absurd (false≢true e)
eq_z_true (negsuc a) (negsuc b) e = ap negsuc (eqb-true a b e)

pub eq_z_refl : (a : ℤ) → eq_z a a ≡ true
eq_z_refl (pos a) = eq-eqb a a refl
eq_z_refl (negsuc a) = eq-eqb a a refl

pub eq_z_not : (a b : ℤ) → (a ≡ b → ⊥) → eq_z a b ≡ false
eq_z_not (pos a) (pos b) n = ne_eqb a b (λ e. n (ap pos e))
eq_z_not (pos a) (negsuc b) n = refl
eq_z_not (negsuc a) (pos b) n = refl
eq_z_not (negsuc a) (negsuc b) n = ne_eqb a b (λ e. n (ap negsuc e))

-- numbers with the same bits are the same
pub same_bits : (a b : ℤ) → SFits w64 a → SFits w64 b → of_z w64 a ≡ of_z w64 b → a ≡ b
same_bits a b f g e = sym (to_z-of_z w64 a f) ∙ ap (to_z w64) e ∙ to_z-of_z w64 b g

-- as the machine compares: the bits
module _ (a b : ℤ) (f : SFits w64 a) (g : SFits w64 b) where
  pub eqb_eq_z : eqb (of_z w64 a) (of_z w64 b) ≡ eq_z a b
  eqb_eq_z = go (eq_z a b) refl
    where
      go : (t : Bool) → eq_z a b ≡ t → eqb (of_z w64 a) (of_z w64 b) ≡ t
      go true e = eq-eqb (of_z w64 a) (of_z w64 b) (ap (of_z w64) (eq_z_true a b e))
      go false e = ne_eqb (of_z w64 a) (of_z w64 b) (λ d. false≢true (sym e ∙ ap (λ (z : ℤ). eq_z a z) (sym (same_bits a b f g d)) ∙ eq_z_refl a))

  pub equal_is : eqb (of_z w64 a) (of_z w64 b) ≡ same_int a b
  equal_is = eqb_eq_z ∙ eq_z-same a b
