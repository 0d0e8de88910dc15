-- What Op gives of two integers of 64 bits is one; and what a call says of its arguments, which it has as bits. Assumes nothing.
use Rattle.std.proofs.Common.{◌≡◌, ℕ, suc, ◌-◌, ◌^◌, Bool, true, false, cond, ltb, ℤ, pos, negsuc, ◌+ℤ◌, ◌-ℤ◌, ◌*ℤ◌, refl, subst, ap₂, arith, w64, SFits, to_z, of_z, ltb-false, ltb-true}
use mathlib.Core.Option.{some}
use lib.Signed.{quot_z, rem_z, mag_rem}
use mir.ValLaws.{sfits_le}
use Rattle.syntax.specs.declared.op.BinOp.{BinOp}
use Rattle.syntax.specs.declared.op.BinOp.TheVariants.{Div, Prod, Rem, Sum, Sub}
use Rattle.model.specs.Integers.{residue, wrap, divisible, given, eval_op}
use Rattle.std.proofs.lemmas.Int.{to_z-of_z}
use Rattle.step_arithmetic.proofs.Quotients.{divisible_facts, quot_fits}

-- ── values fit ──

wrap-fits : (z : ℤ) → SFits w64 (wrap z)
unfolding wrap
wrap-fits z = go (ltb (residue z) (2 ^ 63)) refl
  where
    go : (t : Bool) → ltb (residue z) (2 ^ 63) ≡ t → SFits w64 (cond t (pos (residue z)) (negsuc (2 ^ 64 - suc (residue z))))
    go true e = record { sfits = ltb-true (residue z) (2 ^ 63) e }
    go false e = record { sfits = omega (arith, ltb-false (residue z) (2 ^ 63) e) }

given_some : (t : Bool) (z r : ℤ) → given t z ≡ some r → (t ≡ true) × (z ≡ r)
given_some true z r e = (refl, cc)
given_some false z r e = let k : ◌≡◌ {A = ℕ} 0 1 = cc in absurd (omega arith)

pub eval_op-fits : (o : BinOp) (a b z : ℤ) → eval_op o a b ≡ some z → SFits w64 a → SFits w64 b → SFits w64 z
unfolding eval_op
eval_op-fits Div a b z e h k = let g = given_some (divisible a b) (quot_z a b) z e in subst (SFits w64) g.1 (quot_fits a b (divisible_facts a b g.0) h)
eval_op-fits Prod a b z e h k = let q : wrap (a *ℤ b) ≡ z = cc in subst (SFits w64) q (wrap-fits (a *ℤ b))
eval_op-fits Rem a b z e h k = let g = given_some (divisible a b) (rem_z a b) z e in subst (SFits w64) g.1 (sfits_le (mag_rem a b) h)
eval_op-fits Sum a b z e h k = let q : wrap (a +ℤ b) ≡ z = cc in subst (SFits w64) q (wrap-fits (a +ℤ b))
eval_op-fits Sub a b z e h k = let q : wrap (a -ℤ b) ≡ z = cc in subst (SFits w64) q (wrap-fits (a -ℤ b))

-- ── what a call says of its arguments ──

module _ (a b : ℤ) (f : SFits w64 a) (g : SFits w64 b) where
  pub asked : {A : Type 0} (F : ℤ → ℤ → A) → F (to_z w64 (of_z w64 a)) (to_z w64 (of_z w64 b)) ≡ F a b
  asked F = ap₂ F (to_z-of_z w64 a f) (to_z-of_z w64 b g)
