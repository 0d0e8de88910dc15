-- Tests: conjunctions, and what it means that a test answers for a proposition. Assumes nothing.
use mathlib.Core.Path.{◌≡◌, refl, sym, subst}
use mathlib.Core.Logic.{◌⊎◌}
use mathlib.Core.Bool.{Bool, true, false, ◌&&◌}
use lib.Dec.{T}

-- the test says yes and the proposition holds, or it says no and the proposition fails
abbrev pub Answers : Bool → Type 0 → Type 0
Answers b A = ((b ≡ true) × A) ⊎ ((b ≡ false) × ¬ A)

pub both_true : (a b : Bool) → a && b ≡ true → (a ≡ true) × (b ≡ true)
both_true true true e = (refl, refl)
both_true true false e = absurd (subst T (sym e) tt)
both_true false true e = absurd (subst T (sym e) tt)
both_true false false e = absurd (subst T (sym e) tt)
