-- The integer that a slot holds, and what is made of two.
use Rattle.std.specs.Prelude.{cond, eqb, ℤ}
use Rattle.std.proofs.Math.Option.{Option, none, some}
use Rattle.std.specs.Int.{w64}
use Rattle.std.proofs.Common.{to_z}
use Rattle.step_slots.specs.Slots.{Slot}

-- .. where its sort says that it holds one
unfoldable pub integer_in : Slot → Option ℤ
integer_in t = cond (eqb t.sort 0) (some (to_z w64 t.payload)) none

-- nothing where one of them is not there
unfoldable pub of_both : {A : Type 0} → (ℤ → ℤ → Option A) → (a b : Option ℤ) → Option A
of_both f none b = none
of_both f (some x) none = none
of_both f (some x) (some y) = f x y
