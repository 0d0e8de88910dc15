-- The edges of Op, and the six comparisons told apart, computed. Assumes nothing.
use Rattle.std.specs.Prelude.{◌≡◌, ◌-◌, ◌^◌, Bool, true, false, List, [], ◌∷◌, map, ℤ, pos, negsuc, refl}
use Rattle.std.proofs.Math.Option.{Option, none, some}
use Rattle.syntax.specs.declared.op.BinOp.{BinOp}
use Rattle.syntax.specs.declared.op.BinOp.TheVariants.{Div, Prod, Rem, Sum, Sub}
use Rattle.syntax.specs.declared.ifc.IfSort.{IfSort}
use Rattle.syntax.specs.declared.ifc.IfSort.TheVariants.{Equal, NotEqual, Less, LessOrEqual, Greater, GreaterOrEqual}
use Rattle.model.specs.Integers.{wrap, eval_op, holds}

abbrev least : ℤ
least = negsuc (2 ^ 63 - 1)

abbrev greatest : ℤ
greatest = pos (2 ^ 63 - 1)

-- an operator, its two numbers, and what it gives
pub record Row : Type 0 where
  pub op : BinOp
  pub left : ℤ
  pub right : ℤ
  pub gives : Option ℤ

abbrev row : BinOp → ℤ → ℤ → Option ℤ → Row
row o a b z = record { op = o; left = a; right = b; gives = z }

-- -7 by 2, 7 by -2, the greatest by -1; the edges of division; what wraps
abbrev pub rows : List Row
rows = row Div (negsuc 6) (pos 2) (some (negsuc 2)) ∷ row Div (pos 7) (negsuc 1) (some (negsuc 2)) ∷ row Div greatest (negsuc 0) (some (negsuc (2 ^ 63 - 2)))
    ∷ row Rem (negsuc 6) (pos 2) (some (negsuc 0)) ∷ row Rem (pos 7) (negsuc 1) (some (pos 1)) ∷ row Rem greatest (negsuc 0) (some (pos 0))
    ∷ row Div (pos 7) (pos 0) none ∷ row Div least (negsuc 0) none ∷ row Rem (negsuc 6) (pos 0) none ∷ row Rem least (negsuc 0) none
    ∷ row Sum greatest (pos 1) (some least) ∷ row Sub least (pos 1) (some greatest) ∷ row Prod least (negsuc 0) (some least) ∷ row Prod (negsuc 2) (pos 5) (some (negsuc 14)) ∷ []

pub rows_hold : map (λ (r : Row). eval_op r.op r.left r.right) rows ≡ map (λ (r : Row). r.gives) rows
unfolding eval_op wrap
rows_hold = refl

-- each comparison at (1, 1), (1, 2), (2, 1): no two sorts agree, so no two cases can be exchanged
abbrev pub answers : IfSort → List Bool
answers s = holds s (pos 1) (pos 1) ∷ holds s (pos 1) (pos 2) ∷ holds s (pos 2) (pos 1) ∷ []

abbrev three : Bool → Bool → Bool → List Bool
three x y z = x ∷ y ∷ z ∷ []

pub sorts_differ : map answers (Equal ∷ NotEqual ∷ Less ∷ LessOrEqual ∷ Greater ∷ GreaterOrEqual ∷ [])
    ≡ three true false false ∷ three false true true ∷ three false true false ∷ three true true false ∷ three false false true ∷ three true false true ∷ []
unfolding holds
sorts_differ = refl
