-- What Op and IfC compute: integers of 64 bits, signed, as elements of ℤ.
use Rattle.std.specs.Prelude.{ℕ, suc, ◌-◌, ◌%◌, ◌^◌, Bool, true, false, not, ◌&&◌, ◌||◌, cond, ℤ, pos, negsuc, ◌+ℤ◌, ◌-ℤ◌, ◌*ℤ◌, ltb}
use Rattle.std.proofs.Math.Option.{Option, none, some}
use Rattle.std.specs.Int.Signed.{lt_z, le_z, quot_z, rem_z}
use Rattle.syntax.specs.declared.op.BinOp.{BinOp}
use Rattle.syntax.specs.declared.op.BinOp.TheVariants.{Div, Prod, Rem, Sum, Sub}
use Rattle.syntax.specs.declared.ifc.IfSort.{IfSort}
use Rattle.syntax.specs.declared.ifc.IfSort.TheVariants.{Equal, NotEqual, Less, LessOrEqual, Greater, GreaterOrEqual}

-- what is left of an integer modulo 2^64
abbrev pub residue : ℤ → ℕ
residue (pos n) = n % 2 ^ 64
residue (negsuc n) = 2 ^ 64 - suc (n % 2 ^ 64)

-- the i64 with these 64 bits
abbrev pub signed : ℕ → ℤ
signed r = cond (ltb r (2 ^ 63)) (pos r) (negsuc (2 ^ 64 - suc r))

-- document 01, "The two machines": Op wraps for Sum, Sub, Prod
unfoldable pub wrap : ℤ → ℤ
wrap z = signed (residue z)

abbrev pub same_int : ℤ → ℤ → Bool
same_int a b = le_z a b && le_z b a

-- document 01, "The two machines": Div goes toward zero, Rem has the dividend's sign; divisor 0 and -2^63 by -1 have no next step
abbrev pub divisible : ℤ → ℤ → Bool
divisible a b = not (same_int b (pos 0) || (same_int a (negsuc (2 ^ 63 - 1)) && same_int b (negsuc 0)))

abbrev pub given : Bool → ℤ → Option ℤ
given true z = some z
given false z = none

unfoldable pub eval_op : BinOp → ℤ → ℤ → Option ℤ
eval_op Div a b = given (divisible a b) (quot_z a b)
eval_op Prod a b = some (wrap (a *ℤ b))
eval_op Rem a b = given (divisible a b) (rem_z a b)
eval_op Sum a b = some (wrap (a +ℤ b))
eval_op Sub a b = some (wrap (a -ℤ b))

-- the comparison of an IfC
unfoldable pub holds : IfSort → ℤ → ℤ → Bool
holds Equal a b = same_int a b
holds NotEqual a b = not (same_int a b)
holds Less a b = lt_z a b
holds LessOrEqual a b = le_z a b
holds Greater a b = lt_z b a
holds GreaterOrEqual a b = le_z b a
