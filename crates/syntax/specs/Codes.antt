-- The codes of chiralities, operators and comparisons (document 01, "The image"): the places of the values in these lists, from 0.
use Rattle.std.specs.Prelude.{ℕ, ◌≡◌, ◌≤◌, List, [], ◌∷◌, length, Some, Result, MatchResult, slice_get}
use Rattle.syntax.specs.declared.codes.NoCode.{NoCode}
use Rattle.syntax.specs.declared.context.Chirality.{Chirality}
use Rattle.syntax.specs.declared.context.Chirality.TheVariants.{Prd, Cns, Ext}
use Rattle.syntax.specs.declared.op.BinOp.{BinOp}
use Rattle.syntax.specs.declared.op.BinOp.TheVariants.{Div, Prod, Rem, Sum, Sub}
use Rattle.syntax.specs.declared.ifc.IfSort.{IfSort}
use Rattle.syntax.specs.declared.ifc.IfSort.TheVariants.{Equal, NotEqual, Less, LessOrEqual, Greater, GreaterOrEqual}

abbrev pub chiralities : List Chirality
chiralities = Prd ∷ Cns ∷ Ext ∷ []

abbrev pub operators : List BinOp
operators = Div ∷ Prod ∷ Rem ∷ Sum ∷ Sub ∷ []

abbrev pub sorts : List IfSort
sorts = Equal ∷ NotEqual ∷ Less ∷ LessOrEqual ∷ Greater ∷ GreaterOrEqual ∷ []

-- the result is the value with this code, or an error with a code that no value has
abbrev pub Decodes : {A : Type 0} → List A → ℕ → Result A NoCode → Type 0
Decodes values code r = MatchResult r (λ a. slice_get values code ≡ Some a) (λ e. (e.0 ≡ code) × (length values ≤ code))
