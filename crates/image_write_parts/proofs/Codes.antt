-- The number of a variant is the code that stands for it. Assumes nothing.
use mathlib.Core.Path.{◌≡◌, refl}
use denote.Enum.Declared.{tag_of}
use Rattle.syntax.specs.contracts.context.Chirality.{the_type as chiralities}
use Rattle.syntax.specs.contracts.op.BinOp.{the_type as operators}
use Rattle.syntax.specs.contracts.ifc.IfSort.{the_type as sorts}
use Rattle.syntax.specs.declared.context.Chirality.{Chirality}
use Rattle.syntax.specs.declared.context.Chirality.TheVariants.{Prd, Cns, Ext}
use Rattle.syntax.specs.declared.op.BinOp.{BinOp}
use Rattle.syntax.specs.declared.op.BinOp.TheVariants.{Div, Prod, Rem, Sum, Sub}
use Rattle.syntax.specs.declared.ifc.IfSort.{IfSort}
use Rattle.syntax.specs.declared.ifc.IfSort.TheVariants.{Equal, NotEqual, Less, LessOrEqual, Greater, GreaterOrEqual}
use Rattle.image_spec.specs.Fields.{chirality_code_lem, operator_code_lem, sort_code_lem}

pub chirality-number : (c : Chirality) → tag_of chiralities c ≡ chirality_code_lem c
chirality-number Prd = refl
chirality-number Cns = refl
chirality-number Ext = refl

pub operator-number : (o : BinOp) → tag_of operators o ≡ operator_code_lem o
operator-number Div = refl
operator-number Prod = refl
operator-number Rem = refl
operator-number Sum = refl
operator-number Sub = refl

pub sort-number : (c : IfSort) → tag_of sorts c ≡ sort_code_lem c
sort-number Equal = refl
sort-number NotEqual = refl
sort-number Less = refl
sort-number LessOrEqual = refl
sort-number Greater = refl
sort-number GreaterOrEqual = refl
