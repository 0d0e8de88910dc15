-- The parts of records: how each is written, what the layout can hold of it, and how it is read. w is the number of bytes of an ID.
use Rattle.std.specs.Prelude.{ℕ, zero, suc, ◌+◌, ◌^◌, ◌≤◌, ◌<◌, Bool, true, false, List, [], ◌∷◌, ◌++◌, ℤ, length, replicate}
use Rattle.std.specs.Int.{w64}
use Rattle.std.proofs.Common.{of_z, to_z}
use Rattle.syntax.specs.Context.{Context}
use Rattle.syntax.specs.declared.names.Identifier.{Identifier}
use Rattle.syntax.specs.declared.types.Ty.{Ty}
use Rattle.syntax.specs.declared.types.Ty.TheVariants.{I64, Decl}
use Rattle.syntax.specs.declared.context.Chirality.{Chirality}
use Rattle.syntax.specs.declared.context.Chirality.TheVariants.{Prd, Cns, Ext}
use Rattle.syntax.specs.declared.context.ContextBinding.{ContextBinding}
use Rattle.syntax.specs.declared.op.BinOp.{BinOp}
use Rattle.syntax.specs.declared.op.BinOp.TheVariants.{Div, Prod, Rem, Sum, Sub}
use Rattle.syntax.specs.declared.ifc.IfSort.{IfSort}
use Rattle.syntax.specs.declared.ifc.IfSort.TheVariants.{Equal, NotEqual, Less, LessOrEqual, Greater, GreaterOrEqual}
use Rattle.image_spec.specs.Parse.{refused, Parser, via, both, each, All, number, field, zeros, one_of, counted}
use Rattle.syntax.specs.Codes.{chiralities}

-- document 01, question 4: every count at most 128
abbrev pub max_count : ℕ
max_count = 128

-- document 01, "The image": chirality byte (0 Prd, 1 Cns, 2 Ext)
abbrev pub chirality_code_lem : Chirality → ℕ
chirality_code_lem Prd = 0
chirality_code_lem Cns = 1
chirality_code_lem Ext = 2

-- document 01, "The image": byte 0 to 4 (Div, Prod, Rem, Sum, Sub)
abbrev pub operator_code_lem : BinOp → ℕ
operator_code_lem Div = 0
operator_code_lem Prod = 1
operator_code_lem Rem = 2
operator_code_lem Sum = 3
operator_code_lem Sub = 4

-- document 01, "The image": byte 0 to 5 in `IfSort`'s order
abbrev pub sort_code_lem : IfSort → ℕ
sort_code_lem Equal = 0
sort_code_lem NotEqual = 1
sort_code_lem Less = 2
sort_code_lem LessOrEqual = 3
sort_code_lem Greater = 4
sort_code_lem GreaterOrEqual = 5

-- document 02, A.1: newline byte 0 or 1
abbrev pub newlines : List Bool
newlines = false ∷ true ∷ []

abbrev pub newline_code_lem : Bool → ℕ
newline_code_lem false = 0
newline_code_lem true = 1

-- document 01, "The image": eight bytes, signed
abbrev pub integer_bytes : ℤ → List ℕ
integer_bytes z = field 8 (of_z w64 z)

unfoldable pub integer : Parser ℕ ℤ
integer = via (to_z w64) (number 8)

module _ (w : ℕ) where
  -- document 01, "The image": Identifier: name, ID (4 bytes)
  abbrev pub identifier_bytes : Identifier → List ℕ
  identifier_bytes x = field 2 x.name.0 ++ field w x.id.0

  abbrev pub IdentifierOk : Identifier → Type 0
  IdentifierOk x = (x.name.0 < 256 ^ 2) × (x.id.0 < 256 ^ w)

  unfoldable pub identifier : Parser ℕ Identifier
  identifier = via (λ t. record { name = record { 0 = t.0 }; id = record { 0 = t.1 } }) (both (number 2) (number w))

  -- document 01, "The image": Type: byte 0 (I64) and four zero bytes, or 1 and an identifier
  abbrev pub type_bytes : Ty → List ℕ
  type_bytes I64 = 0 ∷ replicate (2 + w) 0
  type_bytes (Decl x) = 1 ∷ identifier_bytes x

  abbrev pub TypeOk : Ty → Type 0
  TypeOk I64 = Unit {0}
  TypeOk (Decl x) = IdentifierOk x

  unfoldable pub type : Parser ℕ Ty
  type [] = refused
  type (zero ∷ l) = via (λ _. I64) (zeros (2 + w)) l
  type (suc zero ∷ l) = via Decl identifier l
  type (suc (suc b) ∷ l) = refused

  -- document 01, "The image": Binding: identifier, chirality byte, type: 10 bytes
  abbrev pub binding_bytes : ContextBinding → List ℕ
  binding_bytes b = identifier_bytes b.var ++ ((chirality_code_lem b.chi ∷ []) ++ type_bytes b.ty)

  abbrev pub BindingOk : ContextBinding → Type 0
  BindingOk b = IdentifierOk b.var × (Unit {0} × TypeOk b.ty)

  unfoldable pub binding : Parser ℕ ContextBinding
  binding = via (λ t. record { var = t.0; chi = t.1.0; ty = t.1.1 }) (both identifier (both (one_of chiralities) type))

  -- document 01, "The image": List: count byte, bindings
  abbrev pub list_bytes : Context → List ℕ
  list_bytes Γ = length Γ ∷ each binding_bytes Γ

  abbrev pub ListOk : Context → Type 0
  ListOk Γ = (length Γ ≤ max_count) × All BindingOk Γ

  unfoldable pub list : Parser ℕ Context
  list = counted max_count binding

  -- document 01, "The image": pairs of binding and identifier
  abbrev pub pair_bytes : ContextBinding × Identifier → List ℕ
  pair_bytes p = binding_bytes p.0 ++ identifier_bytes p.1

  abbrev pub PairOk : ContextBinding × Identifier → Type 0
  PairOk p = BindingOk p.0 × IdentifierOk p.1

  unfoldable pub pair : Parser ℕ (ContextBinding × Identifier)
  pair = both binding identifier
