-- What a record is made of, by its kind: `made_of` says that a record of kind 4 is a Let, and so on. Assumes nothing.
use Prim.Native.Nat.{ℕ}
use mathlib.Core.Path.{◌≡◌, refl, ap, ◌∙◌}
use mathlib.Core.Bool.{Bool, false}
use mathlib.Core.List.{[], ◌∷◌}
use mathlib.Core.Option.{Option, none}
use lib.IntN.{ℤ, pos}
use lib.ListN.{get_or}
use Rattle.syntax.specs.Context.{Context}
use Rattle.syntax.specs.declared.names.Identifier.{Identifier}
use Rattle.syntax.specs.declared.types.Ty.{Ty}
use Rattle.syntax.specs.declared.types.Ty.TheVariants.{I64}
use Rattle.syntax.specs.declared.op.BinOp.{BinOp}
use Rattle.syntax.specs.declared.op.BinOp.TheVariants.{Div}
use Rattle.syntax.specs.declared.ifc.IfSort.{IfSort}
use Rattle.syntax.specs.declared.ifc.IfSort.TheVariants.{Equal}
use Rattle.image_spec.specs.Records.{Record, definition, substitute, call, let', switch, create, invoke, literal, op, ifc, clause', print, exit}
use Rattle.image_spec.specs.Kinds.{kind_of, clauses_of}
use Rattle.image_read_parts.specs.Parts.{list_of}
use Rattle.image_read_nodes.specs.Nodes.{no_identifier, first_of, operand_of, target_of, second_of}

-- the parts that have no name yet
pub record Parts : Type 0 where
  pub ty : Ty
  pub tag : Identifier
  pub environment : Option Context
  pub lit : ℤ
  pub operator : BinOp
  pub sort : IfSort
  pub newline : Bool

abbrev typed : Ty → Identifier → Option Context → Parts
typed t g e = record { ty = t; tag = g; environment = e; lit = pos 0; operator = Div; sort = Equal; newline = false }

abbrev bare : Parts
bare = typed I64 no_identifier none

abbrev pub parts_of : Record → Parts
parts_of (definition x Γ) = bare
parts_of (substitute ps) = bare
parts_of (call x Γ) = bare
parts_of (let' v t g Γ) = typed t g none
parts_of (switch v t n) = typed t no_identifier none
parts_of (create v t e n) = typed t no_identifier e
parts_of (invoke v g t Γ) = typed t g none
parts_of (literal z v) = record { ty = I64; tag = no_identifier; environment = none; lit = z; operator = Div; sort = Equal; newline = false }
parts_of (op f o j v) = record { ty = I64; tag = no_identifier; environment = none; lit = pos 0; operator = o; sort = Equal; newline = false }
parts_of (ifc c f j) = record { ty = I64; tag = no_identifier; environment = none; lit = pos 0; operator = Div; sort = c; newline = false }
parts_of (clause' x Γ) = bare
parts_of (print n v) = record { ty = I64; tag = no_identifier; environment = none; lit = pos 0; operator = Div; sort = Equal; newline = n }
parts_of (exit v) = bare

-- a record of kind k, of the parts of r. (A Substitute is itself.)
abbrev pub made : Record → Parts → ℕ → Record
made r p k =
    get_or
    (r
    ∷ definition (first_of r) (list_of r)
    ∷ r
    ∷ call (first_of r) (list_of r)
    ∷ let' (first_of r) p.ty p.tag (list_of r)
    ∷ switch (first_of r) p.ty (clauses_of r)
    ∷ create (first_of r) p.ty p.environment (clauses_of r)
    ∷ invoke (first_of r) p.tag p.ty (list_of r)
    ∷ literal p.lit (first_of r)
    ∷ op (first_of r) p.operator (operand_of r) (target_of r)
    ∷ ifc p.sort (first_of r) (second_of r)
    ∷ clause' (first_of r) (list_of r)
    ∷ print p.newline (first_of r)
    ∷ exit (first_of r)
    ∷ [])
    k r

made-same : (r : Record) → r ≡ made r (parts_of r) (kind_of r)
made-same (definition x Γ) = refl
made-same (substitute ps) = refl
made-same (call x Γ) = refl
made-same (let' v t g Γ) = refl
made-same (switch v t n) = refl
made-same (create v t e n) = refl
made-same (invoke v g t Γ) = refl
made-same (literal z v) = refl
made-same (op f o j v) = refl
made-same (ifc c f j) = refl
made-same (clause' x Γ) = refl
made-same (print n v) = refl
made-same (exit v) = refl

pub made_of : (r : Record) (k : ℕ) → kind_of r ≡ k → r ≡ made r (parts_of r) k
made_of r k e = made-same r ∙ ap (made r (parts_of r)) e
