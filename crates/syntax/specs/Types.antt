-- Chiralities and types (context.rs, types.rs): when two are the same.
use Rattle.std.specs.Prelude.{Bool, true, false}
use Rattle.syntax.specs.Names.{same_identifier}
use Rattle.syntax.specs.declared.names.Identifier.{Identifier}
use Rattle.syntax.specs.declared.types.Ty.{Ty}
use Rattle.syntax.specs.declared.types.Ty.TheVariants.{I64, Decl}
use Rattle.syntax.specs.declared.context.Chirality.{Chirality}
use Rattle.syntax.specs.declared.context.Chirality.TheVariants.{Prd, Cns, Ext}

abbrev pub same_chirality : Chirality → Chirality → Bool
same_chirality Prd Prd = true
same_chirality Prd Cns = false
same_chirality Prd Ext = false
same_chirality Cns Prd = false
same_chirality Cns Cns = true
same_chirality Cns Ext = false
same_chirality Ext Prd = false
same_chirality Ext Cns = false
same_chirality Ext Ext = true

abbrev pub same_ty : Ty → Ty → Bool
same_ty I64 I64 = true
same_ty I64 (Decl b) = false
same_ty (Decl a) I64 = false
same_ty (Decl a) (Decl b) = same_identifier a b

-- is the type declared, and by which identifier? (I64 has none: name 0 and ID 0 stand for it)
abbrev pub declared_ty : Ty → Bool
declared_ty I64 = false
declared_ty (Decl x) = true

abbrev pub identifier_of : Ty → Identifier
identifier_of I64 = record { name = record { 0 = 0 }; id = record { 0 = 0 } }
identifier_of (Decl x) = x
