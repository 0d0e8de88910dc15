-- What a binding that stands in an array says.
use Rattle.std.specs.Prelude.{Bool, true, false}
use Rattle.syntax.specs.declared.names.Identifier.{Identifier}
use Rattle.syntax.specs.declared.types.Ty.{Ty}
use Rattle.syntax.specs.declared.types.Ty.TheVariants.{I64, Decl}
use Rattle.syntax.specs.declared.context.Chirality.TheVariants.{Prd}
use Rattle.syntax.specs.declared.context.ContextBinding.{ContextBinding}
use Rattle.syntax.specs.declared.context.FlatBinding.{FlatBinding}

-- I64 has no identifier
abbrev pub ty_of : (declared : Bool) → Identifier → Ty
ty_of true x = Decl x
ty_of false x = I64

abbrev pub binding_of : FlatBinding → ContextBinding
binding_of f = record {
  var = record { name = f.name; id = f.id };
  chi = f.chi;
  ty = ty_of f.declared (record { name = f.ty_name; id = f.ty_id });
}

-- what stands in the unused places of an array: all 0
abbrev pub empty_flat : FlatBinding
empty_flat = record { id = record { 0 = 0 }; ty_id = record { 0 = 0 }; name = record { 0 = 0 }; ty_name = record { 0 = 0 }; chi = Prd; declared = false; unused = 0 }
