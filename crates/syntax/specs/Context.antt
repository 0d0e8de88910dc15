-- Bindings and typing contexts (context.rs). A context is the list of its bindings; Arrays.antt ties the struct to it.
use Rattle.std.specs.Prelude.{Bool, true, false, ◌&&◌, List, [], ◌∷◌, map}
use Rattle.syntax.specs.Names.{same_identifier}
use Rattle.syntax.specs.Types.{same_ty, same_chirality}
use Rattle.syntax.specs.declared.names.VarId.{VarId}
use Rattle.syntax.specs.declared.names.Identifier.{Identifier}
use Rattle.syntax.specs.declared.types.Ty.TheVariants.{I64}
use Rattle.syntax.specs.declared.context.Chirality.TheVariants.{Prd}
use Rattle.syntax.specs.declared.context.ContextBinding.{ContextBinding}

abbrev pub Context : Type 0
Context = List ContextBinding

abbrev pub id_of : ContextBinding → VarId
id_of b = b.var.id

-- context.rs, `vars` and `ids_set`
abbrev pub vars : Context → List Identifier
vars Γ = map (λ (b : ContextBinding). b.var) Γ

abbrev pub ids : Context → List VarId
ids Γ = map id_of Γ

-- the binding with another variable
abbrev pub rebound : ContextBinding → Identifier → ContextBinding
rebound b x = record { var = x; chi = b.chi; ty = b.ty }

-- document 01, "The Rust": two bindings are equal when name, ID, chirality and type are
abbrev pub same_binding : ContextBinding → ContextBinding → Bool
same_binding a b = same_identifier a.var b.var && (same_chirality a.chi b.chi && same_ty a.ty b.ty)

-- two contexts are equal when they have equal bindings in the same order
abbrev pub same_context : Context → Context → Bool
same_context [] [] = true
same_context [] (b ∷ Δ) = false
same_context (a ∷ Γ) [] = false
same_context (a ∷ Γ) (b ∷ Δ) = same_binding a b && same_context Γ Δ

-- what stands in the unused places of an array: name 0, ID 0, Prd, I64
abbrev pub empty_binding : ContextBinding
empty_binding = record { var = record { name = record { 0 = 0 }; id = record { 0 = 0 } }; chi = Prd; ty = I64 }
