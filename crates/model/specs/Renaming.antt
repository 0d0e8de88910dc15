-- Renamings (names.rs, and the liftings of `Subst`).
use Rattle.std.specs.Prelude.{Bool, true, false, List, map}
use Rattle.std.proofs.Math.Option.{Option, none, some}
use Rattle.syntax.specs.Context.{Context, ids, vars}
use Rattle.syntax.specs.declared.names.VarId.{VarId}
use Rattle.syntax.specs.declared.names.Identifier.{Identifier}
use Rattle.syntax.specs.declared.context.ContextBinding.{ContextBinding}
use Rattle.model.specs.Lists.{lookup, zip}

-- what stands for an ID, if something does
abbrev pub Renaming : Type 0
Renaming = VarId → Option Identifier

-- nothing is renamed yet
abbrev pub no_renaming : Renaming
no_renaming i = none

-- names.rs, `subst_sim` of an `Identifier` and of an `ID`
abbrev pub or_self : Option Identifier → Identifier → Identifier
or_self none x = x
or_self (some y) x = y

abbrev pub or_self_id : Option Identifier → VarId → VarId
or_self_id none i = i
or_self_id (some y) i = y.id

abbrev pub rename : Renaming → Identifier → Identifier
rename ρ x = or_self (ρ x.id) x

abbrev pub rename_id : Renaming → VarId → VarId
rename_id ρ i = or_self_id (ρ i) i

-- document 01, "The Rust": on a list, `Rc` or `Option` it maps the content, on a set each member
abbrev pub rename_option : Renaming → Option Identifier → Option Identifier
rename_option ρ none = none
rename_option ρ (some x) = some (rename ρ x)

abbrev pub rename_binding : Renaming → ContextBinding → ContextBinding
rename_binding ρ b = record { var = rename ρ b.var; chi = b.chi; ty = b.ty }

abbrev pub rename_context : Renaming → Context → Context
rename_context ρ Γ = map (rename_binding ρ) Γ

abbrev pub rename_ids : Renaming → List VarId → List VarId
rename_ids ρ s = map (rename_id ρ) s

-- first ρ, then σ
abbrev pub then_rename : Option Identifier → Option Identifier → Renaming → Option Identifier
then_rename none o σ = o
then_rename (some y) o σ = some (rename σ y)

infixl 40 ◌⨾◌
abbrev pub ◌⨾◌ : Renaming → Renaming → Renaming
(ρ ⨾ σ) i = then_rename (ρ i) (σ i) σ

-- create.rs, `substitution_next`: each variable of the first context becomes the one in its place in the second
abbrev pub renaming : Context → Context → Renaming
renaming Γ Δ i = lookup i (zip (ids Γ) (vars Δ))

-- first ρ, then σ unless the context is right: only where a Substitute is inserted is renamed
unfoldable pub rename_unless : (right : Bool) → Renaming → Renaming → Renaming
rename_unless true ρ σ = ρ
rename_unless false ρ σ = ρ ⨾ σ
