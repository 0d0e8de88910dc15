-- The rows of IDs in the records of an opened image.
use Rattle.std.specs.Prelude.{ℕ, ◌+◌, ◌≡◌, Option, Some, None, List, [], get_or}
use Rattle.std.proofs.Math.Option.{Option as Optional, none, some}
use Rattle.syntax.specs.Context.{Context, ids}
use Rattle.syntax.specs.declared.names.Identifier.{Identifier}
use Rattle.syntax.specs.declared.context.ContextBinding.{ContextBinding}
use Rattle.image_spec.specs.Records.{Record, definition, substitute, call, let', switch, create, invoke, literal, op, ifc, clause', print, exit}
use Rattle.step_rows.specs.declared.places.Places.{Places}
use Rattle.step_rows.specs.declared.row.Row.{Row}
use Rattle.step_rows.specs.Rows.{ids_of}

-- what stands at `at`: a count, and as many elements
abbrev pub counted_places_lem : List ℕ → (at stride offset width : ℕ) → Places
counted_places_lem bytes at stride offset width = record { from = at + 1; stride = stride; offset = offset; width = width; len = get_or bytes at 0 }

-- any bytes, as they are
abbrev pub bytes_of : List ℕ → List ℕ
bytes_of l = l

abbrev pub AnyBytes : List ℕ → Type 0
AnyBytes l = Unit {0}

-- the pairs of a Substitute
abbrev pub pairs_of : Record → List (ContextBinding × Identifier)
pairs_of (definition x Γ) = []
pairs_of (substitute ps) = ps
pairs_of (call x Γ) = []
pairs_of (let' v t g Γ) = []
pairs_of (switch v t n) = []
pairs_of (create v t e n) = []
pairs_of (invoke v g t Γ) = []
pairs_of (literal z v) = []
pairs_of (op f o s v) = []
pairs_of (ifc c f s) = []
pairs_of (clause' x Γ) = []
pairs_of (print n v) = []
pairs_of (exit v) = []

-- the environment of a Create, if it has one
abbrev pub environment_of : Record → Optional Context
environment_of (definition x Γ) = none
environment_of (substitute ps) = none
environment_of (call x Γ) = none
environment_of (let' v t g Γ) = none
environment_of (switch v t n) = none
environment_of (create v t e n) = e
environment_of (invoke v g t Γ) = none
environment_of (literal z v) = none
environment_of (op f o s v) = none
environment_of (ifc c f s) = none
environment_of (clause' x Γ) = none
environment_of (print n v) = none
environment_of (exit v) = none

-- the IDs of an environment, or that there is none
pub data EnvironmentRow : Option Row → Optional Context → Type 0 where
  absent : EnvironmentRow None none
  listed : {row : Row} {Γ : Context} → ids_of row ≡ ids Γ → EnvironmentRow (Some row) (some Γ)
