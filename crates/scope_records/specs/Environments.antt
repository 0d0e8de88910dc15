-- The count of an environment (question 7).
use Rattle.std.specs.Prelude.{Bool, true, leb}
use Rattle.model.specs.Sizes.{count_environment}
use Rattle.image_spec.specs.Records.{Record, definition, substitute, call, let', switch, create, invoke, literal, op, ifc, clause', print, exit}

-- has a Create's environment at most 32 bindings, if there is one?
abbrev pub small_environment_lem : Record → Bool
small_environment_lem (definition x Γ) = true
small_environment_lem (substitute ps) = true
small_environment_lem (call x Γ) = true
small_environment_lem (let' v t g Γ) = true
small_environment_lem (switch v t n) = true
small_environment_lem (create v t e n) = leb (count_environment e) 32
small_environment_lem (invoke v g t Γ) = true
small_environment_lem (literal z v) = true
small_environment_lem (op f o s v) = true
small_environment_lem (ifc c f s) = true
small_environment_lem (clause' x Γ) = true
small_environment_lem (print n v) = true
small_environment_lem (exit v) = true
