-- What a Call reads: the parameters of the definition that it names.
use Rattle.std.specs.Prelude.{ℕ, List, Option}
use Rattle.step_places.specs.Searches.{FindsLabel}
use Rattle.step_places.specs.declared.stepper.Stepper.{Stepper}
use Rattle.step_enter.specs.declared.Parameters.{Parameters}
use Rattle.step_enter.specs.Entering.{ParametersOf}

-- the parameters of the first definition with this label
pub record DefinitionOf (stepper : Stepper) (bytes : List ℕ) (label : ℕ) (r : Option Parameters) : Type 0 where
  pub found : Option ℕ
  pub finds : FindsLabel stepper.image.frame bytes stepper.definitions label found
  pub reads : ParametersOf stepper.image.frame bytes found r
