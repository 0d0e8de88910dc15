-- Which machine a test for the source machine says that it is. Assumes nothing.
use mathlib.Core.Path.{◌≡◌, refl, sym, ◌∙◌}
use mathlib.Core.Bool.{Bool, true, false, false≢true, true≢false}
use denote.Enum.Bare.{sameb}
use Rattle.step_spec.specs.declared.MachineKind.{MachineKind}
use Rattle.step_spec.specs.declared.MachineKind.TheVariants.{Source, Linear}
use Rattle.step_spec.specs.contracts.MachineKind.{the_type}

pub is-source : (kind : MachineKind) {b : Bool} → b ≡ sameb the_type kind Source → b ≡ true → kind ≡ Source
is-source Source e f = refl
is-source Linear e f = absurd (false≢true (sym e ∙ f))

pub is-linear : (kind : MachineKind) {b : Bool} → b ≡ sameb the_type kind Source → b ≡ false → kind ≡ Linear
is-linear Source e f = absurd (true≢false (sym e ∙ f))
is-linear Linear e f = refl
