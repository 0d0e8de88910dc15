-- What a stepper asks of an image before anything else, and what it then knows.
use Rattle.std.specs.Prelude.{ℕ, ◌≡◌, List, Result, Ok, Err}
use Rattle.model.specs.Syntax.{Prog}
use Rattle.image_spec.specs.declared.Layout.{Layout}
use Rattle.image_spec.specs.declared.Refusal.{Refusal}
use Rattle.image_spec.specs.Reading.{refuse, accept}
use Rattle.step_spec.specs.declared.MachineKind.{MachineKind}
use Rattle.step_spec.specs.declared.MachineKind.TheVariants.{Source, Linear}
use Rattle.step_spec.specs.Calls as calls
use Rattle.image_open.specs.declared.opened.Opened.{Opened}
use Rattle.step_rule.specs.Rules.{ImageOf}

-- document 02, A.2: the source stepper asks 1 to 10 first, the linear one 1 to 5
abbrev pub stepper_of : MachineKind → Layout → calls.Stepper
stepper_of Source L = calls.source_stepper L
stepper_of Linear L = calls.linear_stepper L

-- the image is refused; or it is that of a program, and what was opened is that image
pub data Asks (L : Layout) (machine : MachineKind) (bytes : List ℕ) : Result Opened Refusal → Type 0 where
  closed : {q : Refusal} → (stepper_of machine L).asks bytes ≡ refuse q → Asks L machine bytes (Err q)
  opened : {o : Opened} (P : Prog) → (stepper_of machine L).asks bytes ≡ accept P → ImageOf P o.image.frame o.definitions bytes → o.image.bytes.now ≡ bytes → Asks L machine bytes (Ok o)
