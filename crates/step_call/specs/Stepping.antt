-- Steps on an image whose questions were answered with yes.
use Rattle.std.specs.Prelude.{ℕ, ◌≡◌, Bool, true, false, not, ◌&&◌, List, Result, Ok, Err}
use Rattle.model.specs.Syntax.{Prog}
use Rattle.image_open.specs.declared.opened.Opened.{Opened}
use Rattle.step_spec.specs.declared.MachineKind.{MachineKind}
use Rattle.step_spec.specs.Located.{Located, project, is_stop}
use Rattle.step_spec.specs.Store.{state_from}
use Rattle.step_spec.specs.Calls.{step_from}
use Rattle.step_spec.proofs.Stepping.{Readable}
use Rattle.step_header.specs.declared.Header.{Header}
use Rattle.step_places.specs.declared.stepper.Stepper.{Stepper}
use Rattle.step_rule.specs.Rules.{ImageOf, ProgramOf, machine_for, machine_in, Reads}
use Rattle.step_run.specs.declared.Ran.{Ran}
use Rattle.step_answer_spec.specs.declared.Shown.{Shown}
use Rattle.step_answer_spec.specs.declared.Failure.{Failure}
use Rattle.step_answer_spec.specs.declared.Failure.TheVariants.{NoRoom}
use Rattle.step_answer_spec.specs.Saying.{result_of}

-- the answer after steps that were made
abbrev pub said_if : (full : Bool) (steps length : ℕ) → Result Shown Failure
said_if true n k = Err (NoRoom (record { steps = n; length = k }))
said_if false n k = Ok (record { steps = n; length = k })

abbrev pub said_of : Ran → Result Shown Failure
said_of r = said_if r.full r.steps r.length

-- does the machine stop at the state that the store is read as, though its flag is clear?
pub record Forged (stepper : Stepper) (bytes store : List ℕ) (h : Header) (b : Bool) : Type 0 where
  pub is : (P : Prog) (l : Located) → ProgramOf P stepper bytes → Reads P store h l → b ≡ (not l.has_stopped && is_stop ((machine_in stepper).step P (project P l)))

-- the steps and the answer are those of the definition, whatever program the image is that of
pub record StepsOn (machine : MachineKind) (o : Opened) (n : ℕ) (store events store' events' : List ℕ) (r : Result Shown Failure) : Type 0 where
  pub steps : (P : Prog) → ImageOf P o.image.frame o.definitions o.image.bytes.now → Readable P → result_of r store' events' ≡ step_from (machine_for machine) P n (state_from P store) store events
