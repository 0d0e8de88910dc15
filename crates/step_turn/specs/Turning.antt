-- One turn of a stepper: a state in a store whose stopped flag is right, and its step.
use Rattle.std.specs.Prelude.{ℕ, ◌^◌, ◌<◌, ◌≡◌, false, List, length, Result}
use Rattle.model.specs.Syntax.{Prog}
use Rattle.step_spec.specs.Located.{Machine, Located, project, is_stop, located_step}
use Rattle.step_spec.proofs.Stepping.{Readable}
use Rattle.step_header.specs.declared.Header.{Header}
use Rattle.step_write.specs.declared.Step.{Step}
use Rattle.step_write.specs.declared.Stop.{Stop}
use Rattle.step_write.specs.declared.Work.{Work}
use Rattle.step_write.specs.Working.{Keeps}
use Rattle.step_places.specs.declared.stepper.Stepper.{Stepper}
use Rattle.step_rule.specs.Rules.{ProgramOf, machine_in, Reads, Makes}

-- the store is read as the state l of the image's program, and where its stopped flag is clear the machine does not stop
pub record Living (M : Machine) (P : Prog) (stepper : Stepper) (bytes store : List ℕ) (h : Header) (l : Located) : Type 0 where
  pub program : ProgramOf P stepper bytes
  pub readable : Readable P
  pub reads : Reads P store h l
  pub settled : l.has_stopped ≡ false → is_stop (M.step P (project P l)) ≡ false
  pub short : length store < 2 ^ 64

-- there is such a program and such a state
pub record Lives (M : Machine) (stepper : Stepper) (bytes store : List ℕ) (h : Header) : Type 0 where
  pub program : Prog
  pub state : Located
  pub living : Living M program stepper bytes store h state

-- what is done is the stepper's step
pub record Advances (M : Machine) (stepper : Stepper) (bytes store events : List ℕ) (h : Header) (at : ℕ) (store' events' : List ℕ) (m : Result Step Stop) : Type 0 where
  pub advances : (P : Prog) (l : Located) → Living M P stepper bytes store h l → Makes store events at (located_step M P l) store' events' m

-- .. of the state in the one `Work`, to the state in the other, with the same two buffers
abbrev pub AdvancesIn : Stepper → (w w' : Work) → Result Step Stop → Type 0
AdvancesIn s w w' m = Advances (machine_in s) s s.image.bytes.now w.store.now w.events.now w.header w.at w'.store.now w'.events.now m × Keeps w w'
