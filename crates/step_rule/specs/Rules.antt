-- One step of a machine on a store: what is known before it, and what it must have done.
use Rattle.std.specs.Prelude.{ℕ, ◌+◌, ◌-◌, ◌≡◌, true, false, List, length, Result, Ok, Err}
use Rattle.std.proofs.Math.Option.{Option, none, some}
use Rattle.std.proofs.lemmas.List.Edits.{sets}
use Rattle.model.specs.Syntax.{Prog}
use Rattle.image_spec.specs.Parse.{All}
use Rattle.image_spec.specs.Shape.{DefOk}
use Rattle.image_directory.specs.Slots as image
use Rattle.image_directory.specs.declared.Frame.{Frame}
use Rattle.step_spec.specs.declared.MachineKind.{MachineKind}
use Rattle.step_spec.specs.declared.MachineKind.TheVariants.{Source, Linear}
use Rattle.step_spec.specs.Located.{Machine, source_machine, linear_machine, Located, Stepped, records_in, project, is_stop, located_step}
use Rattle.step_spec.specs.Store.{header_of, raw_of, store_bytes, state_from}
use Rattle.step_spec.specs.Events.{shown_bytes}
use Rattle.step_spec.specs.Calls.{has_room_lem}
use Rattle.step_header.specs.declared.Header.{Header}
use Rattle.image_read_parts.specs.Indexed.{At}
use Rattle.step_header.specs.Headers.{tuple_of}
use Rattle.step_write.specs.Working.{Fit}
use Rattle.step_places.specs.declared.stepper.Stepper.{Stepper}
use Rattle.step_write.specs.declared.Work.{Work}
use Rattle.step_write.specs.declared.Step.{Step}
use Rattle.step_write.specs.declared.Stop.{Stop}
use Rattle.step_write.specs.declared.Stop.TheVariants.{NoStep, NoRoom}

-- an image with its records in this frame, and so many definitions, is that of a program
pub record ImageOf (P : Prog) (g : Frame) (D : ℕ) (bytes : List ℕ) : Type 0 where
  pub records : image.records_in g bytes ≡ records_in P
  pub shallow : All DefOk P.defs
  pub count : length P.defs ≡ D

abbrev pub ProgramOf : Prog → Stepper → List ℕ → Type 0
ProgramOf P stepper bytes = ImageOf P stepper.image.frame stepper.definitions bytes

abbrev pub machine_for : MachineKind → Machine
machine_for Source = source_machine
machine_for Linear = linear_machine

abbrev pub machine_in : Stepper → Machine
machine_in s = machine_for s.machine

-- the store is read as the state l of this program, whose header is h
pub record Reads (P : Prog) (store : List ℕ) (h : Header) (l : Located) : Type 0 where
  pub read : state_from P store ≡ some l
  pub heads : tuple_of h ≡ header_of (raw_of l)

-- .. and it has neither ended nor stopped, and the machine does not stop there
pub record Stored (M : Machine) (P : Prog) (store : List ℕ) (h : Header) (l : Located) : Type 0 where
  pub read : state_from P store ≡ some l
  pub heads : tuple_of h ≡ header_of (raw_of l)
  pub goes_on : l.has_ended ≡ false
  pub going : l.has_stopped ≡ false
  pub goes : is_stop (M.step P (project P l)) ≡ false

-- the state with its stopped flag clear: a rule writes it so, and whether the machine stops there is asked afterwards
abbrev pub going' : Located → Located
going' l = record { position = l.position; environment = l.environment; cells = l.cells; has_ended = l.has_ended; has_stopped = false }

abbrev pub resting : Option Stepped → Option Stepped
resting none = none
resting (some r) = some (r.0, going' r.1)

-- what is done for the machine's step: nothing where there is none; nothing where it has no room; else state and event are written
pub data Makes (store events : List ℕ) (at : ℕ) : Option Stepped → (store' events' : List ℕ) → Result Step Stop → Type 0 where
  no_step : Makes store events at none store events (Err NoStep)
  no_room : {r : Stepped} → has_room_lem r store (length events - at) ≡ false → Makes store events at (some r) store events (Err NoRoom)
  one-step : {r : Stepped} {store' events' : List ℕ} {step : Step} → has_room_lem r store (length events - at) ≡ true → store' ≡ sets store 0 (store_bytes r.1)
      → events' ≡ sets events at (shown_bytes r.0) → tuple_of step.header ≡ header_of (raw_of r.1) → step.at ≡ at + length (shown_bytes r.0)
      → Makes store events at (some r) store' events' (Ok step)

-- .. whatever program and state they are
pub record MakesAs (M : Machine) (stepper : Stepper) (w w' : Work) (m : Result Step Stop) : Type 0 where
  pub makes : (P : Prog) (l : Located) → ProgramOf P stepper stepper.image.bytes.now → Stored M P w.store.now w.header l
      → Makes w.store.now w.events.now w.at (resting (located_step M P l)) w'.store.now w'.events.now m

-- what a rule for a statement of this kind is given: the record at the position, a store that has what its header says, and a
-- place in the event buffer. (Scratch has room for 130 slots beside it: a cell of 128 values with its own slot, and a variable.)
-- No field of `Work`: a rule changes the store, and then it holds no more.
pub record Given (stepper : Stepper) (w : Work) (kind : ℕ) : Type 0 where
  pub record' : At stepper.image.frame stepper.image.bytes.now w.header.position kind
  pub fit : Fit w
