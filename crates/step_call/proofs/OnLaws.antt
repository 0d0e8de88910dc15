-- Steps on an image whose questions were answered with yes: what the store was opened as, and what is then answered. Assumes nothing.
use Rattle.image_open.specs.declared.opened.Opened.{Opened}
use Rattle.step_spec.specs.declared.MachineKind.{MachineKind}
use Prim.Native.Nat.{ℕ, ◌^◌, ◌<◌}
use mathlib.Core.Path.{◌≡◌, sym, ap, ◌∙◌, subst}
use mathlib.Core.Bool.{Bool, true, false}
use mathlib.Core.List.{List}
use lib.ListN.{length}
use Rattle.model.specs.Syntax.{Prog}
use Rattle.image_directory.specs.Slots.{Ready}
use Rattle.image_directory.specs.declared.Frame.{Frame}
use Rattle.step_spec.specs.Located.{Machine, project, is_stop}
use Rattle.step_spec.specs.Store.{state_from}
use Rattle.step_spec.specs.Calls.{step_from}
use Rattle.step_spec.proofs.Stepping.{Readable}
use Rattle.step_header.specs.declared.Header.{Header}
use Rattle.step_header.specs.Headers.{Holds}
use Rattle.step_scan.specs.Pass.{seen}
use Rattle.step_open.specs.Opening.{Opens}
use Rattle.step_places.specs.declared.stepper.Stepper.{Stepper}
use Rattle.step_rule.specs.Rules.{ImageOf, ProgramOf, machine_in}
use Rattle.step_settle.proofs.Reading.{reads-holds, reads-inside}
use Rattle.step_turn.specs.Turning.{Living, Lives}
use Rattle.step_run.specs.declared.Ran.{Ran}
use Rattle.step_run.specs.Runs.{Runs}
use Rattle.std.specs.Prelude.{Option, Some, None, Result, Ok, Err}
use Rattle.step_answer_spec.specs.declared.Shown.{Shown}
use Rattle.step_answer_spec.specs.declared.Failure.{Failure}
use Rattle.step_answer_spec.specs.declared.Failure.TheVariants.{NoState}
use Rattle.step_answer_spec.specs.Saying.{result_of, Accepted}
use Rattle.step_call.specs.Stepping.{said_of, Forged, StepsOn}
use Rattle.step_call.proofs.OpenedState.{not_opened, opened-reads}
use Rattle.step_call.proofs.CallLaws.{forged_step, settled_flag, from_none, from-resting, from-ran}

-- what a call has to answer and to leave, for each program that the image may be that of
abbrev pub Said : Machine → Frame → (D : ℕ) → (bytes : List ℕ) → (n : ℕ) → (store events store' events' : List ℕ) → Result Shown Failure → Type 0
Said M g D bytes n store events store' events' r = (P : Prog) → ImageOf P g D bytes → Readable P → result_of r store' events' ≡ step_from M P n (state_from P store) store events

module _ {g : Frame} {D : ℕ} {bytes store : List ℕ} {opened : Option Header} (o : Opens g bytes store opened) where
  -- it is no state
  pub none_steps : opened ≡ None → (M : Machine) (n : ℕ) (events : List ℕ) → Said M g D bytes n store events store events (Err NoState)
  none_steps e M n events P p r = from_none M P n store events (not_opened p o e)

  -- its position is in the image, and it holds what its header says
  pub opened-holds : {h : Header} → opened ≡ Some h → Ready g bytes → Accepted g D bytes → (h.position < g.count) × Holds store h
  opened-holds e y a = let r = opened-reads a.is o e in (reads-inside r y a.is, reads-holds r)

module _ {stepper : Stepper} {bytes store : List ℕ} {opened : Option Header} (o : Opens stepper.image.frame bytes store opened) {h : Header} (e : opened ≡ Some h) {b : Bool} (f : Forged stepper bytes store h b) where
  -- its flag is clear where the machine stops
  pub forged_steps : b ≡ true → (n : ℕ) (events : List ℕ) → Said (machine_in stepper) stepper.image.frame stepper.definitions bytes n store events store events (Ok (record { steps = 0; length = 0 }))
  forged_steps q n events P p r =
      let s = opened-reads p o e in
      from-resting (machine_in stepper) P n store events (seen store h) s.read (forged_step (machine_in stepper) P (seen store h) (sym (f.is P (seen store h) p s) ∙ q))

  module _ (q : b ≡ false) (short : length store < 2 ^ 64) where
    living : {P : Prog} → ProgramOf P stepper bytes → Readable P → Living (machine_in stepper) P stepper bytes store h (seen store h)
    living {P} p r =
        let s = opened-reads p o e in
        let l = seen store h in
        record { program = p; readable = r; reads = s; settled = λ g. settled_flag l.has_stopped (is_stop ((machine_in stepper).step P (project P l))) (sym (f.is P l p s) ∙ q) g; short = short }

    pub opened-lives : Accepted stepper.image.frame stepper.definitions bytes → Lives (machine_in stepper) stepper bytes store h
    opened-lives a = record { program = a.program; state = seen store h; living = living a.is a.readable }

    -- steps were made
    pub ran-steps : {n : ℕ} {events store' events' : List ℕ} {r : Ran} → Runs (machine_in stepper) stepper bytes n store events h store' events' r → {s : Result Shown Failure} → s ≡ said_of r
        → Said (machine_in stepper) stepper.image.frame stepper.definitions bytes n store events store' events' s
    ran-steps {n} {events} {store'} {events'} {r} w {s} k P p d =
        ap (λ (z : Result Shown Failure). result_of z store' events') k
        ∙ from-ran (machine_in stepper) P n store events (seen store h) (opened-reads p o e).read (w.runs P (seen store h) (living p d))

-- the buffers as a call leaves them are those that its steps left
pub carried : {machine : MachineKind} {o : Opened} {n : ℕ} {store events : List ℕ} (s e : List ℕ) {s' e' : List ℕ} {r : Result Shown Failure} → s' ≡ s → e' ≡ e
    → StepsOn machine o n store events s e r → StepsOn machine o n store events s' e' r
carried {machine} {o} {n} {store} {events} s e {s'} {e'} {r} p q w =
    subst (λ (x : List ℕ). StepsOn machine o n store events x e' r) (sym p) (subst (λ (y : List ℕ). StepsOn machine o n store events s y r) (sym q) w)
