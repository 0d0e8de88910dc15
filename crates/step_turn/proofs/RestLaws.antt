-- A state that has ended or stopped makes no step; from any other a rule is asked, and what it made is the step. Assumes nothing.
use Rattle.std.specs.Prelude.{Result, Ok, Err}
use Prim.Native.Nat.{ℕ, ◌<◌}
use mathlib.Core.Path.{◌≡◌, refl, sym, ap, ◌∙◌, subst}
use mathlib.Core.Bool.{Bool, true, false}
use mathlib.Core.List.{List, map}
use mathlib.Core.Option.{none}
use native.Mathlib.Omega.{arith}
use Rattle.model.specs.Syntax.{Prog}
use Rattle.model.specs.Source.{source_step_lem}
use Rattle.model.specs.Linear.{linear_step_lem}
use Rattle.step_spec.specs.declared.MachineKind.{MachineKind}
use Rattle.step_spec.specs.declared.MachineKind.TheVariants.{Source, Linear}
use Rattle.step_spec.specs.Located.{Located, stmt_in, cell_in, state_of, project, unless_stopped, follow, located_step}
use Rattle.step_spec.specs.Store.{bit}
use Rattle.step_spec.proofs.Projects.{stopped-step}
use Rattle.step_spec.proofs.Sound.{Lawful, source_lawful, linear_lawful}
use Rattle.image_directory.specs.Slots.{Ready}
use Rattle.step_header.specs.declared.Header.{Header}
use Rattle.step_header.specs.Headers.{Holds}
use Rattle.step_write.specs.declared.Step.{Step}
use Rattle.step_write.specs.declared.Work.{Work}
use Rattle.step_write.specs.declared.Stop.{Stop}
use Rattle.step_write.specs.declared.Stop.TheVariants.{NoStep}
use Rattle.step_places.specs.declared.stepper.Stepper.{Stepper}
use Rattle.step_rule.specs.Rules.{machine_for, machine_in, Stored, resting, Makes, no_step, MakesAs}
use Rattle.step_rule.proofs.Views.{views}
use Rattle.step_settle.specs.Settling.{Settles}
use Rattle.step_settle.proofs.Reading.{reads-holds, reads-inside}
use Rattle.step_turn.specs.Turning.{Living, Lives, Advances}
use Rattle.step_turn.proofs.Turns.{rests-stopped}
use Rattle.step_turn.proofs.TurnLaws.{goes_on, made-rests, turned}

-- what is proved of every machine holds of both
pub lawful_in : (k : MachineKind) → Lawful (machine_for k)
lawful_in Source = source_lawful
lawful_in Linear = linear_lawful

-- neither machine makes a step after the end
pub ended-step : (k : MachineKind) (P : Prog) (l : Located) → l.has_ended ≡ true → located_step (machine_for k) P l ≡ none
unfolding located_step project source_step_lem linear_step_lem
ended-step k P l e = go k l.has_stopped l.has_ended e
  where
    go : (k : MachineKind) (s f : Bool) → f ≡ true → unless_stopped s (follow (machine_for k) P l ((machine_for k).step P (state_of f (stmt_in P l.position) l.environment (map (cell_in P) l.cells)))) ≡ none
    go Linear true true e = refl
    go Linear false true e = refl
    go Source true true e = refl
    go Source false true e = refl
    go k s false e = let z : ◌≡◌ {A = ℕ} (bit false) (bit true) = ap bit e in absurd (omega (arith, z))

module _ {stepper : Stepper} {bytes store events : List ℕ} {h : Header} {at : ℕ} where
  pub ended-rests : h.ended ≡ true → Advances (machine_in stepper) stepper bytes store events h at store events (Err NoStep)
  ended-rests e = record { advances = λ P l v. rw (ended-step stepper.machine P l (sym (views v.reads).ended ∙ e)) no_step }

  pub stopped-rests : h.stopped ≡ true → Advances (machine_in stepper) stepper bytes store events h at store events (Err NoStep)
  stopped-rests e = record {
    advances = λ P l v. rw (stopped-step (machine_in stepper) (lawful_in stepper.machine).followed P v.readable.shallow l (sym (views v.reads).stopped ∙ e)) no_step;
  }

-- ── a rule that was asked ──

module _ {stepper : Stepper} {w w₁ : Work} {m : Result Step Stop} (ended : w.header.ended ≡ false) (stopped : w.header.stopped ≡ false) (a : MakesAs (machine_in stepper) stepper w w₁ m) where
  -- a rule may be asked where neither flag is set
  goes : (P : Prog) (l : Located) → Living (machine_in stepper) P stepper stepper.image.bytes.now w.store.now w.header l → Stored (machine_in stepper) P w.store.now w.header l
  goes P l v = goes_on (lawful_in stepper.machine) v (sym (views v.reads).ended ∙ ended) (sym (views v.reads).stopped ∙ stopped)

  pub made_as : (k : Result Step Stop) → m ≡ k → (P : Prog) (l : Located) → Living (machine_in stepper) P stepper stepper.image.bytes.now w.store.now w.header l
      → Makes w.store.now w.events.now w.at (resting (located_step (machine_in stepper) P l)) w₁.store.now w₁.events.now k
  made_as k e P l v = subst (Makes w.store.now w.events.now w.at (resting (located_step (machine_in stepper) P l)) w₁.store.now w₁.events.now) e (a.makes P l v.program (goes P l v))

  pub asked-stopped : {e : Stop} → m ≡ Err e → Advances (machine_in stepper) stepper stepper.image.bytes.now w.store.now w.events.now w.header w.at w₁.store.now w₁.events.now (Err e)
  asked-stopped {e} q = record { advances = λ P l v. rests-stopped e (made_as (Err e) q P l v) }

  module _ {step : Step} (e : m ≡ Ok step) where
    -- what was written is a state: whether the machine stops there may be asked
    pub asked-holds : Ready stepper.image.frame stepper.image.bytes.now → Lives (machine_in stepper) stepper stepper.image.bytes.now w.store.now w.header
        → (step.header.position < stepper.image.frame.count) × Holds w₁.store.now step.header
    asked-holds y z =
        let v = z.living in
        let r = (made-rests (lawful_in stepper.machine) v (made_as (Ok step) e z.program z.state v)).reads in
        (reads-inside r y v.program, reads-holds r)

    -- .. and then the step is made
    pub asked-step : {store₂ : List ℕ} {h₂ : Header} → Settles (machine_in stepper) stepper stepper.image.bytes.now w₁.store.now step.header store₂ h₂
        → Advances (machine_in stepper) stepper stepper.image.bytes.now w.store.now w.events.now w.header w.at store₂ w₁.events.now (Ok (record { header = h₂; at = step.at }))
    asked-step z = record { advances = λ P l v. turned (lawful_in stepper.machine) v (goes P l v).going z (made_as (Ok step) e P l v) }
