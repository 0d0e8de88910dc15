-- A call by what its questions gave: the refusal, or what is answered for the program. Stated for any answer that goes by the machine and the
-- reading, as `starting` and `stepping` do. Assumes nothing.
use Prim.Native.Nat.{ℕ}
use mathlib.Core.Path.{◌≡◌, refl, sym, ap, ap₂, ◌∙◌, subst}
use mathlib.Core.List.{List}
use Rattle.model.specs.Syntax.{Prog}
use Rattle.image_spec.specs.declared.Layout.{Layout}
use Rattle.image_spec.specs.declared.Refusal.{Refusal}
use Rattle.image_spec.specs.Reading.{Reading, refuse, accept}
use Rattle.image_open.specs.Opening.{Known}
use Rattle.image_open.specs.declared.opened.Opened.{Opened}
use Rattle.step_spec.specs.declared.MachineKind.{MachineKind}
use Rattle.step_spec.specs.declared.MachineKind.TheVariants.{Source, Linear}
use Rattle.step_spec.specs.Located.{Machine}
use Rattle.step_spec.specs.Calls.{Result}
use Rattle.step_spec.proofs.Stepping.{Readable, read-readable, check_readable}
use Rattle.step_rule.specs.Rules.{ImageOf, machine_for}
use Rattle.step_ask.specs.Asking.{stepper_of, Asks, closed, opened}
use Rattle.std.specs.Prelude.{Ok, Err}
use Rattle.step_answer_spec.specs.Saying.{Accepted}

module _ {L : Layout} (known : Known L) where
  readable_of : (kind : MachineKind) (bytes : List ℕ) (P : Prog) → (stepper_of kind L).asks bytes ≡ accept P → Readable P
  readable_of Linear bytes P e = read-readable L (known.id.1) bytes P e
  readable_of Source bytes P e = check_readable L (known.id.1) bytes P e

  machine-of : (kind : MachineKind) → machine_for kind ≡ (stepper_of kind L).machine
  machine-of Linear = refl
  machine-of Source = refl

  -- what the questions leave known
  pub accepted : {kind : MachineKind} {bytes : List ℕ} {o : Opened} → Asks L kind bytes (Ok o) → Accepted o.image.frame o.definitions o.image.bytes.now
  accepted {kind} {bytes} {o} (opened P e p q) = record { program = P; is = subst (ImageOf P o.image.frame o.definitions) (sym q) p; readable = readable_of kind bytes P e }

  module _ (answer : Machine → Reading → Result) where
    pub answers-accepted : {kind : MachineKind} {bytes : List ℕ} {o : Opened} → Asks L kind bytes (Ok o) → {x : Result}
        → ((P : Prog) → ImageOf P o.image.frame o.definitions o.image.bytes.now → Readable P → x ≡ answer (machine_for kind) (accept P))
        → x ≡ answer (stepper_of kind L).machine ((stepper_of kind L).asks bytes)
    answers-accepted {kind} {bytes} {o} (opened P e p q) {x} f =
        f P (subst (ImageOf P o.image.frame o.definitions) (sym q) p) (readable_of kind bytes P e) ∙ ap₂ {C = Result} answer (machine-of kind) (sym e)

    pub answers-refused : {kind : MachineKind} {bytes : List ℕ} {q : Refusal} → Asks L kind bytes (Err q)
        → answer (stepper_of kind L).machine (refuse q) ≡ answer (stepper_of kind L).machine ((stepper_of kind L).asks bytes)
    answers-refused {kind} (closed e) = ap (answer (stepper_of kind L).machine) (sym e)
