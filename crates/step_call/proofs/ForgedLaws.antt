-- Does the machine stop at a state whose flag is clear? Assumes nothing.
use Prim.Native.Nat.{ℕ}
use mathlib.Core.Path.{◌≡◌, refl, sym, ap, ap₂, ◌∙◌}
use mathlib.Core.Bool.{Bool, true, false, not, ◌&&◌}
use mathlib.Core.List.{List}
use Rattle.step_spec.specs.declared.MachineKind.{MachineKind}
use Rattle.step_spec.specs.declared.MachineKind.TheVariants.{Source, Linear}
use Rattle.step_spec.specs.Located.{project, is_stop}
use Rattle.step_spec.proofs.NeverStops.{source-never-stops}
use Rattle.step_header.specs.declared.Header.{Header}
use Rattle.step_places.specs.declared.stepper.Stepper.{Stepper}
use Rattle.step_rule.specs.Rules.{machine_for, machine_in}
use Rattle.step_order.specs.Stopping.{step_at, StopsBy}
use Rattle.step_settle.proofs.SettleLaws.{ended-goes}
use Rattle.step_rule.proofs.Views.{views}
use Rattle.step_call.specs.Stepping.{Forged}

no_stop : (b c : Bool) → c ≡ false → false ≡ (not b && c)
no_stop true c e = refl
no_stop false c e = sym e

module _ {stepper : Stepper} {bytes store : List ℕ} {h : Header} where
  pub ended_honest : h.ended ≡ true → Forged stepper bytes store h false
  ended_honest e = record { is = λ P l p o. no_stop l.has_stopped _ (ended-goes stepper.machine o e) }

  pub stopped_honest : h.stopped ≡ true → Forged stepper bytes store h false
  stopped_honest e = record {
    is = λ P l p o.
        ap (λ (b : Bool). not b && is_stop ((machine_in stepper).step P (project P l))) (sym (sym (views o).stopped ∙ e));
  }

  pub source_honest : stepper.machine ≡ Source → Forged stepper bytes store h false
  source_honest e = record {
    is = λ P l p o.
        no_stop l.has_stopped _ (ap (λ (kind : MachineKind). is_stop ((machine_for kind).step P (project P l))) e ∙ source-never-stops P (project P l));
  }

  pub linear_forged : stepper.machine ≡ Linear → h.ended ≡ false → h.stopped ≡ false → {b : Bool} → StopsBy step_at stepper bytes store h b → Forged stepper bytes store h b
  linear_forged e f g {b} s = record {
    is = λ P l p o.
        let c = sym (views o).stopped ∙ g in
        s.is P l p o (sym (views o).ended ∙ f) c
        ∙ ap₂ {C = Bool} (λ (z : Bool) (kind : MachineKind). not z && is_stop ((machine_for kind).step P (project P l))) (sym c) (sym e);
  }
