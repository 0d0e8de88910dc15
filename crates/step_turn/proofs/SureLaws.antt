-- Of what the linear stepper is sure before a step, it is sure after it: a step keeps the IDs of its list distinct. Assumes nothing.
use Rattle.std.specs.Prelude.{Result, Ok}
use Prim.Native.Nat.{ℕ}
use mathlib.Core.Path.{◌≡◌, refl, sym, ap, ◌∙◌}
use mathlib.Core.Bool.{Bool, false}
use mathlib.Core.List.{List}
use mathlib.Core.Option.{some}
use Rattle.syntax.specs.Sets.{distinct}
use Rattle.model.specs.Syntax.{Prog}
use Rattle.model.specs.Machine.{keys}
use Rattle.step_spec.specs.declared.MachineKind.{MachineKind}
use Rattle.step_spec.specs.Located.{Located, Stepped, located_step}
use Rattle.step_spec.proofs.StaysDistinct.{located-stays-distinct}
use Rattle.step_header.specs.declared.Header.{Header}
use Rattle.step_write.specs.declared.Step.{Step}
use Rattle.step_write.specs.declared.Work.{Work}
use Rattle.step_write.specs.declared.Stop.{Stop}
use Rattle.step_places.specs.declared.stepper.Stepper.{Stepper}
use Rattle.step_rule.specs.Rules.{machine_for, machine_in, Reads, MakesAs}
use Rattle.step_rule.proofs.Views.{views}
use Rattle.step_order.specs.Sure.{SureIn}
use Rattle.step_order.proofs.InOrderLaws.{view-keys}
use Rattle.step_turn.specs.Turning.{Lives, Advances}
use Rattle.step_turn.proofs.TurnLaws.{made-rests, made-living}
use Rattle.step_turn.proofs.RestLaws.{lawful_in, made_as}

-- whatever the stopped flag of the state that was written
sure_next : (stepper : Stepper) {P : Prog} {store store' : List ℕ} {h h' : Header} {l l' : Located} {r : Stepped} {sure : Bool} → Reads P store h l
    → located_step (machine_in stepper) P l ≡ some r → Reads P store' h' l' → l'.environment ≡ r.1.environment → SureIn stepper sure store h → SureIn stepper sure store' h'
sure_next stepper {P} {l = l} {r = r} o e o' q f linear t =
    ap distinct (view-keys (views o') ∙ ap keys q)
    ∙ located-stays-distinct P l r (ap (λ (k : MachineKind). located_step (machine_for k) P l) (sym linear) ∙ e) (ap distinct (sym (view-keys (views o))) ∙ f linear t)

-- a rule's step
pub asked_sure : {stepper : Stepper} {w w₁ : Work} {step : Step} {m : Result Step Stop} {sure : Bool} → w.header.ended ≡ false → w.header.stopped ≡ false
    → MakesAs (machine_in stepper) stepper w w₁ m → m ≡ Ok step → Lives (machine_in stepper) stepper stepper.image.bytes.now w.store.now w.header → SureIn stepper sure w.store.now w.header
    → SureIn stepper sure w₁.store.now step.header
asked_sure {stepper} {step = step} ended stopped a e z f =
    let v = z.living in
    let r = made-rests (lawful_in stepper.machine) v (made_as ended stopped a (Ok step) e z.program z.state v) in
    sure_next stepper v.reads r.is r.reads refl f

-- a turn's
pub advance_sure : {stepper : Stepper} {bytes store : List ℕ} {h : Header} {events store' events' : List ℕ} {at : ℕ} {step : Step} {sure : Bool}
    → Advances (machine_in stepper) stepper bytes store events h at store' events' (Ok step)
    → Lives (machine_in stepper) stepper bytes store h → SureIn stepper sure store h → SureIn stepper sure store' step.header
advance_sure {stepper} a w f =
    let v = w.living in
    let x = made-living (lawful_in stepper.machine) v (a.advances w.program w.state v) in
    sure_next stepper v.reads x.0.is x.1.reads refl f
