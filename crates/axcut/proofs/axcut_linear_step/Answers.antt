-- `axcut_linear_step` meets its contract. Assumes nothing.
use mathlib.Core.Path.{sym, subst}
use Rattle.image_open.specs.Opening.{Known}
use Rattle.image_open.proofs.OpenedLaws.{layout1-known}
use Rattle.step_spec.specs.declared.MachineKind.TheVariants.{Linear}
use Rattle.axcut.proofs.StepLaws.{told-steps}
use Rattle.axcut.proofs.axcut_linear_step.Goals as goal

pub step-requires : goal.step-requires
step-requires c = subst Known (sym c.one.ensures) layout1-known

pub returns : goal.returns
returns c =
    let a = c.args in
    told-steps Linear c.one.ensures c.step.result a.image.now a.steps a.store.now a.events.now c.step.ensures c.tell_steps.ensures
