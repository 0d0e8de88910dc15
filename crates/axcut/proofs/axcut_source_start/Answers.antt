-- `axcut_source_start` meets its contract. Assumes nothing.
use mathlib.Core.Path.{sym, subst}
use Rattle.image_open.specs.Opening.{Known}
use Rattle.image_open.proofs.OpenedLaws.{layout1-known}
use Rattle.step_spec.specs.declared.MachineKind.TheVariants.{Source}
use Rattle.axcut.proofs.StepLaws.{told-start}
use Rattle.axcut.proofs.axcut_source_start.Goals as goal

pub start-requires : goal.start-requires
start-requires c = subst Known (sym c.one.ensures) layout1-known

pub returns : goal.returns
returns c =
    let a = c.args in
    told-start Source c.one.ensures c.start.result a.image.now a.definition a.values.now a.store.now c.start.ensures c.number_of.ensures
