-- `settle` meets its contract. Assumes nothing.
use mathlib.Core.Path.{sym, ◌∙◌}
use Rattle.step_spec.specs.Located.{project}
use Rattle.step_spec.proofs.KindLaws.{is-source, is-linear}
use Rattle.step_spec.proofs.NeverStops.{source-never-stops}
use Rattle.step_rule.proofs.Views.{views}
use Rattle.step_settle.proofs.SettleLaws.{settles_as, settles-same, settles-stopped, ended-goes}
use Rattle.step_settle.proofs.settle.Goals as goal
use Rattle.step_settle.proofs.settle.Goals.{then-header-via-then-header, then-header-via-else-header+then-eq}

pub returns-then-header : goal.returns-then-header
returns-then-header c =
    let k = c.args.stepper.now.machine in
    elim c.then-header.branch [
      | then-header-via-then-header w ↦ settles-same (λ P l p o s. ended-goes k o w.if-header.true)
      | then-header-via-else-header+then-eq w ↦ settles_as (is-source k w.eq.ensures w.if-eq.true) (settles-same (λ P l p o s. source-never-stops P (project P l)))
    ]

pub returns-then-stops : goal.returns-then-stops
returns-then-stops c =
    settles_as (is-linear c.args.stepper.now.machine c.eq.ensures c.if-eq.false)
    (settles-stopped (λ P l p o s. sym (c.stops.ensures.is P l p o (sym (views o).ended ∙ c.if-header.false) s) ∙ c.if-stops.true) c.stop.ensures.0 c.stop.ensures.1)

pub returns : goal.returns
returns c =
    settles_as (is-linear c.args.stepper.now.machine c.eq.ensures c.if-eq.false)
    (settles-same (λ P l p o s. sym (c.stops.ensures.is P l p o (sym (views o).ended ∙ c.if-header.false) s) ∙ c.if-stops.false))
