-- `is_forged` meets its contract. Assumes nothing.
use Rattle.step_spec.proofs.KindLaws.{is-source, is-linear}
use Rattle.step_call.proofs.ForgedLaws.{ended_honest, stopped_honest, source_honest, linear_forged}
use Rattle.step_call.proofs.is_forged.Goals as goal
use Rattle.step_call.proofs.is_forged.Goals.{then-header-via-then-header, then-header-via-else-header+then-header-2, then-header-via-else-header+else-header-2+then-eq}

pub returns-then-header : goal.returns-then-header
returns-then-header c =
    elim c.then-header.branch [
      | then-header-via-then-header w ↦ ended_honest w.if-header.true
      | then-header-via-else-header+then-header-2 w ↦ stopped_honest w.if-header-2.true
      | then-header-via-else-header+else-header-2+then-eq w ↦ source_honest (is-source c.args.stepper.now.machine w.eq.ensures w.if-eq.true)
    ]

pub returns : goal.returns
returns c =
    linear_forged (is-linear c.args.stepper.now.machine c.eq.ensures c.if-eq.false) c.if-header.false c.if-header-2.false c.stops.ensures
