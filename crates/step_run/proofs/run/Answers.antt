-- `run` meets its contract. Assumes nothing.
use mathlib.Core.Path.{◌≡◌, refl}
use native.Mathlib.Omega.{arith}
use borrow.Author.Rules.{rules}
use Rattle.step_turn.proofs.RestLaws.{lawful_in}
use Rattle.step_turn.proofs.SureLaws.{advance_sure}
use Rattle.step_run.proofs.LoopLaws.{advances_as, is_full, going_next, going-stops, going-all}
use Rattle.step_run.proofs.run.Goals as goal
use Rattle.step_run.proofs.run.Goals.{After-eq}

full_is : (c : After-eq) → c.eq.result ≡ is_full c.in-Err.stop
full_is c = search rules

pub returns-in-Err : goal.returns-in-Err
returns-in-Err c = (
  let a = c.args in
      rw c.advance.ensures.1.1.1 (going-stops (lawful_in a.stepper.now.machine) a.stepper.now a.stepper.now.image.bytes.now a.steps a.work.now.store.now a.work.now.events.now a.work.now.header c.loop-made.invariant.0 c.loop-made-test.true _ refl
      c.in-Err.stop (full_is (goal.at.returns-in-Err c).After-eq) (advances_as c.advance.ensures.0 c.in-Err.is)),
  search rules,
)

pub loop-made-preserved : goal.loop-made-preserved
loop-made-preserved c =
    let a = c.args in
    let i = c.loop-made.invariant in
    let e = advances_as c.advance.ensures.0 c.in-Ok.is in
    let g = going_next (lawful_in a.stepper.now.machine) a.stepper.now a.stepper.now.image.bytes.now a.steps a.work.now.store.now a.work.now.events.now a.work.now.header i.0 c.loop-made-test.true e in
    (g, (advance_sure e i.0.lives i.1.0, search rules))

pub returns : goal.returns
returns c = (
  let a = c.args in
      going-all (lawful_in a.stepper.now.machine) a.stepper.now a.stepper.now.image.bytes.now a.steps a.work.now.store.now a.work.now.events.now a.work.now.header _
      (omega (arith, c.loop-made.auto.made-end, c.loop-made-test.false)) c.loop-made-test.false c.loop-made.invariant.0,
  search rules,
)
