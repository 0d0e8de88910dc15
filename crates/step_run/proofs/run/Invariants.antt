-- `run` meets its contract. Assumes nothing.
use Rattle.step_write.specs.Working.{SameBuffers}
use Rattle.step_order.specs.Sure.{SureIn}
use Rattle.step_turn.proofs.RestLaws.{lawful_in}
use Rattle.step_run.proofs.LoopLaws.{Going}
use Rattle.step_run.proofs.run.Given as goal

abbrev pub invariant-loop-made : goal.invariant-loop-made
invariant-loop-made l =
    Going (lawful_in l.stepper.machine) l.stepper l.stepper.image.bytes.now l.steps l.initial.work.store.now l.initial.work.events.now l.initial.work.header l.made l.work.store.now l.work.events.now l.work.header l.work.at
    × (SureIn l.stepper l.sure l.work.store.now l.work.header × SameBuffers l.initial.work l.work)
