-- `answer` meets its contract. Assumes nothing.
use mathlib.Core.Path.{sym, ap}
use mathlib.Core.Bool.{Bool}
use Rattle.step_call.specs.Stepping.{said_if}
use Rattle.step_call.proofs.answer.Goals as goal

pub returns-then-ran : goal.returns-then-ran
returns-then-ran c = sym (ap (λ (b : Bool). said_if b c.args.ran.steps c.args.ran.length) c.if-ran.true)

pub returns : goal.returns
returns c = sym (ap (λ (b : Bool). said_if b c.args.ran.steps c.args.ran.length) c.if-ran.false)
