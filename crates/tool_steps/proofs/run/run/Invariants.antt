-- `tool_steps::run::run` is safe and ends: the steps that are left fall. Assumes nothing.
use Rattle.std.proofs.Common.{◌≤◌}
use Rattle.tool_steps.proofs.run.run.Given as goal

abbrev pub invariant-loop-left : goal.invariant-loop-left
invariant-loop-left l = l.left ≤ l.steps

abbrev pub decreases-loop-left : goal.decreases-loop-left
decreases-loop-left l = l.left
