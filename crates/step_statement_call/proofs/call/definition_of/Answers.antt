-- `definition_of` meets its contract. Assumes nothing.
use Rattle.std.specs.Prelude.{Some, None}
use mathlib.Core.Path.{refl}
use Rattle.step_enter.specs.Entering.{absent}
use Rattle.step_statement_call.proofs.call.definition_of.Goals as goal

pub returns-in_err-j : goal.returns-in_err-j
returns-in_err-j c = rw c.from_residual.ensures record { found = None; finds = c.in_err-j.ensures; reads = absent }

pub invariant_of-node : goal.invariant_of-node
invariant_of-node c = record { there = c.in_ok-j.ensures.at c.in_ok-j.j refl }

pub returns : goal.returns
returns c = record { found = Some c.in_ok-j.j; finds = c.in_ok-j.ensures; reads = c.parameters_of.ensures }
