-- `clause_of` meets its contract. Assumes nothing.
use mathlib.Core.Path.{refl}
use Rattle.step_enter.specs.Entering.{absent}
use Rattle.step_enter.proofs.ParameterLaws as laws
use Rattle.step_enter.proofs.clause_of.Goals as goal

pub returns-in_err-j : goal.returns-in_err-j
returns-in_err-j c = rw c.from_residual.ensures (laws.clause-of refl c.parts_of-follows.ensures c.in_err-j.ensures absent)

pub invariant_of-node : goal.invariant_of-node
invariant_of-node c = record { there = c.in_ok-j.ensures.at c.in_ok-j.j refl }

pub returns : goal.returns
returns c = laws.clause-of refl c.parts_of-follows.ensures c.in_ok-j.ensures c.parameters_of.ensures
