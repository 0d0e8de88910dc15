use Rattle.step_places.proofs.EndLaws.{HopsLeft}
use Rattle.step_places.proofs.ends.hop.Given as goal

abbrev pub invariant-loop : goal.invariant-loop
invariant-loop l = HopsLeft l.ends l.n l.from l.counter l.here
