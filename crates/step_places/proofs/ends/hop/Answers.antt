use Rattle.step_places.proofs.EndLaws.{hops-start, hops-turn, hops-done}
use Rattle.step_places.proofs.ends.hop.Goals as goal

pub loop-init : goal.loop-init
loop-init c = hops-start

pub loop-preserved : goal.loop-preserved
loop-preserved c = hops-turn c.loop.invariant c.loop-test.true c.behind-here.ensures

pub returns : goal.returns
returns c = hops-done c.loop.invariant c.loop-test.false
