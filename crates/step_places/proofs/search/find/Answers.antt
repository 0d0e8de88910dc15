use Rattle.step_places.proofs.SearchLaws.{search_start, search_absent, search_found, search_next}
use Rattle.step_places.proofs.search.find.Goals as goal

pub loop-init : goal.loop-init
loop-init c = search_start _ _

pub is_named-requires : goal.is_named-requires
is_named-requires c = c.requires

pub returns-then-is_named : goal.returns-then-is_named
returns-then-is_named c = search_found c.loop.invariant c.requires c.loop-test.true c.is_named.ensures c.if-is_named.true c.args.stepper.now.image.ready

pub loop-preserved : goal.loop-preserved
loop-preserved c = search_next c.loop.invariant c.requires c.loop-test.true c.is_named.ensures c.if-is_named.false c.args.stepper.now.right c.behind-here.ensures

pub returns : goal.returns
returns c = search_absent c.loop.invariant c.loop-test.false
