-- `all_shallow` meets its contract. Assumes nothing.
use mathlib.Core.Path.{refl, sym, ◌∙◌}
use native.Mathlib.Omega.{arith}
use Rattle.image_directory.proofs.Places.{records-length}
use Rattle.scope_check.proofs.DefLaws.{recount, def-next, depth-turn, depth-no}
use Rattle.scope_check.proofs.definitions.all_shallow.Goals as goal

pub loop-init : goal.loop-init
loop-init c = recount {left = c.args.definitions} (omega arith) record { rest = _; stand = c.requires; holds = record { same = refl } }

pub overflow_add-at : goal.overflow_add-at
overflow_add-at c =
    let m = c.args.image.now in
    omega (arith, (def-next c.loop.invariant (omega arith)).inside, records-length m.frame m.bytes.now m.ready, m.ready.few)

pub loop-preserved : goal.loop-preserved
loop-preserved c = recount (omega arith) (depth-turn (def-next c.loop.invariant (omega arith)) _ (sym c.statement.ensures ∙ c.in-Some.is))

pub returns-in-None : goal.returns-in-None
returns-in-None c = sym (depth-no (def-next c.loop.invariant (omega arith)) (sym c.statement.ensures ∙ c.in-None.is))
