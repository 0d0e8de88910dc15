-- `stops_entering` meets its contract. Assumes nothing.
use mathlib.Core.Path.{refl}
use Rattle.step_order.proofs.HandLaws.{at_hand}
use Rattle.step_order.proofs.StopLaws.{reads-stored, others-go}
use Rattle.step_order.proofs.stops_entering.Goals as goal

pub returns-in-Call : goal.returns-in-Call
returns-in-Call c = c.call.ensures c.args.hand.now.known.now.state.store.now

pub returns-in_default : goal.returns-in_default
returns-in_default c =
    record { is = λ P l p o e g. others-go p (reads-stored o e g) c.args.hand.now.node.kind (at_hand c.args.hand.now refl) c.in_default.not-Call c.in_default.not-Switch c.in_default.not-Invoke }
