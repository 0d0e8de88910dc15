-- `stops` meets its contract. Assumes nothing.
use mathlib.Core.Path.{ap, ◌∙◌}
use mathlib.Core.Bool.{not}
use Rattle.step_order.proofs.InOrderLaws.{orders}
use Rattle.step_order.proofs.StopLaws.{reads-stored, in_order-stops, out-of_order_stops}
use Rattle.step_order.proofs.stops.Goals as goal

pub returns-then-not-in_order : goal.returns-then-not-in_order
returns-then-not-in_order c = record { is = λ P l p o e g. ap not c.if-not-in_order.true ∙ out-of_order_stops P l e (orders (reads-stored o e g) p c.in_order.ensures) c.if-not-in_order.true }

pub returns-else-not-in_order : goal.returns-else-not-in_order
returns-else-not-in_order c = record {
  is = λ P l p o e g.
      in_order-stops P l e (orders (reads-stored o e g) p c.in_order.ensures) c.if-not-in_order.false (c.stops_entering.ensures.is P l p o e g);
}
