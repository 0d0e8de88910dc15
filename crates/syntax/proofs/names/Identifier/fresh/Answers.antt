-- `Identifier::fresh` meets its contract. Assumes nothing.
use native.Mathlib.Omega.{arith}
use Rattle.syntax.proofs.Drawing.{fresh-above}
use mathlib.Core.Path.{refl}
use Rattle.syntax.specs.Fresh.{fresh}
use Rattle.syntax.proofs.names.Identifier.fresh.Goals as goal

pub overflow_add-result : goal.overflow_add-result
overflow_add-result c = omega (arith, fresh-above c.args.max_id.0)

pub returns : goal.returns
unfolding fresh
returns c = refl
