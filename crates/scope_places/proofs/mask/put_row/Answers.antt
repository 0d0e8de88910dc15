-- `put_row` meets its contract. Assumes nothing.
use native.Mathlib.Omega.{arith}
use Rattle.scope_spec.proofs.PairLaws.{masks-set, masks-past}
use Rattle.scope_places.proofs.mask.put_row.Goals as goal

pub returns-then-i-rows : goal.returns-then-i-rows
returns-then-i-rows c = masks-set c.args.rows.now c.args.i c.args.row

pub returns-else-i-rows : goal.returns-else-i-rows
returns-else-i-rows c = masks-past c.args.rows.now c.args.i c.args.row (omega arith)
