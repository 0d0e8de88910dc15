use Rattle.std.proofs.Common.{w64}
use Rattle.std.proofs.lemmas.Int.{to_z-of_z}
use lib.Signed.{rem_z}
use Rattle.model.specs.Integers.{eval_op}
use Rattle.step_arithmetic.proofs.Quotients.{checked}
use Rattle.step_arithmetic.proofs.division.remainder.Goals as goal

pub returns : goal.returns
unfolding eval_op
returns c =
    let a = c.args.a in
    let b = c.args.b in
    checked a b c.ranges.a c.ranges.b c.checked_rem.result (rem_z a b) (rw (to_z-of_z w64 a c.ranges.a, to_z-of_z w64 b c.ranges.b) at c.checked_rem.ensures)
