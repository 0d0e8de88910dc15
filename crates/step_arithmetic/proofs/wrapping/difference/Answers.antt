use Rattle.std.proofs.Common.{◌-ℤ◌, sym, ap, ◌∙◌, w64}
use Rattle.std.proofs.Math.Option.{some}
use Rattle.std.proofs.lemmas.Int.{wrapping_sub_is}
use Rattle.model.specs.Integers.{eval_op}
use Rattle.step_arithmetic.proofs.Wraps.{wrap-is}
use Rattle.step_arithmetic.proofs.wrapping.difference.Goals as goal

pub returns : goal.returns
unfolding eval_op
returns c =
    ap some (sym (wrap-is (c.args.a -ℤ c.args.b)) ∙ sym (wrapping_sub_is w64 c.args.a c.args.b c.ranges.a c.ranges.b))
