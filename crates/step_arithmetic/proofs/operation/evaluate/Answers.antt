use Rattle.std.proofs.Common.{sym, ◌∙◌, w64}
use Rattle.syntax.specs.declared.op.BinOp.TheVariants.{Div, Prod, Rem, Sum, Sub}
use Rattle.model.specs.Integers.{eval_op}
use Rattle.std.proofs.lemmas.Int.{to_z-of_z}
use Rattle.step_arithmetic.proofs.Operations.{asked}
use Rattle.step_arithmetic.proofs.operation.evaluate.Goals as goal

pub returns-in-Div : goal.returns-in-Div
returns-in-Div c =
    rw c.in-Div.is (c.quotient.ensures ∙ asked c.args.a c.args.b c.ranges.a c.ranges.b (eval_op Div))

pub returns-in-Prod : goal.returns-in-Prod
returns-in-Prod c =
    rw (c.in-Prod.is, to_z-of_z w64 c.product.result (record { sfits = c.product.type_inv })) (sym c.product.ensures ∙ asked c.args.a c.args.b c.ranges.a c.ranges.b (eval_op Prod))

pub returns-in-Rem : goal.returns-in-Rem
returns-in-Rem c =
    rw c.in-Rem.is (c.remainder.ensures ∙ asked c.args.a c.args.b c.ranges.a c.ranges.b (eval_op Rem))

pub returns-in-Sum : goal.returns-in-Sum
returns-in-Sum c =
    rw (c.in-Sum.is, to_z-of_z w64 c.sum.result (record { sfits = c.sum.type_inv })) (sym c.sum.ensures ∙ asked c.args.a c.args.b c.ranges.a c.ranges.b (eval_op Sum))

pub returns-in-Sub : goal.returns-in-Sub
returns-in-Sub c =
    rw (c.in-Sub.is, to_z-of_z w64 c.difference.result (record { sfits = c.difference.type_inv })) (sym c.difference.ensures ∙ asked c.args.a c.args.b c.ranges.a c.ranges.b (eval_op Sub))
