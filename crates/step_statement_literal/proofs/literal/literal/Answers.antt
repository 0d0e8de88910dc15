use mathlib.Core.Path.{◌≡◌, ap, ◌∙◌}
use mir.Syntax.{w64}
use mir.Val.{of_z, to_z}
use borrow.Author.Rules.{rules}
use Rattle.step_statement_literal.proofs.LiteralLaws.{literal-makes}
use Rattle.step_statement_literal.proofs.literal.literal.Goals as goal

pub returns : goal.returns
returns c = (
  record {
    makes = λ P l p o.
        let lit = c.literal-statement.result.lit in
        let z : to_z w64 (of_z w64 lit) ≡ lit = search rules in
        literal-makes c.args.stepper.now.machine p o c.literal-statement.ensures (c.cast_unsigned.ensures ∙ ap (of_z w64) z) c.bind.ensures.0;
  },
  search rules,
)
