-- `source` meets its contract. Assumes nothing.
use borrow.Author.Rules.{rules}
use native.Mathlib.Omega.{arith}
use Rattle.image_kinds.specs.declared.kinds.Kind.TheVariants.{Call, Let, Switch, Create, Invoke}
use Rattle.step_dispatch.proofs.NoRule.{other_byte, no-source-rule}
use Rattle.step_dispatch.proofs.source.Goals as goal

pub returns-in_default : goal.returns-in_default
returns-in_default c = (
  let d = c.in_default in
      no-source-rule c.requires.0.record'
      (omega (arith, c.requires.1, other_byte _ Call d.not-Call, other_byte _ Let d.not-Let, other_byte _ Switch d.not-Switch, other_byte _ Create d.not-Create, other_byte _ Invoke d.not-Invoke)),
  search rules,
)
