-- `linear` meets its contract. Assumes nothing.
use borrow.Author.Rules.{rules}
use native.Mathlib.Omega.{arith}
use Rattle.image_kinds.specs.declared.kinds.Kind.TheVariants.{Substitute, Call, Let, Switch, Create, Invoke}
use Rattle.step_dispatch.proofs.NoRule.{other_byte, no-statement}
use Rattle.step_dispatch.proofs.linear.Goals as goal

pub returns-in_default : goal.returns-in_default
returns-in_default c = (
  let d = c.in_default in
      no-statement c.requires.0.record' (λ k. absurd (omega (
        arith,
        k.0,
        c.requires.1,
        other_byte _ Substitute d.not-Substitute,
        other_byte _ Call d.not-Call,
        other_byte _ Let d.not-Let,
        other_byte _ Switch d.not-Switch,
        other_byte _ Create d.not-Create,
        other_byte _ Invoke d.not-Invoke,
      ))),
  search rules,
)
