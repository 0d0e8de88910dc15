-- `statement` meets its contract. Assumes nothing.
use borrow.Author.Rules.{rules}
use mathlib.Core.Path.{ap}
use mathlib.Core.Logic.{inl, inr}
use native.Mathlib.Omega.{arith}
use Rattle.image_kinds.specs.Codes.{code_of}
use Rattle.step_dispatch.proofs.NoRule.{no-statement}
use Rattle.step_dispatch.proofs.statement.Goals as goal

pub returns-in-Definition : goal.returns-in-Definition
returns-in-Definition c = (
  no-statement c.requires.record' (λ k.
      elim c.in-Definition.is [
        | inl e ↦ omega (arith, k.0, ap code_of e)
        | inr e ↦ k.1 (ap code_of e)
      ]),
  search rules,
)
