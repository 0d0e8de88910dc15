-- `clause_of` meets its contract. Assumes nothing.
use Prim.Native.Nat.{ℕ, ◌+◌}
use mathlib.Core.Path.{subst}
use native.Mathlib.Omega.{arith}
use Rattle.step_places.specs.Searches.{FindsClause}
use Rattle.step_places.proofs.SearchLaws.{place_none}
use Rattle.step_order.proofs.parts.clause_of.Goals as goal

pub returns-then-stepper-i : goal.returns-then-stepper-i
returns-then-stepper-i c = record { at = place_none 11; finds = λ h. absurd (omega (arith, h, c.if-stepper-i.true)) }

pub returns : goal.returns
returns c =
    let f = c.find_clause.ensures in
    let a = c.args in
    record { at = f.at; finds = λ h. subst (λ (n : ℕ). FindsClause a.stepper.now.image.frame a.stepper.now.image.bytes.now n (a.i + 1) a.tag c.find_clause.result) c.parts_of-follows.ensures.clauses f }
