use mathlib.Core.Path.{◌≡◌, refl}
use Prim.Native.Nat.{◌*◌}
use borrow.Author.Tests.{eq-eqb, ne_eqb}
use native.Mathlib.Omega.{arith}
use lib.ListN.{length}
use Rattle.step_values.specs.Values.{are_given_lem}
use Rattle.step_values.proofs.are_given.Goals as goal
use Rattle.step_values.proofs.are_given.Goals.{then-len-ne0-via-then-len-ne0, then-len-ne0-via-else-len-ne0+then-len-n}

pub returns-then-len-ne0 : goal.returns-then-len-ne0
unfolding are_given_lem
returns-then-len-ne0 c =
    let a = c.args in
    let k : length a.values.now ≡ 16 * a.n → ⊥ = λ e. elim c.then-len-ne0.branch [
      | then-len-ne0-via-then-len-ne0 w ↦ w.if-len-ne0.true (omega (arith, e))
      | then-len-ne0-via-else-len-ne0+then-len-n w ↦ w.if-len-n.true (omega (arith, e))
    ] in
    rw (ne_eqb _ _ k) refl

pub returns : goal.returns
unfolding are_given_lem
returns c =
    let a = c.args in
    let k : length a.values.now ≡ 16 * a.n = omega (arith, c.if-len-ne0.false, c.if-len-n.false) in
    rw (eq-eqb _ _ k) c.every_given.ensures
