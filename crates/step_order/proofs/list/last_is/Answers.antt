-- `last_is` meets its contract. Assumes nothing.
use Prim.Native.Nat.{ℕ, suc, ◌-◌}
use mathlib.Core.Path.{◌≡◌, sym, ap, ◌∙◌}
use native.Mathlib.Omega.{arith}
use mathlib.Core.Bool.{not}
use borrow.Author.Tests.{eq-eqb}
use lib.Dec.{eqb}
use Rattle.step_rows.specs.Placing.{identified}
use Rattle.step_order.proofs.ListLaws.{last_none, last_one}
use Rattle.step_order.proofs.list.last_is.Goals as goal

pub returns-then-len-ne0 : goal.returns-then-len-ne0
returns-then-len-ne0 c =
    let a = c.args in
    let k : a.row.now.places.len ≡ suc (a.row.now.places.len - 1) = omega arith in
    ap (λ (n : ℕ). eqb n a.id) c.id_of.ensures ∙ sym (last_one a.row.now (identified a.id) (a.row.now.places.len - 1) k)

pub returns-else-len-ne0 : goal.returns-else-len-ne0
returns-else-len-ne0 c = let a = c.args in ap not (eq-eqb a.row.now.places.len 0 c.if-len-ne0.false) ∙ sym (last_none a.row.now (identified a.id) c.if-len-ne0.false)
