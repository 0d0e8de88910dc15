-- `use_one` meets its contract. Assumes nothing.
use mathlib.Core.Path.{◌≡◌, ◌∙◌}
use mathlib.Core.Bool.{not, ◌&&◌}
use lib.Dec.{eqb}
use Rattle.scope_places.specs.Views.{viewed}
use Rattle.scope_places.proofs.UseLaws.{used-one}
use Rattle.scope_places.proofs.scoping.use_one.Goals as goal
use Rattle.scope_places.proofs.scoping.use_one.Goals.{then-u, else-u}

pub returns : goal.returns
returns c =
    let a = c.args in
    let e : c.if-u.uses ≡ (a.u.verdict.uses && not (eqb c.mask_one-one.result 0)) = elim c.if-u.branch [
      | then-u w ↦ rw w.if-u.true w.uses-is
      | else-u w ↦ rw w.if-u.false (w.uses-is ∙ w.if-u.false)
    ] in
    used-one (viewed a.scope.now) a.id a.u c.mask_one-one.ensures e
