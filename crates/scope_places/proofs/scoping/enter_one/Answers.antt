-- `enter_one` meets its contract. Assumes nothing.
use mathlib.Core.Path.{◌≡◌, refl, ap, ◌∙◌}
use mathlib.Core.Bool.{not, ◌&&◌}
use lib.Dec.{leb}
use Rattle.syntax.specs.Sets.{elem}
use Rattle.scope_places.specs.Scoping.{scope_of}
use Rattle.scope_places.proofs.EnterLaws.{entered-room, entered-full}
use Rattle.scope_places.proofs.scoping.enter_one.Goals as goal
use Rattle.scope_places.proofs.scoping.enter_one.Goals.{then-verdict, else-verdict, then-verdict-2, else-verdict-2}

pub returns-then-n-lt-MAX : goal.returns-then-n-lt-MAX
returns-then-n-lt-MAX c =
    let a = c.args in
    let p : c.if-verdict.binders ≡ (a.verdict.binders && not (elem a.id (scope_of a.scope.now))) = elim c.if-verdict.branch [
      | then-verdict w ↦ rw w.if-verdict.true (w.binders-is ∙ ap not w.contains.ensures)
      | else-verdict w ↦ rw w.if-verdict.false (w.binders-is ∙ w.if-verdict.false)
    ] in
    let q : c.if-verdict-2.ids ≡ (a.verdict.ids && leb a.id.0 a.max_id) = elim c.if-verdict-2.branch [
      | then-verdict-2 w ↦ rw w.if-verdict-2.true w.ids-is
      | else-verdict-2 w ↦ rw w.if-verdict-2.false (w.ids-is ∙ w.if-verdict-2.false)
    ] in
    entered-room a.max_id a.id a.scope.now _ a.verdict c.if-n-lt-MAX.true refl refl refl p q

pub returns : goal.returns
returns c =
    let a = c.args in
    entered-full a.max_id a.id a.scope.now a.verdict c.if-n-lt-MAX.false
