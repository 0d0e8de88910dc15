-- `not_again` meets its contract. Assumes nothing.
use Prim.Native.Nat.{ℕ, ◌+◌}
use mathlib.Core.Path.{ap, ap₂, ◌∙◌, sym}
use mathlib.Core.Bool.{not}
use mathlib.Core.List.{List}
use Rattle.syntax.specs.Sets.{elem}
use Rattle.syntax.specs.declared.names.VarId.{VarId}
use Rattle.step_rows.specs.declared.places.Places.{Places}
use Rattle.step_rows.specs.Placing.{identified, ids_in}
use Rattle.step_rows.proofs.RowLaws.{ids-behind}
use Rattle.step_rows.proofs.not_again.Goals as goal

pub search-requires : goal.search-requires
search-requires c = c.requires.0 ∙ sym (ap (λ (p : Places). p.width) c.behind-rest.ensures.places)

pub returns : goal.returns
returns c =
    let row = c.args.row.now in
    let rest = ap₂ ids_in c.behind-rest.ensures.bytes c.behind-rest.ensures.places ∙ ids-behind row.bytes.now row.places (c.args.j + 1) in
    ap not (c.search.ensures ∙ ap₂ (λ (n : ℕ) (l : List VarId). elem (identified n) l) c.id_at.ensures rest)
