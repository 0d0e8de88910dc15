-- `search` meets its contract. Assumes nothing.
use Rattle.std.proofs.Common.{rules, tests, ℕ, ◌∙◌, arith}
use Rattle.std.proofs.lemmas.Iterator.{YieldsList-from_range}
use Rattle.std.proofs.lemmas.Iterator.Search.{any_from_yields_List}
use Rattle.syntax.specs.Names.{same_var_id}
use Rattle.step_rows.specs.Rows.{id_at}
use Rattle.step_rows.specs.Placing.{identified}
use Rattle.step_rows.proofs.RowLoops.{elem-listed}
use Rattle.step_rows.proofs.search.Goals as goal

pub returns : goal.returns
returns c =
    let a = c.args in
    let row = a.row.now in
    let x = identified a.id in
    let n = row.places.len in
    any_from_yields_List (λ (j : ℕ). same_var_id x (id_at row j)) _ _ c.any.result c.any.ensures.ran (YieldsList-from_range 0 n n (cc) (omega arith)) (λ y b q k. search (rules, tests))
    ∙ elem-listed row x 0 n (omega arith)
