-- `differ` meets its contract. Assumes nothing.
use Rattle.std.proofs.Common.{rules, tests, ℕ, ◌+◌, drop, not, ◌∙◌, arith}
use Rattle.std.proofs.lemmas.Iterator.{YieldsList-from_range}
use Rattle.std.proofs.lemmas.Iterator.Search.{all_from_yields_List}
use Rattle.syntax.specs.Sets.{elem}
use Rattle.step_rows.specs.Rows.{ids_of, id_at}
use Rattle.step_rows.proofs.RowLoops.{turned-all, distinct_turns}
use Rattle.step_rows.proofs.differ.Goals as goal

pub returns : goal.returns
returns c =
    let row = c.args.row.now in
    let n = row.places.len in
    all_from_yields_List (λ (j : ℕ). not (elem (id_at row j) (drop (j + 1) (ids_of row)))) _ _ c.all.result c.all.ensures.ran (YieldsList-from_range 0 n n (cc) (omega arith)) (λ y b q k. search (rules, tests))
    ∙ turned-all (distinct_turns row)
