-- `same` meets its contract. Assumes nothing.
use Rattle.std.proofs.Common.{rules, tests, ℕ, sym, ◌∙◌, arith}
use Rattle.std.proofs.lemmas.Iterator.{YieldsList-from_range}
use Rattle.std.proofs.lemmas.Iterator.Search.{all_from_yields_List}
use Rattle.syntax.specs.Names.{same_var_id}
use Rattle.step_rows.specs.Rows.{ids_of, id_at}
use Rattle.step_rows.proofs.RowLaws.{ids-length}
use Rattle.step_rows.proofs.RowLoops.{turned-all, same_turns, same-lengths}
use Rattle.step_rows.proofs.same.Goals as goal

pub returns-then-len-other : goal.returns-then-len-other
returns-then-len-other c =
    let row = c.args.row.now in
    let other = c.args.other.now in
    same-lengths (ids_of row) (ids_of other) (λ e. c.if-len-other.true (sym (ids-length row.bytes.now row.places) ∙ (e ∙ ids-length other.bytes.now other.places)))

pub returns : goal.returns
returns c =
    let row = c.args.row.now in
    let other = c.args.other.now in
    let n = row.places.len in
    all_from_yields_List (λ (j : ℕ). same_var_id (id_at row j) (id_at other j)) _ _ c.all.result c.all.ensures.ran (YieldsList-from_range 0 n n (cc) (omega arith)) (λ y b q k. search (rules, tests))
    ∙ turned-all (same_turns row other c.if-len-other.false)
