-- `all_are` meets its contract. Assumes nothing.
use Rattle.std.proofs.Common.{rules, tests, ℕ, ◌∙◌, arith}
use Rattle.std.proofs.lemmas.Iterator.{YieldsList-from_range}
use Rattle.std.proofs.lemmas.Iterator.Search.{all_from_yields_List}
use Rattle.syntax.specs.Sets.{elem}
use Rattle.syntax.specs.declared.names.VarId.{VarId}
use Rattle.step_rows.specs.Rows.{ids_of, id_at}
use Rattle.step_rows.specs.Apart.{agrees}
use Rattle.step_rows.proofs.RowLoops.{turned-all, every_turns, agrees_is}
use Rattle.step_rows.proofs.all_are.Goals as goal

pub returns : goal.returns
returns c =
    let row = c.args.row.now in
    let p = λ (x : VarId). agrees c.args.wanted (elem x (ids_of c.args.other.now)) in
    let n = row.places.len in
    all_from_yields_List (λ (j : ℕ). p (id_at row j)) _ _ c.all.result c.all.ensures.ran (YieldsList-from_range 0 n n (cc) (omega arith)) (λ y b q k. search (rules, tests, agrees_is))
    ∙ turned-all (every_turns row p)
