use Rattle.std.proofs.Common.{rules, tests, ℕ, ◌*◌, ◌∙◌, arith}
use Rattle.std.proofs.lemmas.Iterator.{YieldsList-from_range}
use Rattle.std.proofs.lemmas.Iterator.Search.{all_from_yields_List}
use Rattle.step_slots.specs.Views.{slot_at}
use Rattle.step_values.specs.Values.{given_ok_lem}
use Rattle.step_values.proofs.ValueLaws.{given-listed}
use Rattle.step_values.proofs.every_given.Goals as goal

pub returns : goal.returns
returns c =
    let s = c.args.values.now in
    let n = c.args.n in
    all_from_yields_List (λ (j : ℕ). given_ok_lem (slot_at s (16 * j))) _ _ c.all.result c.all.ensures.ran (YieldsList-from_range 0 n n (cc) (omega arith)) (λ x b q k. search (rules, tests))
    ∙ given-listed s 0 n
