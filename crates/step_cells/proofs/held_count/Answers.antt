-- `held_count` meets its contract. Assumes nothing.
use Rattle.std.proofs.Common.{rules, tests, ℕ, ◌≡◌, ◌+◌, ◌*◌, ◌-◌, ◌≤◌, ◌<◌, ◌∙◌, ap, arith}
use Rattle.std.specs.Prelude.{unwrap_or}
use Rattle.std.proofs.lemmas.Iterator.{first_from_Range, serves_from_Range}
use lib.ListN.{length, drop, get_or}
use Rattle.step_slots.specs.Views.{slots_at}
use Rattle.step_spec.specs.Store.{leading}
use Rattle.step_cells.proofs.HeldLaws.{counted_none, counted_found}
use Rattle.step_cells.proofs.held_count.Goals as goal
use Rattle.step_cells.proofs.held_count.Goals.{After-find}

pub find-requires : goal.find-requires
find-requires c = record { can = tt; finite = tt; callable = serves_from_Range (λ x q k. search (rules, tests)) (λ x low high. search (rules, arith)) }

-- the end that was found
found : (c : After-find) →
    let a = c.args in
    let s = a.heap.now.store.now in
    let n = a.heap.now.count in
    let e = unwrap_or c.find.result n in
    (a.place + 1 ≤ e) × (e - (a.place + 1) ≡ length (leading (drop (a.place + 1) (slots_at s 64 n))))
found c =
    let a = c.args in
    let s = a.heap.now.store.now in
    let n = a.heap.now.count in
    counted_found s n a.place (counted_none s n a.place c.requires.0 c.requires.1) c.requires.0 c.find.result
    (first_from_Range _ _ _ _ (λ (i : ℕ). 3 ≤ get_or s (64 + 16 * i) 0) (λ (i : ℕ). get_or s (64 + 16 * i) 0 < 3) c.find.ensures.ran
    (λ x q k. grind (arith, tests))
    (λ x q k. (search rules, grind (arith, tests))))

pub overflow_sub-result : goal.overflow_sub-result
overflow_sub-result c = let f = found (goal.at.overflow_sub-result c).After-find in omega (arith, f.0, c.unwrap_or-end.ensures)

pub returns : goal.returns
returns c = let f = found (goal.at.returns c).After-find in ap (λ (e : ℕ). e - (c.args.place + 1)) c.unwrap_or-end.ensures ∙ f.1
