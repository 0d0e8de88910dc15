-- `find` meets its contract. Assumes nothing.
use Rattle.std.proofs.Common.{rules, tests, ℕ, ◌≡◌, ◌+◌, ◌*◌, ◌≤◌, ◌<◌, Some, None, ap, ◌∙◌, arith}
use Rattle.std.proofs.lemmas.Iterator.{first_from_Range, serves_from_Range}
use Rattle.step_slots.specs.Views.{found_slot, slot_at}
use Rattle.step_entries.proofs.NamedLaws.{Missed, slot-stands, named_missed, named-found}
use Rattle.step_entries.proofs.find.Goals as goal
use Rattle.step_entries.proofs.find.Goals.{In_ok-i}

pub find-requires : goal.find-requires
find-requires c =
    let a = c.args in
    record {
      can = tt;
      finite = tt;
      callable = serves_from_Range (λ x q k. search (rules, tests)) (λ x low high.
          let stands = slot-stands a.store.now a.at a.n x c.requires.1 high in
          let room = c.requires.0 in
          search (rules, arith));
    }

-- the place that was found
found : (c : In_ok-i) →
    let a = c.args in
    let i = c.in_ok-i.i in
    (0 ≤ i) × (i < a.n) × ((slot_at a.store.now (a.at + 16 * i)).id ≡ a.id) × Missed a.store.now a.id a.at i
found c =
    let a = c.args in
    first_from_Range _ _ _ (Some c.in_ok-i.i) (λ (i : ℕ). (slot_at a.store.now (a.at + 16 * i)).id ≡ a.id) (λ (i : ℕ). (slot_at a.store.now (a.at + 16 * i)).id ≡ a.id → ⊥) c.in_ok-i.ensures.ran
    (λ x q k. grind (arith, tests))
    (λ x q k. (search rules, grind (arith, tests)))

pub overflow_mul-i : goal.overflow_mul-i
overflow_mul-i c = let below = (found c).1 in search rules

pub overflow_add-at : goal.overflow_add-at
overflow_add-at c = let below = (found (goal.at.overflow_add-at c).In_ok-i).1 in search rules

pub read-requires : goal.read-requires
read-requires c = let below = (found (goal.at.read-requires c).In_ok-i).1 in omega (arith, below, c.requires.0)

pub returns-in_err-i : goal.returns-in_err-i
returns-in_err-i c =
    let a = c.args in
    ap found_slot c.from_residual.ensures
    ∙ named_missed a.store.now a.id a.at a.n
    (first_from_Range _ _ _ None (λ (i : ℕ). (slot_at a.store.now (a.at + 16 * i)).id ≡ a.id) (λ (i : ℕ). (slot_at a.store.now (a.at + 16 * i)).id ≡ a.id → ⊥) c.in_err-i.ensures.ran
    (λ x q k. grind (arith, tests))
    (λ x q k. (search rules, grind (arith, tests))))

pub returns : goal.returns
returns c =
    let a = c.args in
    let f = found (goal.at.returns c).In_ok-i in
    c.read.ensures ∙ named-found a.store.now a.id a.at a.n c.in_ok-i.i f.1 f.2 f.3
