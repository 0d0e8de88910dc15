-- `linear_enter` meets its contract. Assumes nothing.
use Rattle.std.specs.Prelude.{Some, None, Err}
use Prim.Native.Nat.{ℕ, ◌+◌, ◌*◌}
use mathlib.Core.Path.{◌≡◌, refl, sym, ap, ◌∙◌}
use mathlib.Core.Bool.{true}
use mathlib.Core.List.{List}
use native.Mathlib.Omega.{arith}
use borrow.Author.Rules.{rules}
use lib.ListN.{length, take}
use lib.Seq.{length-take-le}
use Rattle.step_slots.specs.declared.sort.Sort.TheVariants.{Outside}
use Rattle.step_slots.specs.Slots.{as_slot}
use Rattle.step_slots.specs.Sorts.{sort_code}
use Rattle.step_slots.specs.Views.{slots_at, all_slots}
use Rattle.step_slots.proofs.SlotBytes.{slots-count}
use Rattle.step_slots.proofs.SortLaws.{codes_same, codes_differ}
use Rattle.step_header.specs.Headers.{heap_in}
use Rattle.step_cells.specs.Cells.{as_cell, found_cell, cell_in'}
use Rattle.step_write.specs.declared.Stop.TheVariants.{NoStep}
use Rattle.step_statement_invoke.proofs.EntranceLaws.{Entered, entered_by, entered-few, can_enter}
use Rattle.step_statement_invoke.proofs.EnteringLaws.{outside_as, referred_in, no-cell_as, nothing_as, closure_as}
use Rattle.step_statement_invoke.proofs.FirstSlots.{first-slots}
use Rattle.step_statement_invoke.proofs.invoke.linear_enter.Goals as goal
use Rattle.step_statement_invoke.proofs.invoke.linear_enter.Goals.{Else-eq, After-cell_of, After-fetch, In_ok-cell, In_ok-clause}

-- the value is no outside number
inside : (c : Else-eq) → sort_code c.args.value.sort ≡ 2 → ⊥
inside c = codes_differ c.args.value.sort Outside c.eq.ensures c.if-eq.false

-- what is found is the cell of the value
asked : (c : After-cell_of) → found_cell c.cell_of.result ≡ cell_in' (heap_in c.args.work.now.store.now c.args.work.now.header) (as_slot c.args.value)
asked c = let e = c.state_of-state.ensures in referred_in (as_slot c.args.value) e.stored e.headed c.cell_of.ensures

-- the cell is that of the value
referred : (c : In_ok-cell) → as_cell c.in_ok-cell.cell ≡ cell_in' (heap_in c.args.work.now.store.now c.args.work.now.header) (as_slot c.args.value)
referred c =
    let s : c.cell_of.result ≡ Some c.in_ok-cell.cell = search rules in
    let e = c.state_of-state.ensures in
    ap found_cell (sym s) ∙ referred_in (as_slot c.args.value) e.stored e.headed c.cell_of.ensures

-- the clause is found
found : (c : In_ok-clause) → c.entrance_of.result ≡ Some c.in_ok-clause.clause
found c = search rules

entered : (c : In_ok-clause) → let a = c.args in Entered a.stepper.now.image.frame a.stepper.now.image.bytes.now (as_cell c.in_ok-cell.cell) a.tag a.k c.in_ok-clause.clause
entered c = entered_by c.entrance_of.ensures (found c)

-- as many slots of scratch as there are args
sliced : (c : In_ok-clause) → length (take (16 * c.args.k) c.args.scratch.now) ≡ 16 * c.args.k
sliced c =
    let full : length c.args.scratch.now ≡ 2080 = search rules in
    length-take-le (16 * c.args.k) c.args.scratch.now (omega (arith, entered-few (entered c), full))

-- the first k entries are slots
slots : (c : In_ok-clause) → let a = c.args in all_slots (slots_at a.work.now.store.now (64 + 16 * a.work.now.header.heap) a.k) ≡ true
slots c =
    let w = c.args.work.now in
    first-slots w.store.now (64 + 16 * w.header.heap) w.header.entries c.args.k c.requires.1 c.requires.0.fit.holds.entries

-- .. and are there
fetched : (c : After-fetch) → let w = c.args.work.now in slots_at c.fetch.new.scratch 0 c.args.k ≡ slots_at w.store.now (64 + 16 * w.header.heap) c.args.k
fetched c = let w = c.args.work.now in c.fetch.ensures ∙ ap (λ (s : List ℕ). slots_at s (64 + 16 * w.header.heap) c.args.k) c.store_of.ensures

pub returns-then-eq : goal.returns-then-eq
returns-then-eq c = (
  let a = c.args in
      outside_as a.k (codes_same a.value.sort Outside c.eq.ensures c.if-eq.true) c.ended-next.ensures c.last_event-shown.ensures (slots-count a.work.now.store.now (64 + 16 * a.work.now.header.heap) a.k) refl c.finish_showing.ensures.0,
  search rules,
)

pub returns-in_err-cell : goal.returns-in_err-cell
returns-in_err-cell c = (
  let n : c.cell_of.result ≡ None = search rules in
      let e : c.from_residual.result ≡ Err NoStep = search rules in
      rw e (no-cell_as (ap found_cell (sym n) ∙ asked (goal.at.returns-in_err-cell c).After-cell_of) (inside (goal.at.returns-in_err-cell c).Else-eq)),
  search rules,
)

pub returns-in_err-clause : goal.returns-in_err-clause
returns-in_err-clause c = (
  let a = c.args in
      let n : c.entrance_of.result ≡ None = search rules in
      let e : c.from_residual-in_err-clause.result ≡ Err NoStep = search rules in
      let g = goal.at.returns-in_err-clause c in
      rw e (nothing_as c.entrance_of.ensures (referred g.In_ok-cell) (slots-count a.work.now.store.now (64 + 16 * a.work.now.header.heap) a.k) n (inside g.Else-eq)),
  search rules,
)

pub slice_bounds-slots-end : goal.slice_bounds-slots-end
slice_bounds-slots-end c =
    let full : length c.args.scratch.now ≡ 2080 = search rules in
    omega (arith, entered-few (entered (goal.at.slice_bounds-slots-end c).In_ok-clause), full)

pub fetch-requires : goal.fetch-requires
fetch-requires c =
    let p = c.requires in
    let w = (goal.at.fetch-requires c).In_ok-clause in
    rw c.store_of.ensures (omega (arith, p.0.fit.holds.inside, p.1), (slots w, omega (arith, sliced w)))

pub enter_clause-requires : goal.enter_clause-requires
enter_clause-requires c =
    let p = c.requires in
    let g = goal.at.enter_clause-requires c in
    let w = g.In_ok-clause in
    can_enter (entered w) (as_slot c.args.value) p.0.fit (referred g.In_ok-cell) (omega (arith, c.fetch.auto.scratch, sliced w)) (ap all_slots (fetched g.After-fetch) ∙ slots w)

pub returns : goal.returns
returns c = (
  let a = c.args in
      let g = goal.at.returns c in
      let w = g.In_ok-clause in
      let q = ap (slots_at c.fetch.new.scratch 0) (entered w).count ∙ fetched g.After-fetch in
      closure_as c.entrance_of.ensures (referred g.In_ok-cell) (slots-count a.work.now.store.now (64 + 16 * a.work.now.header.heap) a.k) (found w) q c.enter_clause.ensures.0,
  search rules,
)
