-- `switch` meets its contract. Assumes nothing.
use Rattle.std.specs.Prelude.{Some, None, Err}
use Prim.Native.Nat.{ℕ}
use mathlib.Core.Path.{◌≡◌, sym, ap, ap₂, ◌∙◌, subst}
use mathlib.Core.Bool.{true}
use mathlib.Core.List.{List}
use native.Mathlib.Omega.{arith}
use borrow.Author.Rules.{rules}
use lib.ListN.{length}
use Rattle.step_slots.specs.Slots.{Slot, as_slot}
use Rattle.step_slots.specs.Views.{slots_at, all_slots}
use Rattle.step_header.specs.declared.Header.{Header}
use Rattle.step_header.specs.declared.state.State.{State}
use Rattle.step_header.specs.Headers.{heap_in}
use Rattle.step_header.specs.States.{heap_of}
use Rattle.step_cells.specs.Cells.{Cell, as_cell, found_cell, cell_in'}
use Rattle.step_cells.proofs.HeapLaws.{Held, cell_holds}
use Rattle.step_write.specs.declared.Stop.TheVariants.{NoStep}
use Rattle.step_statement_switch.specs.Switching.{ClauseFor, SwitchesOn, other-cell, not_switched}
use Rattle.step_statement_switch.proofs.SwitchLaws.{Enterable, enterable, switched_as}
use Rattle.step_statement_switch.proofs.switch.switch.Goals as goal
use Rattle.step_statement_switch.proofs.switch.switch.Goals.{Start, After-fetch, In_ok-cell, In_ok-clause}

-- a cell that was found in the state is one of the store
stands : (s : State) (t : Slot) {store : List ℕ} {h : Header} {cell : Cell} → s.store.now ≡ store → s.header ≡ h → cell ≡ cell_in' (heap_of s) t → cell ≡ cell_in' (heap_in store h) t
stands s t e f q = q ∙ ap (λ (H : List Slot). cell_in' H t) (ap₂ heap_in e f)

-- how long scratch is
full : (c : Start) → length c.args.scratch.now ≡ 2080
full c = search rules

-- the cell is that of the value
referred : (c : In_ok-cell) → as_cell c.in_ok-cell.cell ≡ cell_in' (heap_in c.args.work.now.store.now c.args.work.now.header) (as_slot c.args.value)
referred c =
    let s : c.cell_of.result ≡ Some c.in_ok-cell.cell = search rules in
    stands c.state_of-state.result (as_slot c.args.value) c.state_of-state.ensures.stored c.state_of-state.ensures.headed (ap found_cell (sym s) ∙ c.cell_of.ensures)

-- the clause is found
found : (c : In_ok-clause) → c.clause_for.result ≡ Some c.in_ok-clause.clause
found c = search rules

can_enter : (c : In_ok-clause) → Enterable (as_cell c.in_ok-cell.cell) c.in_ok-clause.clause.row
can_enter c = enterable (found c) c.clause_for.ensures

-- what the cell holds
holding : (c : In_ok-clause) → Held c.args.work.now.store.now c.args.work.now.header.heap (as_cell c.in_ok-cell.cell)
holding c =
    let w = c.args.work.now in
    let s : c.cell_of.result ≡ Some c.in_ok-cell.cell = search rules in
    cell_holds w.store.now w.header c.requires.0.fit.holds (as_slot c.args.value)
    (stands c.state_of-state.result (as_slot c.args.value) c.state_of-state.ensures.stored c.state_of-state.ensures.headed (ap found_cell (sym s) ∙ c.cell_of.ensures))

-- what is copied: as many slots as the clause has parameters
copied : (c : In_ok-clause) → all_slots (slots_at c.args.work.now.store.now c.in_ok-cell.cell.from c.in_ok-clause.clause.row.places.len) ≡ true
copied c = ap (λ (n : ℕ). all_slots (slots_at c.args.work.now.store.now c.in_ok-cell.cell.from n)) (can_enter c).even ∙ (holding c).slots

-- .. and are there
fetched : (c : After-fetch)
    → slots_at c.fetch.new.scratch 0 c.in_ok-clause.clause.row.places.len ≡ slots_at c.args.work.now.store.now c.in_ok-cell.cell.from c.in_ok-clause.clause.row.places.len
fetched c = c.fetch.ensures ∙ ap (λ (s : List ℕ). slots_at s c.in_ok-cell.cell.from c.in_ok-clause.clause.row.places.len) c.store_of.ensures

pub returns-in_err-cell : goal.returns-in_err-cell
returns-in_err-cell c = (
  let a = c.args in
      let w = a.work.now in
      let n : c.cell_of.result ≡ None = search rules in
      let e : c.from_residual.result ≡ Err NoStep = search rules in
      rw e (subst (λ (cell : Cell). SwitchesOn a.stepper.now.image.frame a.stepper.now.image.bytes.now w.store.now w.events.now w.header w.at cell a.front a.back w.store.now w.events.now (Err NoStep))
      (stands c.state_of-state.result (as_slot c.args.value) c.state_of-state.ensures.stored c.state_of-state.ensures.headed (ap found_cell (sym n) ∙ c.cell_of.ensures)) (not_switched (other-cell (λ e. omega (arith, e))))),
  search rules,
)

pub returns-in_err-clause : goal.returns-in_err-clause
returns-in_err-clause c = (
  let a = c.args in
      let w = a.work.now in
      let g = a.stepper.now.image.frame in
      let s = a.stepper.now.image.bytes.now in
      let cell = as_cell c.in_ok-cell.cell in
      let n : c.clause_for.result ≡ None = search rules in
      let e : c.from_residual-in_err-clause.result ≡ Err NoStep = search rules in
      let f : ClauseFor g s w.header.position cell None = subst (ClauseFor g s w.header.position cell) n c.clause_for.ensures in
      rw e (subst (λ (cell : Cell). SwitchesOn g s w.store.now w.events.now w.header w.at cell a.front a.back w.store.now w.events.now (Err NoStep)) (referred (goal.at.returns-in_err-clause c).In_ok-cell) (not_switched f)),
  search rules,
)

pub fetch-requires : goal.fetch-requires
fetch-requires c =
    let w = (goal.at.fetch-requires c).In_ok-clause in
    let e = can_enter w in
    rw c.store_of.ensures (omega (arith, e.even, (holding w).inside, c.requires.0.fit.holds.inside), (copied w, omega (arith, e.fits.short, full (goal.at.fetch-requires c).Start)))

pub enter-requires : goal.enter-requires
enter-requires c =
    let w = (goal.at.enter-requires c).In_ok-clause in
    (c.requires.0.fit, (omega (arith, (can_enter w).fits.short, full (goal.at.enter-requires c).Start, c.fetch.auto.scratch), (ap all_slots (fetched (goal.at.enter-requires c).After-fetch) ∙ copied w, c.requires.1)))

pub returns : goal.returns
returns c = (
  let a = c.args in
      let w = a.work.now in
      let g = a.stepper.now.image.frame in
      let s = a.stepper.now.image.bytes.now in
      let cell = as_cell c.in_ok-cell.cell in
      let f : ClauseFor g s w.header.position cell (Some c.in_ok-clause.clause) = subst (ClauseFor g s w.header.position cell) (found (goal.at.returns c).In_ok-clause) c.clause_for.ensures in
      subst (λ (cell : Cell). SwitchesOn g s w.store.now w.events.now w.header w.at cell a.front a.back c.enter.new.work.store.now c.enter.new.work.events.now c.enter.result)
      (referred (goal.at.returns c).In_ok-cell) (switched_as _ f c.event.ensures (fetched (goal.at.returns c).After-fetch) c.enter.ensures.0),
  search rules,
)
