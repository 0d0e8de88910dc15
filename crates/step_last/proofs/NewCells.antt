-- A new cell under var: how many cells there were, its slot, and the environment with var in front of it or behind what is left of it. Assumes nothing.
use Prim.Native.Nat.{ℕ, ◌-◌}
use mathlib.Core.Path.{◌≡◌, sym, ap, ap₂, ◌∙◌}
use mathlib.Core.List.{List, [], ◌∷◌, ◌++◌, map, map-append}
use lib.ListN.{length, take, length-map}
use Rattle.syntax.specs.declared.names.VarId.{VarId}
use Rattle.model.specs.Syntax.{Prog}
use Rattle.model.specs.Machine.{cell, Cells}
use Rattle.model.specs.Linear.{before_last}
use Rattle.step_slots.specs.Slots.{Slot, slot}
use Rattle.step_spec.specs.Located.{Machine, Kept, Located, cell_in}
use Rattle.step_spec.specs.Store.{place_of, entry_slot, environment_of, EntryFits}
use Rattle.step_spec.proofs.Lists.{all_take}
use Rattle.step_header.specs.declared.Header.{Header}
use Rattle.step_header.specs.Headers.{entries_in}
use Rattle.step_rule.specs.Rules.{Stored}
use Rattle.step_rule.proofs.Views.{viewed}
use Rattle.step_rule.proofs.Ways.{entries_stay, place-behind}
use Rattle.step_last.proofs.LastEntries.{before-slots}

module _ {M : Machine} {P : Prog} {store : List ℕ} {h : Header} {l : Located} (o : Stored M P store h l) where
  abbrev K : Cells
  K = map (cell_in P) l.cells

  pub cells_count : length K ≡ h.cells
  cells_count = length-map l.cells (cell_in P) ∙ sym (viewed o).cells

  module _ (new : List Kept) (x : VarId) where
    -- its slot is behind those of the cells
    var-there : entry_slot (place_of (l.cells ++ new)) (x, cell (length K)) ≡ slot 1 x.0 h.heap
    var-there = ap (slot 1 x.0) (ap (place_of (l.cells ++ new)) (length-map l.cells (cell_in P)) ∙ (place-behind l.cells new ∙ sym (viewed o).heap_size))

    pub var-before : environment_of (l.cells ++ new) ((x, cell (length K)) ∷ l.environment) ≡ slot 1 x.0 h.heap ∷ entries_in store h
    unfolding environment_of
    var-before =
        ap₂ {C = List Slot} (λ (a : Slot) (z : List Slot). a ∷ z) var-there (entries_stay l.cells new l.environment (viewed o).fits.environment ∙ sym (viewed o).entries)

    -- without the last k
    pub var-behind : (k : ℕ) → environment_of (l.cells ++ new) (before_last k l.environment ++ ((x, cell (length K)) ∷ []))
        ≡ take (h.entries - k) (entries_in store h) ++ (slot 1 x.0 h.heap ∷ [])
    unfolding environment_of
    var-behind k =
        let B = before_last k l.environment in
        let f = all_take (EntryFits (length l.cells)) (length l.environment - k) l.environment (viewed o).fits.environment in
        map-append (entry_slot (place_of (l.cells ++ new))) B ((x, cell (length K)) ∷ [])
        ∙ ap₂ {C = List Slot} (λ (y : List Slot) (s : Slot). y ++ (s ∷ [])) (entries_stay l.cells new B f ∙ before-slots o k) var-there
