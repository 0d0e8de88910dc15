-- Question 14's test of the slots of cells in one pass, as code makes it. (proofs/Scans.antt: it is the test of specs/Store.antt.)
use Rattle.std.specs.Prelude.{ℕ, suc, ◌^◌, Bool, true, false, ◌&&◌, cond, List, [], ◌∷◌, eqb, ltb}
use Rattle.model.specs.Syntax.{Prog}
use Rattle.step_slots.specs.Slots.{Slot, is_cell_lem}
use Rattle.step_spec.specs.Store.{create_at, entry_ok, field_ok}

module _ (P : Prog) (heap : List Slot) where
  -- what a cell whose own slot is of this sort may hold; before the first cell (0) there is nothing
  abbrev pub held_ok : (sort : ℕ) → Slot → Bool
  held_ok k s = cond (eqb k 0) false (cond (eqb k 3) (field_ok P heap s) (entry_ok P heap s))

  abbrev pub head_ok : Slot → Bool
  head_ok s = cond (eqb s.sort 3) (ltb s.id (256 ^ 2)) (create_at P s.id)

  -- k cells have begun, the last of this sort
  unfoldable pub scan : (k sort : ℕ) → List Slot → Bool
  scan k f [] = true
  scan k f (s ∷ ss) = cond (is_cell_lem s) (eqb s.payload k && (head_ok s && scan (suc k) s.sort ss)) (held_ok f s && scan k f ss)
