-- The test of the slots of cells in one pass is the test of specs/Store.antt. Assumes nothing.
use Prim.Native.Nat.{ℕ, suc, ◌^◌, ◌≤◌}
use mathlib.Core.Path.{◌≡◌, refl, sym, ap, ◌∙◌}
use mathlib.Core.Bool.{Bool, true, false, ◌&&◌, cond, false≢true, and_assoc}
use mathlib.Core.List.{List, [], ◌∷◌}
use native.Mathlib.Omega.{arith}
use borrow.Author.Tests.{leb-true, ne_eqb}
use lib.Dec.{eqb, ltb}
use lib.ListN.{length}
use Rattle.model.specs.Syntax.{Prog}
use Rattle.step_slots.specs.Slots.{Slot, is_cell_lem}
use Rattle.step_spec.specs.Store.{Block, leading, blocks, every_slot, create_at, entry_ok, field_ok, cell_ok, cells_ok}
use Rattle.step_spec.specs.Scan.{held_ok, head_ok, scan}

module _ (P : Prog) (heap : List Slot) where
  -- after a cell's own slot: all that it holds
  every_held : (k : ℕ) (es : List Slot) → 3 ≤ k → every_slot (held_ok P heap k) es ≡ cond (eqb k 3) (every_slot (field_ok P heap) es) (every_slot (entry_ok P heap) es)
  every_held k es h = go (eqb k 0) (eqb k 3) (ne_eqb k 0 (omega arith)) es
    where
      go : (a b : Bool) → a ≡ false → (es : List Slot)
          → every_slot (λ s. cond a false (cond b (field_ok P heap s) (entry_ok P heap s))) es ≡ cond b (every_slot (field_ok P heap) es) (every_slot (entry_ok P heap) es)
      go true b n es = absurd (false≢true (sym n))
      go false true n [] = refl
      go false false n [] = refl
      go false true n (e ∷ es) = ap (λ (z : Bool). field_ok P heap e && z) (go false true n es)
      go false false n (e ∷ es) = ap (λ (z : Bool). entry_ok P heap e && z) (go false false n es)

  -- one cell: its number, its own slot and what it holds
  cell_parts : (k : ℕ) (b : Block) → 3 ≤ b.0.sort → cell_ok P heap k b ≡ eqb b.0.payload k && (head_ok P heap b.0 && every_slot (held_ok P heap b.0.sort) b.1)
  cell_parts k b h = ap (λ (z : Bool). eqb b.0.payload k && z) (go (eqb b.0.sort 3) ∙ ap (λ (z : Bool). head_ok P heap b.0 && z) (sym (every_held b.0.sort b.1 h)))
    where
      go : (t : Bool) → cond t (ltb b.0.id (256 ^ 2) && every_slot (field_ok P heap) b.1) (create_at P b.0.id && every_slot (entry_ok P heap) b.1)
          ≡ cond t (ltb b.0.id (256 ^ 2)) (create_at P b.0.id) && cond t (every_slot (field_ok P heap) b.1) (every_slot (entry_ok P heap) b.1)
      go true = refl
      go false = refl

  scan-from : (k f : ℕ) (ss : List Slot) → scan P heap k f ss ≡ every_slot (held_ok P heap f) (leading ss) && cells_ok P heap k (blocks ss)
  unfolding scan leading blocks
  scan-from k f [] = refl
  scan-from k f (s ∷ ss) = go (is_cell_lem s) refl (λ k f. scan-from k f ss)
    where
      go : (b : Bool) → is_cell_lem s ≡ b → ((k f : ℕ) → scan P heap k f ss ≡ every_slot (held_ok P heap f) (leading ss) && cells_ok P heap k (blocks ss))
          → cond b (eqb s.payload k && (head_ok P heap s && scan P heap (suc k) s.sort ss)) (held_ok P heap f s && scan P heap k f ss)
          ≡ every_slot (held_ok P heap f) (cond b [] (s ∷ leading ss)) && cells_ok P heap k (cond b ((s, leading ss) ∷ blocks ss) (blocks ss))
      go true e h =
          ap (λ (z : Bool). eqb s.payload k && (head_ok P heap s && z)) (h (suc k) s.sort)
          ∙ (ap (λ (z : Bool). eqb s.payload k && z) (sym (and_assoc (head_ok P heap s) (every_slot (held_ok P heap s.sort) (leading ss)) (cells_ok P heap (suc k) (blocks ss))))
          ∙ (sym (and_assoc (eqb s.payload k) (head_ok P heap s && every_slot (held_ok P heap s.sort) (leading ss)) (cells_ok P heap (suc k) (blocks ss)))
          ∙ ap (λ (z : Bool). z && cells_ok P heap (suc k) (blocks ss)) (sym (cell_parts k (s, leading ss) (leb-true 3 s.sort e)))))
      go false e h = ap (λ (z : Bool). held_ok P heap f s && z) (h k f) ∙ sym (and_assoc (held_ok P heap f s) (every_slot (held_ok P heap f) (leading ss)) (cells_ok P heap k (blocks ss)))

  -- nothing is held before the first cell
  none_before : (es : List Slot) → every_slot (held_ok P heap 0) es ≡ eqb (length es) 0
  none_before [] = refl
  none_before (e ∷ es) = sym (ne_eqb (length (e ∷ es)) 0 (omega arith))

  pub scanned : scan P heap 0 0 heap ≡ eqb (length (leading heap)) 0 && cells_ok P heap 0 (blocks heap)
  scanned = scan-from 0 0 heap ∙ ap (λ (z : Bool). z && cells_ok P heap 0 (blocks heap)) (none_before (leading heap))
