-- Question 14 of the slots of cells as code asks it, in one pass; and the state that a store with a header is seen as.
use Rattle.std.specs.Prelude.{ℕ, suc, ◌≡◌, Bool, ◌&&◌, cond, List, [], ◌∷◌, eqb}
use Rattle.model.specs.Syntax.{Prog}
use Rattle.image_directory.specs.declared.Frame.{Frame}
use Rattle.image_directory.specs.Slots as image
use Rattle.step_slots.specs.Slots.{Slot, is_cell_lem}
use Rattle.step_slots.specs.Views.{is_slot}
use Rattle.step_spec.specs.Located.{Located, records_in}
use Rattle.step_spec.specs.Store.{raw_from, state_in}
use Rattle.step_spec.specs.Scan.{head_ok, held_ok}
use Rattle.step_header.specs.declared.Header.{Header}
use Rattle.step_header.specs.Headers.{tuple_of, heap_in, entries_in}

-- the image's records are the program's
pub record Of (P : Prog) (g : Frame) (s : List ℕ) : Type 0 where
  pub records : image.records_in g s ≡ records_in P

module _ (P : Prog) (heap : List Slot) (cells : ℕ) where
  -- k cells have begun, the last of this sort
  unfoldable pub pass : (k sort : ℕ) → List Slot → Bool
  pass k f [] = eqb k cells
  pass k f (t ∷ ts) = is_slot t && cond (is_cell_lem t) (eqb t.payload k && (head_ok P heap t && pass (suc k) t.sort ts)) (held_ok P heap f t && pass k f ts)

-- the state that the store is seen as
unfoldable pub seen : List ℕ → Header → Located
seen s h = state_in (raw_from (tuple_of h) (heap_in s h) (entries_in s h))
