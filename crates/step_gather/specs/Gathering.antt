-- The values of several variables: found among the slots of an environment, under other IDs, and as an event shows them.
use Rattle.std.specs.Prelude.{ℕ, ◌≡◌, Bool, true, cond, List, [], ◌∷◌, map, eqb, get_or}
use Rattle.std.proofs.lemmas.List.Edits.{sets}
use Rattle.syntax.specs.declared.names.VarId.{VarId}
use Rattle.model.specs.Lists.{every}
use Rattle.image_spec.specs.Parse.{each}
use Rattle.step_slots.specs.Slots.{Slot, slot, slot_bytes}
use Rattle.step_slots.specs.Views.{no_slot, is_slot}
use Rattle.step_entries.specs.Named.{named, under}

-- has each a slot?
abbrev pub all_found_lem : List Slot → List VarId → Bool
all_found_lem E xs = every (λ (x : VarId). is_slot (named x.0 E)) xs

-- the value of each, without its ID
abbrev pub found_slots : List Slot → List VarId → List Slot
found_slots E xs = map (λ (x : VarId). under 0 (named x.0 E)) xs

-- what is gathered: the answer whether all are there and, where they are, their values from `to` on
pub record Gathers (E : List Slot) (xs : List VarId) (out : List ℕ) (to : ℕ) (out' : List ℕ) (r : Bool) : Type 0 where
  pub found : r ≡ all_found_lem E xs
  pub put : r ≡ true → out' ≡ sets out to (each slot_bytes (found_slots E xs))

-- the slots under these IDs, one for one; the shorter list decides
unfoldable pub renamed : List VarId → List Slot → List Slot
renamed [] ts = []
renamed (x ∷ xs) [] = []
renamed (x ∷ xs) (t ∷ ts) = under x.0 t ∷ renamed xs ts

-- a value as an event shows it: without an ID, and a cell by the number that its own slot has, which is at that place among the slots of the cells
abbrev pub shown_as : (heap : List Slot) → Slot → Slot
shown_as H t = slot t.sort 0 (cond (eqb t.sort 1) (get_or H t.payload no_slot).payload t.payload)
