-- A value as an event shows it, by its sort. Assumes nothing.
use Prim.Native.Nat.{ℕ}
use mathlib.Core.Path.{◌≡◌, ap, ◌∙◌, sym}
use mathlib.Core.Bool.{Bool, cond}
use mathlib.Core.List.{List}
use borrow.Author.Tests.{eq-eqb, ne_eqb}
use lib.ListN.{get_or}
use Rattle.step_slots.specs.Slots.{Slot, slot}
use Rattle.step_slots.specs.Views.{no_slot}
use Rattle.step_gather.specs.Gathering.{shown_as}

module _ (H : List Slot) (t : Slot) where
  pub shown-cell : (n : ℕ) → t.sort ≡ 1 → n ≡ (get_or H t.payload no_slot).payload → slot t.sort 0 n ≡ shown_as H t
  shown-cell n e p =
      ap (slot t.sort 0) (p ∙ ap (λ (b : Bool). cond b (get_or H t.payload no_slot).payload t.payload) (sym (eq-eqb t.sort 1 e)))
