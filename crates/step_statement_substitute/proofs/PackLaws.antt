-- What is packed in `scratch`: values that were gathered, under the targets. Assumes nothing.
use Prim.Native.Nat.{ℕ, ◌+◌, ◌*◌, ◌≤◌}
use mathlib.Core.Path.{◌≡◌, sym, ap, ◌∙◌}
use mathlib.Core.Bool.{Bool, true}
use mathlib.Core.List.{List}
use native.Mathlib.Omega.{arith}
use lib.ListN.{length, take, length-map}
use lib.Seq.{sets, length-sets}
use Rattle.syntax.specs.declared.names.VarId.{VarId}
use Rattle.image_spec.specs.Parse.{each, All}
use Rattle.step_slots.specs.Slots.{Slot, slot_bytes, SlotOk}
use Rattle.step_slots.specs.Views.{slots_at, all_slots}
use Rattle.step_slots.proofs.SlotBytes.{slots_length}
use Rattle.step_entries.specs.Named.{named, under}
use Rattle.step_write.proofs.Regions.{taken-put}
use Rattle.step_gather.specs.Gathering.{found_slots, renamed, Gathers}
use Rattle.step_gather.proofs.Renaming.{renamed-length}
use Rattle.step_gather.proofs.GatheredSlots.{gathered-stand, gathered-slots}

module _ {E : List Slot} {ys : List VarId} {s s₁ : List ℕ} {b : Bool} (n : ℕ) (many : length ys ≡ n) (ok : All SlotOk E) (room : 16 * n ≤ length s) (g : Gathers E ys s 0 s₁ b) (t : b ≡ true) where
  enough : 0 + 16 * length ys ≤ length s
  enough = omega (arith, many, room)

  -- they are slots
  pub values-stand : all_slots (slots_at s₁ 0 n) ≡ true
  values-stand = ap (λ (j : ℕ). all_slots (slots_at s₁ 0 j)) (sym many) ∙ gathered-slots g ok t enough

  pub packed : {s₂ : List ℕ} (xs : List VarId) → length xs ≡ n → s₂ ≡ sets s₁ 0 (each slot_bytes (renamed xs (slots_at s₁ 0 n)))
      → take (16 * length xs) s₂ ≡ each slot_bytes (renamed xs (found_slots E ys))
  packed {s₂} xs e w =
      let F = found_slots E ys in
      let ts = renamed xs F in
      let stand : slots_at s₁ 0 n ≡ F = ap (slots_at s₁ 0) (sym many) ∙ gathered-stand g ok t enough in
      let k : length ts ≡ length xs = renamed-length xs F (e ∙ (sym many ∙ sym (length-map ys (λ (y : VarId). under 0 (named y.0 E))))) in
      let size : length s₁ ≡ length s = ap length (g.put t) ∙ length-sets s 0 (each slot_bytes F) in
      ap (take (16 * length xs)) (w ∙ ap (λ (z : List Slot). sets s₁ 0 (each slot_bytes (renamed xs z))) stand)
      ∙ taken-put s₁ (each slot_bytes ts) (16 * length xs) (omega (arith, k, slots_length ts)) (omega (arith, e, room, size))
