-- The bytes of a start. Assumes nothing.
use Prim.Native.Nat.{ℕ, ◌+◌, ◌*◌, ◌≤◌}
use mathlib.Core.Path.{◌≡◌, sym, ap, ◌∙◌}
use mathlib.Core.Bool.{true}
use mathlib.Core.List.{List, ◌++◌}
use native.Mathlib.Omega.{arith}
use lib.ListN.{length, take, length-append}
use lib.Seq.{sets, take-length}
use Rattle.syntax.specs.declared.names.VarId.{VarId}
use Rattle.image_spec.specs.Parse.{each}
use Rattle.image_write_parts.proofs.Putting.{sets_reserved}
use Rattle.image_write_bytes.proofs.Covering.{hidden}
use Rattle.step_slots.specs.Slots.{Slot, slot_bytes}
use Rattle.step_slots.specs.Views.{slots_at, all_slots}
use Rattle.step_slots.proofs.SlotBytes.{slots_length, slots-count, slots-taken}
use Rattle.step_gather.specs.Gathering.{renamed}
use Rattle.step_gather.proofs.GatheredSlots.{slots-ok, slots-put}
use Rattle.step_gather.proofs.Renaming.{renamed-length}

module _ (s values : List ℕ) (n : ℕ) (count : length values ≡ 16 * n) (room : 64 + 16 * n ≤ length s) (slots : all_slots (slots_at values 0 n) ≡ true) where
  abbrev ts : List Slot
  ts = slots_at values 0 n

  abbrev copied : List ℕ
  copied = sets s 64 values

  -- the values as they stand in the store
  taken : values ≡ each slot_bytes ts
  taken = sym (take-length values) ∙ (ap (λ (i : ℕ). take i values) count ∙ slots-taken values 0 n (slots-count values 0 n) slots)

  pub copied-slots : slots_at copied 64 n ≡ ts
  copied-slots =
      let k : length ts ≡ n = slots-count values 0 n in
      ap (λ (z : List ℕ). slots_at (sets s 64 z) 64 n) taken ∙ (ap (slots_at (sets s 64 (each slot_bytes ts)) 64) (sym k) ∙ slots-put s 64 ts (slots-ok values 0 n slots) (omega (arith, k, room)))

  pub begun-bytes : (xs : List VarId) (A : List ℕ) → length xs ≡ n → length A ≡ 64
      → sets (sets copied 64 (each slot_bytes (renamed xs (slots_at copied 64 n)))) 0 A ≡ sets s 0 (A ++ each slot_bytes (renamed xs ts))
  begun-bytes xs A x a =
      let R = each slot_bytes (renamed xs ts) in
      let r : length R ≡ 16 * n = slots_length (renamed xs ts) ∙ omega (arith, renamed-length xs ts (omega (arith, x, slots-count values 0 n)), x) in
      ap (λ (z : List Slot). sets (sets copied 64 (each slot_bytes (renamed xs z))) 0 A) copied-slots
      ∙ (sets_reserved A copied 0 64 R a
      ∙ hidden s 64 values (A ++ R) (omega (arith, a, r, count, length-append A R)) (omega (arith, a, r, room, length-append A R)))
