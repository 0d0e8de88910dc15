-- A store in which the slots behind those of the cells were written from some place on, and then the header, is that of the state with these slots.
-- Assumes nothing.
use Prim.Native.Nat.{ℕ, ◌+◌, ◌*◌, ◌≤◌}
use mathlib.Core.Path.{◌≡◌, refl, sym, ap, ap₂, ◌∙◌}
use mathlib.Core.Bool.{true}
use mathlib.Core.List.{List, ◌++◌, append_assoc}
use native.Mathlib.Omega.{arith}
use lib.ListN.{length, take, drop, length-append, take-append-drop}
use lib.Seq.{sets, length-take-le}
use Rattle.image_spec.specs.Parse.{each}
use Rattle.image_write_parts.proofs.Putting.{sets_append, sets_reserved}
use Rattle.step_slots.specs.Slots.{Slot, slot_bytes}
use Rattle.step_slots.specs.Views.{all_slots}
use Rattle.step_slots.proofs.SlotLaws.{past}
use Rattle.step_slots.proofs.SlotBytes.{slots-bytes, slots-count, slots_length}
use Rattle.step_spec.proofs.Lists.{each-++}
use Rattle.step_header.specs.declared.Header.{Header}
use Rattle.step_header.specs.Headers.{heap_in, entries_in}
use Rattle.step_write.proofs.Regions.{sets_same}

module _ (s : List ℕ) (h : Header) (heap : all_slots (heap_in s h) ≡ true) (entries : all_slots (entries_in s h) ≡ true) where
  abbrev B : List ℕ
  B = each slot_bytes (heap_in s h)

  b : length B ≡ 16 * h.heap
  b = slots_length (heap_in s h) ∙ ap (λ (n : ℕ). 16 * n) (slots-count s 64 h.heap)

  module _ (j : ℕ) (within : j ≤ h.entries) where
    abbrev T : List ℕ
    T = each slot_bytes (take j (entries_in s h))

    t : length T ≡ 16 * j
    t = slots_length (take j (entries_in s h)) ∙ ap (λ (n : ℕ). 16 * n) (length-take-le j (entries_in s h) (omega (arith, slots-count s (64 + 16 * h.heap) h.entries)))

    -- the slots of the cells and the first j of the environment stand where they are
    stand : drop 64 s ≡ (B ++ T) ++ (each slot_bytes (drop j (entries_in s h)) ++ drop (64 + 16 * h.heap + 16 * h.entries) s)
    stand =
        let E = entries_in s h in
        let rest = drop (64 + 16 * h.heap + 16 * h.entries) s in
        let e : each slot_bytes E ≡ T ++ each slot_bytes (drop j E) = ap (each slot_bytes) (sym (take-append-drop j E)) ∙ each-++ slot_bytes (take j E) (drop j E) in
        slots-bytes s 64 h.heap heap
        ∙ (ap (λ (z : List ℕ). B ++ z) (slots-bytes s (64 + 16 * h.heap) h.entries entries
        ∙ (ap (λ (z : List ℕ). z ++ rest) e ∙ append_assoc T (each slot_bytes (drop j E)) rest))
        ∙ sym (append_assoc B T (each slot_bytes (drop j E) ++ rest)))

    pub region : (from : ℕ) (bytes A : List ℕ) (new environment : List Slot) → from ≡ 64 + 16 * (h.heap + j) → length A ≡ 64
        → each slot_bytes (new ++ environment) ≡ T ++ bytes → sets (sets s from bytes) 0 A ≡ sets s 0 (A ++ (each slot_bytes (heap_in s h ++ new) ++ each slot_bytes environment))
    region from bytes A new environment f a e =
        let k : 64 + length (B ++ T) ≡ from = omega (arith, f, b, t, length-append B T) in
        let same : sets s 64 (B ++ T) ≡ s = sets_same (B ++ T) s 64 _ stand in
        let w : sets s from bytes ≡ sets s 64 ((B ++ T) ++ bytes) = sym (sets_append (B ++ T) s 64 bytes ∙ ap₂ {C = List ℕ} (λ (z : List ℕ) (i : ℕ). sets z i bytes) same k) in
        let q : (B ++ T) ++ bytes ≡ each slot_bytes (heap_in s h ++ new) ++ each slot_bytes environment =
        append_assoc B T bytes ∙ (ap (λ (z : List ℕ). B ++ z) (sym e) ∙ (sym (each-++ slot_bytes (heap_in s h) (new ++ environment))
        ∙ (ap (each slot_bytes) (sym (append_assoc (heap_in s h) new environment)) ∙ each-++ slot_bytes (heap_in s h ++ new) environment))) in
        ap (λ (z : List ℕ). sets z 0 A) (w ∙ ap (sets s 64) q) ∙ sets_reserved A s 0 64 _ a
