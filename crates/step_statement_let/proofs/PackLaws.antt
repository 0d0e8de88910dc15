-- What is packed in `scratch`: a cell with the values of variables, and var behind it; a cell with the values of the last entries. Assumes nothing.
use Prim.Native.Nat.{ℕ, suc, ◌+◌, ◌-◌, ◌*◌, ◌≤◌}
use mathlib.Core.Path.{◌≡◌, refl, sym, ap, ap₂, ◌∙◌}
use mathlib.Core.Bool.{Bool, true}
use mathlib.Core.List.{List, [], ◌∷◌, ◌++◌, map, append-nil}
use native.Mathlib.Omega.{arith}
use lib.ListN.{length, take, drop, set, length-map, length-append, length-drop}
use lib.Seq.{sets, set-set}
use Rattle.syntax.specs.declared.names.VarId.{VarId}
use Rattle.image_spec.specs.Parse.{each}
use Rattle.image_write_parts.specs.Puts.{Puts}
use Rattle.image_write_parts.proofs.Putting.{puts_then, puts-same, set_before}
use Rattle.step_slots.specs.Slots.{Slot, slot_bytes, SlotOk}
use Rattle.step_slots.specs.Views.{slots_at, all_slots}
use Rattle.step_slots.proofs.SlotBytes.{slot-length, slots_length, slots-count}
use Rattle.step_spec.proofs.Lists.{each-++, all_drop}
use Rattle.step_entries.specs.Named.{named, under}
use Rattle.step_write.proofs.Regions.{taken-put}
use Rattle.step_cells.proofs.HeldLaws.{all-slots-drop}
use Rattle.step_gather.specs.Gathering.{found_slots, Gathers}
use Rattle.step_gather.proofs.GatheredSlots.{slots-put, slots-ok}
use Rattle.step_last.proofs.LastEntries.{others-taken}

-- the first slot that was put ends at byte 16
pub first-put : {s s₁ : List ℕ} {n : ℕ} (t : Slot) → Puts s s₁ 0 n (slot_bytes t) → Puts s s₁ 0 16 (slot_bytes t)
first-put t p = record { holds = p.holds; ends = omega (arith, slot-length t) }

pub packed : {E : List Slot} {xs : List VarId} {s s₁ s₂ s₃ : List ℕ} {r : Bool} {a b : ℕ} (cell var : Slot) (n : ℕ) → length xs ≡ n → 16 * (n + 2) ≤ length s
    → Puts s s₁ 0 a (slot_bytes cell) → Gathers E xs s₁ 16 s₂ r → r ≡ true → Puts s₂ s₃ (16 + 16 * n) b (slot_bytes var)
    → take (16 * (length xs + 2)) s₃ ≡ each slot_bytes (cell ∷ (found_slots E xs ++ (var ∷ [])))
packed {E} {xs} {s} {s₁} {s₂} {s₃} {r} {a} {b} cell var n e room p g t q =
    let F = found_slots E xs in
    let k : length F ≡ n = length-map xs (λ (x : VarId). under 0 (named x.0 E)) ∙ e in
    let values : Puts s₁ s₂ 16 (16 + 16 * n) (each slot_bytes F) = record { holds = g.put t; ends = omega (arith, k, slots_length F) } in
    let all = puts_then (first-put cell p) (puts_then values q) in
    let bytes : each slot_bytes (cell ∷ (F ++ (var ∷ []))) ≡ slot_bytes cell ++ (each slot_bytes F ++ slot_bytes var) =
    ap (λ (z : List ℕ). slot_bytes cell ++ z) (each-++ slot_bytes F (var ∷ []) ∙ ap (λ (z : List ℕ). each slot_bytes F ++ z) (append-nil (slot_bytes var))) in
    let size : length (slot_bytes cell ++ (each slot_bytes F ++ slot_bytes var)) ≡ 16 * (length xs + 2) =
    omega (arith, e, k, slot-length cell, slot-length var, slots_length F, length-append (slot_bytes cell) (each slot_bytes F ++ slot_bytes var), length-append (each slot_bytes F) (slot_bytes var)) in
    ap (take (16 * (length xs + 2))) all.holds ∙ (taken-put s _ (16 * (length xs + 2)) size (omega (arith, e, room)) ∙ sym bytes)

-- ── the last k of n slots, without their IDs ──

-- bytes written over as many others
sets_over : (xs ys s : List ℕ) (at : ℕ) → length xs ≡ length ys → sets (sets s at xs) at ys ≡ sets s at ys
sets_over [] [] s at e = refl
sets_over [] (y ∷ ys) s at e = absurd (omega arith)
sets_over (x ∷ xs) [] s at e = absurd (omega arith)
sets_over (x ∷ xs) (y ∷ ys) s at e =
    ap (λ (z : List ℕ). sets z (suc at) ys) (set_before xs (set s at x) at (suc at) y (omega arith) ∙ ap (λ (z : List ℕ). sets z (suc at) xs) (set-set s at x y))
    ∙ sets_over xs ys (set s at y) (suc at) (omega arith)

module _ (store : List ℕ) (from n k : ℕ) (stand : all_slots (slots_at store from n) ≡ true) (within : k ≤ n) {s s₁ s₂ : List ℕ} {a b : ℕ} (head : Slot) (room : 16 * (k + 1) ≤ length s)
    (p : Puts s s₁ 0 a (slot_bytes head)) (q : Puts s₁ s₂ 16 b (take (16 * k) (drop (from + 16 * (n - k)) store))) where
  abbrev D : List Slot
  D = drop (n - k) (slots_at store from n)

  many : length D ≡ k
  many = omega (arith, within, length-drop (n - k) (slots_at store from n), slots-count store from n)

  bytes : take (16 * k) (drop (from + 16 * (n - k)) store) ≡ each slot_bytes D
  bytes = let i : k ≡ n - (n - k) = omega (arith, within) in ap (λ (j : ℕ). take (16 * j) (drop (from + 16 * (n - k)) store)) i ∙ others-taken store from n stand (n - k) (omega arith)

  copied : s₂ ≡ sets s₁ 16 (each slot_bytes D)
  copied = q.holds ∙ ap (sets s₁ 16) bytes

  -- they stand where they were copied
  copied-stand : slots_at s₂ 16 k ≡ D
  copied-stand =
      ap₂ {C = List Slot} (λ (z : List ℕ) (j : ℕ). slots_at z 16 j) copied (sym many)
      ∙ slots-put s₁ 16 D (all_drop SlotOk (n - k) (slots_at store from n) (slots-ok store from n stand)) (omega (arith, room, many, puts-same p))

  pub copied-slots : all_slots (slots_at s₂ 16 k) ≡ true
  copied-slots = ap all_slots copied-stand ∙ all-slots-drop (n - k) (slots_at store from n) stand

  pub packed-last : {s₃ : List ℕ} → s₃ ≡ sets s₂ 16 (each slot_bytes (map (under 0) (slots_at s₂ 16 k))) → take (16 * (k + 1)) s₃ ≡ each slot_bytes (head ∷ map (under 0) D)
  packed-last {s₃} e =
      let values = map (under 0) D in
      let C = slot_bytes head in
      let m : length values ≡ k = length-map D (under 0) ∙ many in
      let same : length (each slot_bytes D) ≡ length (each slot_bytes values) = omega (arith, many, m, slots_length D, slots_length values) in
      let over : s₃ ≡ sets s₁ 16 (each slot_bytes values) =
      e ∙ (ap₂ {C = List ℕ} (λ (z : List ℕ) (ts : List Slot). sets z 16 (each slot_bytes (map (under 0) ts))) copied copied-stand ∙ sets_over (each slot_bytes D) (each slot_bytes values) s₁ 16 same) in
      let put : Puts s₁ s₃ 16 (16 + length (each slot_bytes values)) (each slot_bytes values) = record { holds = over; ends = refl } in
      let all = puts_then (first-put head p) put in
      ap (take (16 * (k + 1))) all.holds
      ∙ taken-put s (C ++ each slot_bytes values) (16 * (k + 1)) (omega (arith, m, slot-length head, slots_length values, length-append C (each slot_bytes values))) room
