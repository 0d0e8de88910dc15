-- Slots that stand in bytes are their bytes: how many there are, where the ID is, what is taken. Assumes nothing.
use Prim.Native.Nat.{ℕ, zero, suc, ◌+◌, ◌*◌}
use mathlib.Core.Path.{◌≡◌, refl, sym, ap, ◌∙◌}
use mathlib.Core.Bool.{true, false≢true}
use mathlib.Core.List.{List, [], ◌∷◌, ◌++◌, append_assoc}
use native.Mathlib.Omega.{arith}
use lib.ListN.{length, take, drop, length-append}
use lib.Seq.{take-append_seam}
use Rattle.image_spec.specs.Parse.{Parsed, refused, got, number, field, each}
use Rattle.image_spec.proofs.ParseLaws.{Sound, one-read, number_exact}
use Rattle.image_spec.proofs.DirectoryLaws.{and_left, and_right}
use Rattle.step_slots.specs.Slots.{Slot, slot_bytes, SlotOk, slot_parser}
use Rattle.step_slots.specs.Views.{slot_from, slot_at, slots_at, is_slot, all_slots}
use Rattle.step_slots.proofs.SlotLaws.{slot_exact, past}

-- ── how many bytes ──

pub slot-length : (s : Slot) → length (slot_bytes s) ≡ 16
slot-length s = refl

pub slots_length : (ss : List Slot) → length (each slot_bytes ss) ≡ 16 * length ss
slots_length [] = refl
slots_length (s ∷ ss) = length-append (slot_bytes s) (each slot_bytes ss) ∙ omega (arith, slot-length s, slots_length ss)

-- ── a slot that stands ──

-- its bytes
pub record Standing (s : List ℕ) (at : ℕ) (t : Slot) : Type 0 where
  pub ok : SlotOk t
  pub bytes : drop at s ≡ slot_bytes t ++ drop (at + 16) s

pub standing : (s : List ℕ) (at : ℕ) → is_slot (slot_at s at) ≡ true → Standing s at (slot_at s at)
unfolding slot_at
standing s at h = go (slot_parser (drop at s)) (slot_exact.right (drop at s)) h
  where
    go : (r : Parsed ℕ Slot) → Sound slot_bytes SlotOk (drop at s) r → is_slot (slot_from r) ≡ true → Standing s at (slot_from r)
    go refused o h = absurd (false≢true h)
    go (got t m) (one-read ok e) h = record { ok = ok; bytes = e ∙ ap (λ (z : List ℕ). slot_bytes t ++ z) (sym (past s (slot_bytes t) m at 16 refl e)) }

-- its ID is in bytes 4 to 7
pub id-read : (s : List ℕ) (at n : ℕ) (m : List ℕ) (t : Slot) → Standing s at t → number 4 (drop (at + 4) s) ≡ got n m → n ≡ t.id
id-read s at n m t o e =
    let rest = drop (at + 16) s in
    let k : drop (at + 4) s ≡ field 4 t.id ++ (field 8 t.payload ++ rest) = past s (t.sort ∷ 0 ∷ 0 ∷ 0 ∷ []) (field 4 t.id ++ (field 8 t.payload ++ rest)) at 4 refl o.bytes in
    let x : number 4 (drop (at + 4) s) ≡ got t.id (field 8 t.payload ++ rest) = ap (number 4) k ∙ (number_exact 4).left t.id o.ok.1.1.0 (field 8 t.payload ++ rest) in
    cc (x, e)

-- slots that stand are their bytes
pub slots-bytes : (s : List ℕ) (at n : ℕ) → all_slots (slots_at s at n) ≡ true → drop at s ≡ each slot_bytes (slots_at s at n) ++ drop (at + 16 * n) s
unfolding slots_at
slots-bytes s at zero h = let k : at ≡ at + 16 * 0 = omega arith in ap (λ (z : ℕ). drop z s) k
slots-bytes s at (suc n) h =
    let t = slot_at s at in
    let o = standing s at (and_left (is_slot t) (all_slots (slots_at s (at + 16) n)) h) in
    let k : at + 16 + 16 * n ≡ at + 16 * suc n = omega arith in
    o.bytes ∙ (ap (λ (z : List ℕ). slot_bytes t ++ z) (slots-bytes s (at + 16) n (and_right (is_slot t) (all_slots (slots_at s (at + 16) n)) h)
    ∙ ap (λ (z : ℕ). each slot_bytes (slots_at s (at + 16) n) ++ drop z s) k)
    ∙ sym (append_assoc (slot_bytes t) (each slot_bytes (slots_at s (at + 16) n)) (drop (at + 16 * suc n) s)))

-- the slots that stand are their bytes
pub slots-taken : (s : List ℕ) (at n : ℕ) → length (slots_at s at n) ≡ n → all_slots (slots_at s at n) ≡ true → take (16 * n) (drop at s) ≡ each slot_bytes (slots_at s at n)
slots-taken s at n k h =
    let q : 16 * n ≡ length (each slot_bytes (slots_at s at n)) = sym (slots_length (slots_at s at n) ∙ ap (λ (z : ℕ). 16 * z) k) in
    ap (take (16 * n)) (slots-bytes s at n h) ∙ (ap (λ (z : ℕ). take z (each slot_bytes (slots_at s at n) ++ drop (at + 16 * n) s)) q ∙ take-append_seam (each slot_bytes (slots_at s at n)) (drop (at + 16 * n) s))

pub slots-count : (s : List ℕ) (at n : ℕ) → length (slots_at s at n) ≡ n
unfolding slots_at
slots-count s at zero = refl
slots-count s at (suc n) = ap suc (slots-count s (at + 16) n)
