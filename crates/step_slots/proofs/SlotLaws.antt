-- Slots that stand in bytes: parsed and viewed, one and many. Assumes nothing.
use Prim.Native.Nat.{ℕ, zero, suc, ◌+◌, ◌*◌}
use mathlib.Core.Path.{◌≡◌, refl, sym, ap, ap₂, ◌∙◌}
use mathlib.Core.Bool.{Bool, true, false, ◌&&◌}
use mathlib.Core.List.{List, [], ◌∷◌, ◌++◌, append_assoc}
use native.Mathlib.Omega.{arith}
use borrow.Author.Tests.{le-leb}
use lib.ListN.{length, drop}
use lib.Seq.{drop-drop, drop-append_seam}
use Rattle.image_spec.specs.Parse.{Parsed, refused, got, and_then, only_if, times, each, All}
use Rattle.image_spec.proofs.ParseLaws.{Exact, Sound, one-read, both_exact, via_exact, code_exact, zeros_exact, number_exact}
use Rattle.step_slots.specs.Slots.{Slot, slot_bytes, SlotOk, slot_parser}
use Rattle.step_slots.specs.Views.{slot_from, slot_at, slots_at, is_slot, all_slots}

pub slot_exact : Exact slot_bytes SlotOk slot_parser
unfolding slot_parser
slot_exact = via_exact _ (λ s. (s.sort, (tt, (s.id, s.payload)))) (both_exact (code_exact 4) (both_exact (zeros_exact 3) (both_exact (number_exact 4) (number_exact 8)))) (λ b o. (o, refl, refl)) (λ a o. (o, refl))

-- past the first of two runs
pub past : (s x m : List ℕ) (at n : ℕ) → length x ≡ n → drop at s ≡ x ++ m → drop (at + n) s ≡ m
past s x m at n k e = sym (drop-drop n at s) ∙ (ap (drop n) e ∙ (ap (λ (z : ℕ). drop z (x ++ m)) (sym k) ∙ drop-append_seam x m))

-- what is viewed at a place is what the parser reads there
pub slot_parse : (s : List ℕ) (at : ℕ) → slot_parser (drop at s) ≡ only_if (is_slot (slot_at s at)) (got (slot_at s at) (drop (at + 16) s))
unfolding slot_at
slot_parse s at = go (slot_parser (drop at s)) (slot_exact.right (drop at s))
  where
    go : (r : Parsed ℕ Slot) → Sound slot_bytes SlotOk (drop at s) r → r ≡ only_if (is_slot (slot_from r)) (got (slot_from r) (drop (at + 16) s))
    go refused o = refl
    go (got t m) (one-read ok e) = rw (le-leb t.sort 4 ok.0) (ap (got t) (sym (past s (slot_bytes t) m at 16 refl e)))

-- .. and so of n slots
pub slots_parse : (s : List ℕ) (at n : ℕ) → times n slot_parser (drop at s) ≡ only_if (all_slots (slots_at s at n)) (got (slots_at s at n) (drop (at + 16 * n) s))
unfolding slots_at
slots_parse s at zero = let k : at ≡ at + 16 * 0 = omega arith in ap (λ (z : ℕ). got [] (drop z s)) k
slots_parse s at (suc n) =
    let k : at + 16 + 16 * n ≡ at + 16 * suc n = omega arith in
    rw (slot_parse s at, ← k) (go (is_slot (slot_at s at)) (slots_parse s (at + 16) n))
  where
    go : (c : Bool) → times n slot_parser (drop (at + 16) s) ≡ only_if (all_slots (slots_at s (at + 16) n)) (got (slots_at s (at + 16) n) (drop (at + 16 + 16 * n) s))
        → and_then (only_if c (got (slot_at s at) (drop (at + 16) s))) (λ a m. and_then (times n slot_parser m) (λ xs r. got (a ∷ xs) r))
        ≡ only_if (c && all_slots (slots_at s (at + 16) n)) (got (slot_at s at ∷ slots_at s (at + 16) n) (drop (at + 16 + 16 * n) s))
    go false e = refl
    go true e = rw e (inner (all_slots (slots_at s (at + 16) n)) (slots_at s (at + 16) n) (drop (at + 16 + 16 * n) s))
      where
        inner : (b : Bool) (ts : List Slot) (m : List ℕ) → and_then (only_if b (got ts m)) (λ xs r. got (slot_at s at ∷ xs) r) ≡ only_if b (got (slot_at s at ∷ ts) m)
        inner true ts m = refl
        inner false ts m = refl

-- slots that were written are viewed again
pub slot-stands : (s : List ℕ) (at : ℕ) (t : Slot) (m : List ℕ) → SlotOk t → drop at s ≡ slot_bytes t ++ m → slot_at s at ≡ t
unfolding slot_at
slot-stands s at t m o e = ap slot_from (ap slot_parser e ∙ slot_exact.left t o m)

pub slots-stand : (s : List ℕ) (at : ℕ) (ts : List Slot) (m : List ℕ) → All SlotOk ts → drop at s ≡ each slot_bytes ts ++ m → slots_at s at (length ts) ≡ ts
unfolding slots_at
slots-stand s at [] m o e = refl
slots-stand s at (t ∷ ts) m o e =
    let q : drop at s ≡ slot_bytes t ++ (each slot_bytes ts ++ m) = e ∙ append_assoc (slot_bytes t) (each slot_bytes ts) m in
    ap₂ {C = List Slot} (λ (a : Slot) (b : List Slot). a ∷ b) (slot-stands s at t (each slot_bytes ts ++ m) o.0 q)
    (slots-stand s (at + 16) ts m o.1 (past s (slot_bytes t) (each slot_bytes ts ++ m) at 16 refl q))
