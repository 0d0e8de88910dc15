-- Slots in a store: their IDs are in its bytes, `slot_inside`, and are a row where the slots stand, `slot_row`. Assumes nothing.
use Prim.Native.Nat.{ℕ, ◌+◌, ◌*◌, ◌≤◌}
use mathlib.Core.Path.{◌≡◌, refl, sym, ap, ◌∙◌, subst}
use mathlib.Core.Bool.{Bool, true}
use mathlib.Core.List.{List, [], ◌∷◌, ◌++◌, map}
use native.Mathlib.Omega.{arith}
use lib.ListN.{length, drop}
use Rattle.image_spec.specs.Parse.{got, only_if, times, each, All, field}
use Rattle.image_spec.proofs.ParseLaws.{Sound, one-read, times_exact}
use Rattle.step_slots.specs.Slots.{Slot, slot_bytes, SlotOk, slot_parser}
use Rattle.step_slots.specs.Views.{slots_at, all_slots}
use Rattle.step_slots.proofs.SlotLaws.{slot_exact, slots_parse}
use Rattle.step_rows.specs.declared.places.Places.{Places}
use Rattle.step_rows.specs.Rows.{slot_id}
use Rattle.step_rows.specs.Placing.{ids_from, ids_in, Inside, slot_places_lem}
use Rattle.step_rows.proofs.ElementRows.{Written, each_row}

slot-written : Written slot_bytes SlotOk slot_id 16 4 4
slot-written = record {
  size = λ t. refl;
  front = λ t. t.sort ∷ 0 ∷ 0 ∷ 0 ∷ [];
  back = λ t. field 8 t.payload;
  parts = λ t. refl;
  before = λ t. refl;
  below = λ t o. o.1.1.0;
}

-- slots that stand are their bytes
pub record Stood (s : List ℕ) (at n : ℕ) (ts : List Slot) : Type 0 where
  pub others : List ℕ
  pub ok : All SlotOk ts
  pub bytes : drop at s ≡ each slot_bytes ts ++ others
  pub count : length ts ≡ n

pub stood : (s : List ℕ) (at n : ℕ) → all_slots (slots_at s at n) ≡ true → Stood s at n (slots_at s at n)
stood s at n h = go (subst (Sound (each slot_bytes) (λ ts. (length ts ≡ n) × All SlotOk ts) (drop at s)) e ((times_exact slot_exact n).right (drop at s)))
  where
    e : times n slot_parser (drop at s) ≡ got (slots_at s at n) (drop (at + 16 * n) s)
    e = slots_parse s at n ∙ ap (λ (b : Bool). only_if b (got (slots_at s at n) (drop (at + 16 * n) s))) h

    go : {ts : List Slot} {m : List ℕ} → Sound (each slot_bytes) (λ ts. (length ts ≡ n) × All SlotOk ts) (drop at s) (got ts m) → Stood s at n ts
    go {ts} {m} (one-read p q) = record { others = m; ok = p.1; bytes = q; count = p.0 }

pub slot_inside : (s : List ℕ) (at n : ℕ) {row : Places} → row ≡ slot_places_lem at n → at + 16 * n ≤ length s → Inside s row
slot_inside s at n q r = subst (Inside s) (sym q) record { width = omega arith; element = omega arith; room = r }

pub slot_row : (s : List ℕ) (at n : ℕ) {row : Places} → row ≡ slot_places_lem at n → all_slots (slots_at s at n) ≡ true → ids_in s row ≡ map slot_id (slots_at s at n)
slot_row s at n q h =
    let t = stood s at n h in
    ap (ids_in s) q ∙ (ap (ids_from s 16 4 (at + 4)) (sym t.count) ∙ each_row slot-written s at (slots_at s at n) t.others t.ok t.bytes)
