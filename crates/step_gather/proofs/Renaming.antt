-- Slots under other IDs: how many, the one at a place, the bytes that change, and the IDs of a row without bytes. Assumes nothing.
use Prim.Native.Nat.{ℕ, zero, suc, ◌+◌, ◌*◌, ◌≤◌, ◌<◌}
use mathlib.Core.Path.{◌≡◌, refl, sym, ap, ◌∙◌}
use mathlib.Core.Bool.{true}
use mathlib.Core.List.{List, [], ◌∷◌, ◌++◌, map}
use native.Mathlib.Omega.{arith}
use lib.ListN.{length, drop, get_or}
use lib.Seq.{sets}
use Rattle.syntax.specs.declared.names.VarId.{VarId}
use Rattle.image_spec.specs.Parse.{field, each}
use Rattle.image_write_parts.specs.Puts.{Puts}
use Rattle.image_write_parts.proofs.Putting.{sets_append, sets_before}
use Rattle.step_slots.specs.Slots.{Slot, slot_bytes}
use Rattle.step_slots.specs.Views.{no_slot, slot_at, slots_at, all_slots}
use Rattle.step_slots.proofs.SlotLaws.{past}
use Rattle.step_slots.proofs.SlotBytes.{Standing, standing, slots-count}
use Rattle.step_entries.specs.Named.{under}
use Rattle.step_rows.specs.Placing.{identified, number_at, ids_from}
use Rattle.step_write.proofs.Regions.{sets_same}
use Rattle.step_gather.specs.Gathering.{renamed}
use Rattle.step_gather.proofs.Filling.{Filled, filled_next, filled_kept, slot_of, slot_among}

pub renamed-length : (xs : List VarId) (ts : List Slot) → length xs ≡ length ts → length (renamed xs ts) ≡ length xs
unfolding renamed
renamed-length [] ts e = refl
renamed-length (x ∷ xs) [] e = absurd (omega arith)
renamed-length (x ∷ xs) (t ∷ ts) e = ap suc (renamed-length xs ts (omega arith))

pub renamed-at : (xs : List VarId) (ts : List Slot) (j : ℕ) (y : VarId) (d : Slot) → j < length xs → j < length ts → get_or (renamed xs ts) j d ≡ under (get_or xs j y).0 (get_or ts j d)
unfolding renamed
renamed-at [] ts j y d h k = absurd (omega arith)
renamed-at (x ∷ xs) [] j y d h k = absurd (omega arith)
renamed-at (x ∷ xs) (t ∷ ts) zero y d h k = refl
renamed-at (x ∷ xs) (t ∷ ts) (suc j) y d h k = renamed-at xs ts j y d (omega arith) (omega arith)

-- an ID written into the bytes of a slot that stands makes them those of the slot under that ID
pub id-put : (s : List ℕ) (at i : ℕ) (t : Slot) → Standing s at t → sets s (at + 4) (field 4 i) ≡ sets s at (slot_bytes (under i t))
id-put s at i t o =
    let front = t.sort ∷ 0 ∷ 0 ∷ 0 ∷ [] in
    let behind = field 8 t.payload in
    let rest = drop (at + 16) s in
    let a : drop (at + 4) s ≡ field 4 t.id ++ (behind ++ rest) = past s front (field 4 t.id ++ (behind ++ rest)) at 4 refl o.bytes in
    let b : drop (at + 4 + 4) s ≡ behind ++ rest = past s (field 4 t.id) (behind ++ rest) (at + 4) 4 refl a in
    let stays : sets s (at + 4 + 4) behind ≡ s = sets_same behind s (at + 4 + 4) rest b in
    sym (sets_append front s at (field 4 i ++ behind)
    ∙ (ap (λ (z : List ℕ). sets z (at + 4) (field 4 i ++ behind)) (sets_same front s at (field 4 t.id ++ (behind ++ rest)) o.bytes)
    ∙ (sets_append (field 4 i) s (at + 4) behind
    ∙ (sym (sets_before (field 4 i) s (at + 4) (at + 4 + 4) behind (omega arith)) ∙ ap (λ (z : List ℕ). sets z (at + 4) (field 4 i)) stays))))

-- a slot stands where what is from it on is the same
pub standing-kept : {s s' : List ℕ} {at : ℕ} {t : Slot} → ((k : ℕ) → at ≤ k → drop k s' ≡ drop k s) → Standing s at t → Standing s' at t
standing-kept {s} {s'} {at} {t} h o = record {
  ok = o.ok;
  bytes = h at (omega arith) ∙ (o.bytes ∙ ap (λ (z : List ℕ). slot_bytes t ++ z) (sym (h (at + 16) (omega arith))));
}

-- the turn of the loop: the first j have their IDs, and one more gets its own
pub renamed-next : (xs : List VarId) (before : List ℕ) (at n : ℕ) {after next : List ℕ} {j r : ℕ} (i : ℕ) → length xs ≡ n → all_slots (slots_at before at n) ≡ true → j < n
    → i ≡ (get_or xs j (identified 0)).0 → Puts after next (at + 16 * j + 4) r (field 4 i) → Filled (renamed xs (slots_at before at n)) before at after j
    → Filled (renamed xs (slots_at before at n)) before at next (j + 1)
renamed-next xs before at n {after} {next} {j} i k o h e p f =
    let here = at + 16 * j in
    let ts = slots_at before at n in
    let t = slot_at before here in
    let c = slots-count before at n in
    let stands : Standing after here t = standing-kept (filled_kept f) (standing before here (slot_among before at n j h o)) in
    let a : under i t ≡ get_or (renamed xs ts) j no_slot =
    ap (λ (z : ℕ). under z t) e
    ∙ (ap (λ (z : Slot). under (get_or xs j (identified 0)).0 z) (sym (slot_of before at n j h)) ∙ sym (renamed-at xs ts j (identified 0) no_slot (omega (arith, k, h)) (omega (arith, c, h)))) in
    let q : Puts after next here (here + 16) (slot_bytes (under i t)) = record { holds = p.holds ∙ id-put after here i t stands; ends = refl } in
    filled_next f no_slot (under i t) (omega (arith, k, c, h, renamed-length xs ts (k ∙ sym c))) a q

-- n numbers of no bytes are zeros
renamed_zero : (bytes : List ℕ) (from : ℕ) (ts : List Slot) → renamed (ids_from bytes 0 0 from (length ts)) ts ≡ map (under 0) ts
unfolding renamed ids_from number_at
renamed_zero bytes from [] = refl
renamed_zero bytes from (t ∷ ts) = ap (λ (z : List Slot). under 0 t ∷ z) (renamed_zero bytes (from + 0) ts)

pub put-zeros : (bytes : List ℕ) (from n : ℕ) (s s' : List ℕ) (at : ℕ) → s' ≡ sets s at (each slot_bytes (renamed (ids_from bytes 0 0 from n) (slots_at s at n)))
    → s' ≡ sets s at (each slot_bytes (map (under 0) (slots_at s at n)))
put-zeros bytes from n s s' at e =
    let ts = slots_at s at n in
    let k : n ≡ length ts = sym (slots-count s at n) in
    e ∙ ap (λ (us : List Slot). sets s at (each slot_bytes us)) (ap (λ (i : ℕ). renamed (ids_from bytes 0 0 from i) ts) k ∙ renamed_zero bytes from ts)
