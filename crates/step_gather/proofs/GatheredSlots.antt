-- Slots that were put stand there; so do those that were gathered. Assumes nothing.
use Prim.Native.Nat.{ℕ, ◌+◌, ◌*◌, ◌≤◌}
use mathlib.Core.Path.{◌≡◌, refl, sym, ap, ap₂, ◌∙◌}
use mathlib.Core.Bool.{Bool, true, false, ◌&&◌, cond, false≢true}
use mathlib.Core.List.{List, [], ◌∷◌, ◌++◌, append_assoc}
use native.Mathlib.Omega.{arith}
use lib.Dec.{eqb}
use lib.ListN.{length, take, drop, length-map}
use lib.Seq.{sets, sets-eq, drop_at, length-take-le}
use Rattle.syntax.specs.declared.names.VarId.{VarId}
use Rattle.image_spec.specs.Parse.{each, All}
use Rattle.image_spec.proofs.DirectoryLaws.{and_left, and_right}
use Rattle.step_slots.specs.Slots.{Slot, slot_bytes, SlotOk}
use Rattle.step_slots.specs.Views.{slots_at, is_slot, all_slots}
use Rattle.step_slots.proofs.SlotLaws.{slots-stand}
use Rattle.step_slots.proofs.SlotBytes.{slots_length}
pub use Rattle.step_slots.proofs.SlotPlaces.{slots-ok}
use Rattle.step_entries.specs.Named.{named, under}
use Rattle.step_gather.specs.Gathering.{all_found_lem, found_slots, Gathers}

drop-put : (s xs : List ℕ) (at : ℕ) → at + length xs ≤ length s → drop at (sets s at xs) ≡ xs ++ drop (at + length xs) s
drop-put s xs at h =
    let k : length (take at s) ≡ at = length-take-le at s (omega arith) in
    ap (drop at) (sets-eq xs s at h ∙ append_assoc (take at s) xs (drop (at + length xs) s)) ∙ drop_at (take at s) (xs ++ drop (at + length xs) s) at k

pub slots-put : (s : List ℕ) (at : ℕ) (ts : List Slot) → All SlotOk ts → at + 16 * length ts ≤ length s → slots_at (sets s at (each slot_bytes ts)) at (length ts) ≡ ts
slots-put s at ts o h = slots-stand (sets s at (each slot_bytes ts)) at ts _ o (drop-put s (each slot_bytes ts) at (omega (arith, h, slots_length ts)))

named_ok : (E : List Slot) (x : ℕ) → All SlotOk E → is_slot (named x E) ≡ true → SlotOk (named x E)
unfolding named
named_ok [] x o h = absurd (false≢true h)
named_ok (t ∷ E) x o h = go (eqb x t.id) h (named_ok E x o.1)
  where
    go : (b : Bool) → is_slot (cond b t (named x E)) ≡ true → (is_slot (named x E) ≡ true → SlotOk (named x E)) → SlotOk (cond b t (named x E))
    go true h k = o.0
    go false h k = k h

pub found_ok : (E : List Slot) (xs : List VarId) → All SlotOk E → all_found_lem E xs ≡ true → All SlotOk (found_slots E xs)
found_ok E [] o h = tt
found_ok E (x ∷ xs) o h =
    let t = named x.0 E in
    let k = named_ok E x.0 o (and_left (is_slot t) (all_found_lem E xs) h) in
    ((k.0, (tt, (omega arith, k.1.1.1))), found_ok E xs o (and_right (is_slot t) (all_found_lem E xs) h))

-- slots that are found are slots
pub found-slots : (E : List Slot) (xs : List VarId) → all_slots (found_slots E xs) ≡ all_found_lem E xs
found-slots E [] = refl
found-slots E (x ∷ xs) = ap (λ (b : Bool). is_slot (named x.0 E) && b) (found-slots E xs)

-- what was gathered stands where it was put
module _ {E : List Slot} {xs : List VarId} {out : List ℕ} {to : ℕ} {out' : List ℕ} {r : Bool} (g : Gathers E xs out to out' r) (o : All SlotOk E) (e : r ≡ true)
    (room : to + 16 * length xs ≤ length out) where
  pub gathered-stand : slots_at out' to (length xs) ≡ found_slots E xs
  gathered-stand =
      let ts = found_slots E xs in
      let k : length ts ≡ length xs = length-map xs (λ (x : VarId). under 0 (named x.0 E)) in
      ap₂ {C = List Slot} (λ (b : List ℕ) (i : ℕ). slots_at b to i) (g.put e) (sym k) ∙ slots-put out to ts (found_ok E xs o (sym g.found ∙ e)) (omega (arith, room, k))

  pub gathered-slots : all_slots (slots_at out' to (length xs)) ≡ true
  gathered-slots = ap all_slots gathered-stand ∙ (found-slots E xs ∙ (sym g.found ∙ e))
