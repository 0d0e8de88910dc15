-- A loop that puts slots one after another (`Filled`, with its start, step and end), what it leaves, and slots by their places. Assumes nothing.
use Prim.Native.Nat.{ℕ, zero, suc, ◌+◌, ◌*◌, ◌≤◌, ◌<◌}
use mathlib.Core.Path.{◌≡◌, refl, sym, ap, ◌∙◌, subst}
use mathlib.Core.Bool.{true}
use mathlib.Core.List.{List, [], ◌∷◌}
use native.Mathlib.Omega.{arith}
use lib.ListN.{length, take, drop, get_or}
use lib.Seq.{take-length}
use Rattle.image_spec.specs.Parse.{each}
use Rattle.image_spec.proofs.DirectoryLaws.{and_left, and_right}
use Rattle.image_write_parts.specs.Puts.{Puts}
use Rattle.image_write_parts.proofs.Putting.{puts_as, puts-same}
use Rattle.image_write_parts.proofs.Writing.{Written, written_none, written_next}
use Rattle.image_write_bytes.proofs.Covering.{past-put}
use Rattle.step_slots.specs.Slots.{Slot, slot_bytes}
use Rattle.step_slots.specs.Views.{no_slot, slot_at, slots_at, is_slot, all_slots}
use Rattle.step_slots.proofs.SlotBytes.{slot-length, slots-count}
pub use Rattle.step_slots.proofs.SlotPlaces.{slot_of}

-- the first j of these slots are put from `at` on
pub record Filled (ts : List Slot) (before : List ℕ) (at : ℕ) (after : List ℕ) (j : ℕ) : Type 0 where
  pub within : j ≤ length ts
  pub written : Written slot_bytes 16 ts before at after (at + 16 * j) j

pub filled_none : (ts : List Slot) (before : List ℕ) (at : ℕ) → Filled ts before at before 0
filled_none ts before at =
    let k : at ≡ at + 16 * 0 = omega arith in
    record { within = omega arith; written = subst (λ (n : ℕ). Written slot_bytes 16 ts before at before n 0) k (written_none slot_bytes 16 ts before at) }

module _ {ts : List Slot} {before : List ℕ} {at : ℕ} {after : List ℕ} {j : ℕ} (f : Filled ts before at after j) where
  pub filled_next : {next : List ℕ} {r : ℕ} (d t : Slot) → j < length ts → t ≡ get_or ts j d → Puts after next (at + 16 * j) r (slot_bytes t) → Filled ts before at next (j + 1)
  filled_next {next} {r} d t h e q =
      let k : r ≡ at + 16 * (j + 1) = omega (arith, q.ends, slot-length t) in
      let m : length (slot_bytes (get_or ts j d)) ≤ 16 = omega (arith, slot-length (get_or ts j d)) in
      record {
        within = omega arith;
        written = subst (λ (n : ℕ). Written slot_bytes 16 ts before at next n (j + 1)) k (written_next slot_bytes d h m (puts_as (ap slot_bytes e) q) f.written);
      }

  pub filled_all : (n : ℕ) → n ≡ length ts → n ≤ j → Puts before after at (at + 16 * n) (each slot_bytes ts)
  filled_all n e h =
      let k : j ≡ n = omega (arith, f.within) in
      let p : take n ts ≡ ts = ap (λ (i : ℕ). take i ts) e ∙ take-length ts in
      puts_as (ap (each slot_bytes) p) (subst (λ (i : ℕ). Puts before after at (at + 16 * i) (each slot_bytes (take i ts))) k f.written.puts)

  pub filled_same : length after ≡ length before
  filled_same = puts-same f.written.puts

  -- what is behind them stays
  pub filled_kept : (k : ℕ) → at + 16 * j ≤ k → drop k after ≡ drop k before
  filled_kept k h = ap (drop k) f.written.puts.holds ∙ past-put (each slot_bytes (take j ts)) before at k (omega (arith, f.written.puts.ends))

-- ---- slots by their places

pub slot_among : (s : List ℕ) (at n j : ℕ) → j < n → all_slots (slots_at s at n) ≡ true → is_slot (slot_at s (at + 16 * j)) ≡ true
slot_among s at n j h o = ap is_slot (sym (slot_of s at n j h)) ∙ go (slots_at s at n) j (omega (arith, slots-count s at n)) o
  where
    go : (ts : List Slot) (j : ℕ) → j < length ts → all_slots ts ≡ true → is_slot (get_or ts j no_slot) ≡ true
    go [] j h o = absurd (omega arith)
    go (t ∷ ts) zero h o = and_left (is_slot t) (all_slots ts) o
    go (t ∷ ts) (suc j) h o = go ts j (omega arith) (and_right (is_slot t) (all_slots ts) o)
