-- The last k entries of a linear list and those before them: how many there are, as slots, and as bytes of a store. Assumes nothing.
use Prim.Native.Nat.{ℕ, suc, ◌+◌, ◌-◌, ◌*◌, ◌≤◌}
use mathlib.Core.Path.{◌≡◌, refl, sym, ap, ◌∙◌}
use mathlib.Core.Bool.{true, false≢true}
use mathlib.Core.List.{List, [], ◌∷◌, ◌++◌, map, append_assoc}
use native.Mathlib.Omega.{arith}
use lib.ListN.{length, take, drop, length-drop, length-map, take-append-drop}
use lib.Seq.{length-take-le, take_at}
use Rattle.std.proofs.lemmas.List.{take-map, drop-map}
use Rattle.syntax.specs.Names.{same_var_id}
use Rattle.syntax.specs.declared.names.VarId.{VarId}
use Rattle.model.specs.Syntax.{Prog}
use Rattle.model.specs.Machine.{Value, keys}
use Rattle.model.specs.Linear.{last_of, before_last, same_ids, ends_in_lem}
use Rattle.image_spec.specs.Parse.{each}
use Rattle.image_spec.proofs.DirectoryLaws.{and_right}
use Rattle.step_slots.specs.Slots.{slot_bytes}
use Rattle.step_slots.specs.Views.{slots_at, all_slots}
use Rattle.step_slots.proofs.SlotLaws.{past}
use Rattle.step_slots.proofs.SlotBytes.{slots-bytes, slots-count, slots_length}
use Rattle.step_spec.specs.Located.{Machine, Located}
use Rattle.step_spec.specs.Store.{place_of, entry_slot, environment_of}
use Rattle.step_spec.proofs.Lists.{each-++}
use Rattle.step_header.specs.declared.Header.{Header}
use Rattle.step_header.specs.Headers.{entries_in}
use Rattle.step_rule.specs.Rules.{Stored}
use Rattle.step_rule.proofs.Views.{viewed}
pub use Rattle.step_rule.proofs.Views.{environment-count}

-- ── of any list ──

module _ {A B : Type 0} (f : A → B) where
  pub map_last : (k : ℕ) (l : List A) → map f (last_of k l) ≡ last_of k (map f l)
  map_last k l = sym (drop-map f (length l - k) l) ∙ ap (λ (n : ℕ). drop (n - k) (map f l)) (sym (length-map l f))

  pub map-before : (k : ℕ) (l : List A) → map f (before_last k l) ≡ before_last k (map f l)
  map-before k l = sym (take-map f (length l - k) l) ∙ ap (λ (n : ℕ). take (n - k) (map f l)) (sym (length-map l f))

-- ── IDs ──

same_count : (xs ys : List VarId) → same_ids xs ys ≡ true → length xs ≡ length ys
same_count [] [] e = refl
same_count [] (y ∷ ys) e = absurd (false≢true e)
same_count (x ∷ xs) [] e = absurd (false≢true e)
same_count (x ∷ xs) (y ∷ ys) e = ap suc (same_count xs ys (and_right (same_var_id x y) (same_ids xs ys) e))

-- IDs that a list ends in are not more than it has
pub ends-within : (xs l : List VarId) → ends_in_lem xs l ≡ true → length xs ≤ length l
ends-within xs l e = omega (arith, same_count (last_of (length xs) l) xs e, length-drop (length l - length xs) l)

-- ── slots that stand in bytes ──

module _ (s : List ℕ) (at n : ℕ) (stand : all_slots (slots_at s at n) ≡ true) (j : ℕ) (within : j ≤ n) where
  abbrev front : List ℕ
  front = each slot_bytes (take j (slots_at s at n))

  abbrev back : List ℕ
  back = each slot_bytes (drop j (slots_at s at n))

  front_length : length front ≡ 16 * j
  front_length = slots_length (take j (slots_at s at n)) ∙ ap (λ (k : ℕ). 16 * k) (length-take-le j (slots_at s at n) (omega (arith, slots-count s at n)))

  back-length : length back ≡ 16 * (n - j)
  back-length = slots_length (drop j (slots_at s at n)) ∙ ap (λ (k : ℕ). 16 * k) (length-drop j (slots_at s at n) ∙ ap (λ (k : ℕ). k - j) (slots-count s at n))

  parts : drop at s ≡ front ++ (back ++ drop (at + 16 * n) s)
  parts =
      let T = slots_at s at n in
      slots-bytes s at n stand
      ∙ (ap (λ (z : List ℕ). z ++ drop (at + 16 * n) s) (ap (each slot_bytes) (sym (take-append-drop j T)) ∙ each-++ slot_bytes (take j T) (drop j T))
      ∙ append_assoc front back (drop (at + 16 * n) s))

  -- the first j of n slots
  pub first_taken : take (16 * j) (drop at s) ≡ each slot_bytes (take j (slots_at s at n))
  first_taken = ap (take (16 * j)) parts ∙ take_at front (back ++ drop (at + 16 * n) s) (16 * j) front_length

  -- .. and the others
  pub others-taken : take (16 * (n - j)) (drop (at + 16 * j) s) ≡ each slot_bytes (drop j (slots_at s at n))
  others-taken =
      ap (take (16 * (n - j))) (past s front (back ++ drop (at + 16 * n) s) at (16 * j) front_length parts)
      ∙ take_at back (drop (at + 16 * n) s) (16 * (n - j)) back-length

-- ── the entries of a store ──

module _ {M : Machine} {P : Prog} {store : List ℕ} {h : Header} {l : Located} (o : Stored M P store h l) where
  pub entries-count : length (entries_in store h) ≡ h.entries
  entries-count = slots-count store (64 + 16 * h.heap) h.entries

  -- IDs that it ends in are not more
  pub ends-entries : (xs : List VarId) → ends_in_lem xs (keys l.environment) ≡ true → length xs ≤ h.entries
  ends-entries xs e = omega (arith, ends-within xs (keys l.environment) e, length-map l.environment (λ (x : VarId × Value). x.0), environment-count o)

  module _ (k : ℕ) where
    -- their slots
    pub last-slots : environment_of l.cells (last_of k l.environment) ≡ drop (h.entries - k) (entries_in store h)
    unfolding environment_of
    last-slots =
        map_last (entry_slot (place_of l.cells)) k l.environment
        ∙ (ap (last_of k) (sym (viewed o).entries) ∙ ap (λ (n : ℕ). drop (n - k) (entries_in store h)) entries-count)

    pub before-slots : environment_of l.cells (before_last k l.environment) ≡ take (h.entries - k) (entries_in store h)
    unfolding environment_of
    before-slots =
        map-before (entry_slot (place_of l.cells)) k l.environment
        ∙ (ap (before_last k) (sym (viewed o).entries) ∙ ap (λ (n : ℕ). take (n - k) (entries_in store h)) entries-count)

    -- their bytes
    pub last-bytes : k ≤ h.entries → take (16 * k) (drop (64 + 16 * h.heap + 16 * (h.entries - k)) store) ≡ each slot_bytes (drop (h.entries - k) (entries_in store h))
    last-bytes within =
        let i : k ≡ h.entries - (h.entries - k) = omega (arith, within) in
        ap (λ (n : ℕ). take (16 * n) (drop (64 + 16 * h.heap + 16 * (h.entries - k)) store)) i
        ∙ others-taken store (64 + 16 * h.heap) h.entries (viewed o).entries_slots (h.entries - k) (omega arith)

    pub before-bytes : take (16 * (h.entries - k)) (drop (64 + 16 * h.heap) store) ≡ each slot_bytes (take (h.entries - k) (entries_in store h))
    before-bytes = first_taken store (64 + 16 * h.heap) h.entries (viewed o).entries_slots (h.entries - k) (omega arith)
