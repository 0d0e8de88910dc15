-- What is gathered, renamed and shown, in the model: lookups, pairs of IDs and values, the values of an event. Assumes nothing.
use Prim.Native.Nat.{ℕ, suc}
use mathlib.Core.Path.{◌≡◌, refl, sym, ap, ap₂, ◌∙◌}
use mathlib.Core.Bool.{Bool, true, false, ◌&&◌, false≢true}
use mathlib.Core.List.{List, [], ◌∷◌, map}
use mathlib.Core.Option.{Option, none, some}
use native.Mathlib.Omega.{arith}
use lib.ListN.{length, get_or}
use Rattle.syntax.specs.declared.names.VarId.{VarId}
use Rattle.model.specs.Syntax.{Prog}
use Rattle.model.specs.Lists.{lookup, lookups, both, zip}
use Rattle.model.specs.Machine.{Value, int, cell, outside, Entries, values, pair_up, and_first}
use Rattle.image_spec.specs.Parse.{All}
use Rattle.step_slots.specs.Slots.{Slot, slot, value_slot}
use Rattle.step_slots.specs.Views.{no_slot, is_slot}
use Rattle.step_spec.specs.Located.{Machine, Located}
use Rattle.step_spec.specs.Store.{place_of, entry_slot, environment_of, ValueFits, EntryFits}
use Rattle.step_spec.specs.Events.{shown_slot}
use Rattle.step_spec.proofs.Representable.{lookups-fit}
use Rattle.step_header.specs.declared.Header.{Header}
use Rattle.step_header.specs.Headers.{heap_in, entries_in}
use Rattle.step_entries.specs.Named.{named, slot_or_none, under}
use Rattle.step_entries.proofs.NamedLaws.{lookup-named}
use Rattle.step_rule.specs.Rules.{Stored}
use Rattle.step_rule.proofs.Views.{viewed}
use Rattle.step_gather.specs.Gathering.{all_found_lem, found_slots, renamed, shown_as}
use Rattle.step_gather.proofs.CellNumbers.{cell-number}

module _ (of : ℕ → ℕ) where
  value-slot : (x : ℕ) (v : Value) → is_slot (value_slot of x v) ≡ true
  value-slot x (int z) = refl
  value-slot x (cell k) = refl
  value-slot x (outside k) = refl

  value-under : (x y : ℕ) (v : Value) → under x (value_slot of y v) ≡ value_slot of x v
  value-under x y (int z) = refl
  value-under x y (cell k) = refl
  value-under x y (outside k) = refl

  -- ---- IDs with values

  pub zipped : (xs : List VarId) (vs : List Value) → map (entry_slot of) (zip xs vs) ≡ renamed xs (map (value_slot of 0) vs)
  unfolding renamed
  zipped [] vs = refl
  zipped (x ∷ xs) [] = refl
  zipped (x ∷ xs) (v ∷ vs) = ap₂ {C = List Slot} (λ (t : Slot) (ts : List Slot). t ∷ ts) (sym (value-under x.0 0 v)) (zipped xs vs)

  -- as many IDs as values: their pairs, and the slots of these
  pub record Paired (xs : List VarId) (vs : List Value) : Type 0 where
    pub new : Entries
    pub pairs : pair_up xs vs ≡ some new
    pub slots : map (entry_slot of) new ≡ renamed xs (map (value_slot of 0) vs)

  pub paired : (xs : List VarId) (vs : List Value) → length xs ≡ length vs → Paired xs vs
  paired xs vs e = record { new = zip xs vs; pairs = go xs vs e; slots = zipped xs vs }
    where
      go : (xs : List VarId) (vs : List Value) → length xs ≡ length vs → pair_up xs vs ≡ some (zip xs vs)
      go [] [] e = refl
      go [] (v ∷ vs) e = absurd (omega arith)
      go (x ∷ xs) [] e = absurd (omega arith)
      go (x ∷ xs) (v ∷ vs) e = ap (and_first x v) (go xs vs (omega arith))

  -- entries under other IDs
  pub renamed-values : (xs : List VarId) (ε : Entries) → renamed xs (map (entry_slot of) ε) ≡ renamed xs (map (value_slot of 0) (values ε))
  unfolding renamed
  renamed-values [] ε = refl
  renamed-values (x ∷ xs) [] = refl
  renamed-values (x ∷ xs) (e ∷ ε) =
      ap₂ {C = List Slot} (λ (t : Slot) (ts : List Slot). t ∷ ts) (value-under x.0 e.0.0 e.1 ∙ sym (value-under x.0 0 e.1)) (renamed-values xs ε)

  -- .. and under none
  pub erased : (ε : Entries) → map (under 0) (map (entry_slot of) ε) ≡ map (value_slot of 0) (values ε)
  erased [] = refl
  erased (e ∷ ε) = ap₂ {C = List Slot} (λ (t : Slot) (ts : List Slot). t ∷ ts) (value-under 0 e.0.0 e.1) (erased ε)

  -- ---- lookups

  -- what the lookups give is what is found
  data Finds (E : List Slot) (xs : List VarId) : Option (List Value) → Type 0 where
    one-absent : all_found_lem E xs ≡ false → Finds E xs none
    all_there : {vs : List Value} → all_found_lem E xs ≡ true → found_slots E xs ≡ map (value_slot of 0) vs → Finds E xs (some vs)

  finds : (ε : Entries) (xs : List VarId) → Finds (map (entry_slot of) ε) xs (lookups xs ε)
  finds ε [] = all_there refl refl
  finds ε (x ∷ xs) = go (lookup x ε) (lookups xs ε) (lookup-named of x ε) (finds ε xs)
    where
      go : (o : Option Value) (os : Option (List Value)) → named x.0 (map (entry_slot of) ε) ≡ slot_or_none of x.0 o → Finds (map (entry_slot of) ε) xs os
          → Finds (map (entry_slot of) ε) (x ∷ xs) (both o os)
      go none os e f = one-absent (ap (λ (t : Slot). is_slot t && all_found_lem (map (entry_slot of) ε) xs) e)
      go (some v) none e (one-absent f) = one-absent (ap₂ (λ (a b : Bool). a && b) (ap is_slot e ∙ value-slot x.0 v) f)
      go (some v) (some vs) e (all_there f q) = all_there
          (ap₂ (λ (a b : Bool). a && b) (ap is_slot e ∙ value-slot x.0 v) f)
          (ap₂ {C = List Slot} (λ (t : Slot) (ts : List Slot). t ∷ ts) (ap (under 0) e ∙ value-under 0 x.0 v) q)

-- another count of values than of IDs
pub unpaired : (xs : List VarId) (vs : List Value) → (length xs ≡ length vs → ⊥) → pair_up xs vs ≡ none
unpaired [] [] e = absurd (e refl)
unpaired [] (v ∷ vs) e = refl
unpaired (x ∷ xs) [] e = refl
unpaired (x ∷ xs) (v ∷ vs) e = ap (and_first x v) (unpaired xs vs (λ q. e (ap suc q)))

-- the values of variables that are all there: their slots, and that they fit where there are n cells
pub record Gathered (of : ℕ → ℕ) (n : ℕ) (E : List Slot) (ε : Entries) (xs : List VarId) : Type 0 where
  pub found : List Value
  pub looked : lookups xs ε ≡ some found
  pub slots : found_slots E xs ≡ map (value_slot of 0) found
  pub fit : All (ValueFits n) found

module _ {M : Machine} {P : Prog} {store : List ℕ} {h : Header} {l : Located} (o : Stored M P store h l) where
  abbrev of : ℕ → ℕ
  of = place_of l.cells

  entries : entries_in store h ≡ map (entry_slot of) l.environment
  unfolding environment_of
  entries = (viewed o).entries

  pub gathered : (xs : List VarId) → all_found_lem (entries_in store h) xs ≡ true → Gathered (place_of l.cells) (length l.cells) (entries_in store h) l.environment xs
  gathered xs e = go (lookups xs l.environment) refl (finds of l.environment xs)
    where
      go : (v : Option (List Value)) → lookups xs l.environment ≡ v → Finds of (map (entry_slot of) l.environment) xs v
          → Gathered of (length l.cells) (entries_in store h) l.environment xs
      go none q (one-absent f) = absurd (false≢true (sym f ∙ (ap (λ (E : List Slot). all_found_lem E xs) (sym entries) ∙ e)))
      go (some vs) q (all_there f s) = record {
        found = vs;
        looked = q;
        slots = ap (λ (E : List Slot). found_slots E xs) entries ∙ s;
        fit = lookups-fit (length l.cells) xs l.environment vs (viewed o).fits.environment q;
      }

  pub not_gathered : (xs : List VarId) → all_found_lem (entries_in store h) xs ≡ false → lookups xs l.environment ≡ none
  not_gathered xs e = go (lookups xs l.environment) (finds of l.environment xs)
    where
      go : (v : Option (List Value)) → Finds of (map (entry_slot of) l.environment) xs v → v ≡ none
      go none f = refl
      go (some vs) (all_there f s) = absurd (false≢true (sym e ∙ (ap (λ (E : List Slot). all_found_lem E xs) entries ∙ f)))

  -- ---- what an event shows

  pub shown_as_lem : (i : ℕ) (v : Value) → ValueFits (length l.cells) v → shown_as (heap_in store h) (value_slot (place_of l.cells) i v) ≡ shown_slot v
  shown_as_lem i (int z) f = refl
  shown_as_lem i (cell k) f = ap (slot 1 0) (ap (λ (H : List Slot). (get_or H (of k) no_slot).payload) (viewed o).heap ∙ cell-number l.cells k f)
  shown_as_lem i (outside n) f = refl

  pub shown-values : (vs : List Value) → All (ValueFits (length l.cells)) vs → map (shown_as (heap_in store h)) (map (value_slot (place_of l.cells) 0) vs) ≡ map shown_slot vs
  shown-values [] f = refl
  shown-values (v ∷ vs) f = ap₂ {C = List Slot} (λ (t : Slot) (ts : List Slot). t ∷ ts) (shown_as_lem 0 v f.0) (shown-values vs f.1)

  pub shown-entries : (ε : Entries) → All (EntryFits (length l.cells)) ε → map (shown_as (heap_in store h)) (map (entry_slot (place_of l.cells)) ε) ≡ map shown_slot (values ε)
  shown-entries [] f = refl
  shown-entries (e ∷ ε) f = ap₂ {C = List Slot} (λ (t : Slot) (ts : List Slot). t ∷ ts) (shown_as_lem e.0.0 e.1 f.0.1) (shown-entries ε f.1)
