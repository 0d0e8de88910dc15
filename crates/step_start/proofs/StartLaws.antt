-- The state before the first step: its bytes, that a store can be read as it, and that with a flag it is the start of either machine. Assumes nothing.
use Prim.Native.Nat.{ℕ, ◌+◌, ◌*◌, ◌^◌, ◌≤◌}
use mathlib.Core.Path.{◌≡◌, refl, sym, ap, ◌∙◌}
use mathlib.Core.Bool.{Bool, true, false, cond}
use mathlib.Core.List.{List, [], ◌∷◌, ◌++◌, map}
use mathlib.Core.Option.{Option, none, some}
use native.Mathlib.Omega.{arith}
use lib.ListN.{length, length-map}
use Rattle.syntax.specs.Context.{id_of, ids}
use Rattle.syntax.specs.Sets.{distinct}
use Rattle.syntax.specs.declared.names.VarId.{VarId}
use Rattle.model.specs.Syntax.{Def, Prog}
use Rattle.model.specs.Machine.{Value, Entries, keys, State, at, nth, and_first, pair_up, Given, integer, outside_number, value}
use Rattle.model.specs.Source.{source_begun, source_start_at, source_start, source_step_lem}
use Rattle.model.specs.Linear.{stopped_if_twice, linear_begun, linear_start_at, linear_start, linear_step_lem}
use Rattle.image_spec.specs.Parse.{each, All}
use Rattle.image_spec.specs.Shape.{DefOk}
use Rattle.image_places_spec.proofs.PlaceLaws.{stmt_is}
use Rattle.step_slots.specs.Slots.{Slot, slot_bytes, value_slot}
use Rattle.step_spec.specs.declared.MachineKind.{MachineKind}
use Rattle.step_spec.specs.declared.MachineKind.TheVariants.{Source, Linear}
use Rattle.step_spec.specs.Located.{source_machine, linear_machine, Located, project, is_stop, definition_place, start_of, located_start}
use Rattle.step_spec.specs.Store.{place_of, heap_of, environment_of, header_of, header_bytes, raw_of, store_bytes}
use Rattle.step_spec.proofs.Standing.{definition-stands}
use Rattle.step_spec.proofs.Stored.{store-size}
use Rattle.step_spec.proofs.Representable.{DefsOk}
use Rattle.step_spec.proofs.Sound.{GivenFits, source_lawful, Sound}
use Rattle.step_spec.proofs.Reached.{reached-start}
use Rattle.step_header.specs.Headers.{tuple_of}
use Rattle.step_gather.specs.Gathering.{renamed}
use Rattle.step_gather.proofs.GatheringLaws.{Paired, paired}
use Rattle.step_values.proofs.ValueLaws.{given_slot}
use Rattle.step_rule.specs.Rules.{machine_for}
use Rattle.step_settle.specs.Settling.{flagged}
use Rattle.step_start.specs.Starting.{first_header_lem, start_stops}

-- given values have no cells: their slots do not depend on where cells are
given-slots : (of : ℕ → ℕ) (vs : List Given) → map (value_slot of 0) (map value vs) ≡ map given_slot vs
given-slots of [] = refl
given-slots of (integer z ∷ vs) = ap (λ (ts : List Slot). given_slot (integer z) ∷ ts) (given-slots of vs)
given-slots of (outside_number n ∷ vs) = ap (λ (ts : List Slot). given_slot (outside_number n) ∷ ts) (given-slots of vs)

-- the IDs of entries are those that were paired up
paired-keys : (xs : List VarId) (vs : List Value) (ε : Entries) → pair_up xs vs ≡ some ε → keys ε ≡ xs
paired-keys [] [] ε e = let q : ε ≡ [] = cc in ap keys q
paired-keys [] (v ∷ vs) ε e = let z : ◌≡◌ {A = ℕ} 0 1 = cc in absurd (omega arith)
paired-keys (x ∷ xs) [] ε e = let z : ◌≡◌ {A = ℕ} 0 1 = cc in absurd (omega arith)
paired-keys (x ∷ xs) (v ∷ vs) ε e = go (pair_up xs vs) refl e (λ l p. paired-keys xs vs l p)
  where
    go : (o : Option Entries) → pair_up xs vs ≡ o → and_first x v o ≡ some ε → ((l : Entries) → pair_up xs vs ≡ some l → keys l ≡ xs) → keys ε ≡ x ∷ xs
    go none p f k = let z : ◌≡◌ {A = ℕ} 0 1 = cc in absurd (omega arith)
    go (some l) p f k = let q : ε ≡ (x, v) ∷ l = cc in ap keys q ∙ ap (λ (ys : List VarId). x ∷ ys) (k l p)

-- the state before the first step, its stopped flag clear
abbrev pub first : Prog → ℕ → Entries → Located
first P n ε = record { position = definition_place n P.defs 0; environment = ε; cells = []; has_ended = false; has_stopped = false }

module _ (P : Prog) (shallow : All DefOk P.defs) (n : ℕ) (d : Def) (found : nth n P.defs ≡ some d) (vs : List Given) (count : length d.context ≡ length vs) where
  abbrev xs : List VarId
  xs = ids d.context

  pub entries : Paired (place_of []) xs (map value vs)
  entries = paired (place_of []) xs (map value vs) (length-map d.context _ ∙ (count ∙ sym (length-map vs value)))

  abbrev pub ε : Entries
  ε = entries.new

  pub first-slots : environment_of [] ε ≡ renamed xs (map given_slot vs)
  unfolding environment_of
  first-slots = entries.slots ∙ ap (renamed xs) (given-slots (place_of []) vs)

  -- its bytes
  pub first-bytes : (p k : ℕ) → p ≡ definition_place n P.defs 0 → k ≡ length (environment_of [] ε)
      → (store_bytes (first P n ε) ≡ header_bytes (tuple_of (first_header_lem p k)) ++ each slot_bytes (renamed xs (map given_slot vs))) × (tuple_of (first_header_lem p k) ≡ header_of (raw_of (first P n ε)))
  unfolding store_bytes raw_of heap_of
  first-bytes p k e f =
      let t : tuple_of (first_header_lem p k) ≡ header_of (raw_of (first P n ε)) = λ i. (e i, (0, (0, (tt, (0, (0, (f i, tt))))))) in
      (sym (ap (λ x. header_bytes x ++ each slot_bytes (renamed xs (map given_slot vs))) t ∙ ap (λ (ts : List Slot). header_bytes (header_of (raw_of (first P n ε))) ++ each slot_bytes ts) (sym first-slots)), t)

  -- the machine's state that it stands for
  pub first_is_lem : project P (first P n ε) ≡ at d.body ε []
  unfolding project
  first_is_lem = ap (λ t. at t ε []) (stmt_is (definition-stands P shallow n d found))

  pub source-begins : located_start source_machine P n vs ≡ some (flagged (is_stop (source_step_lem P (project P (first P n ε)))) (first P n ε))
  unfolding located_start source_start
  source-begins =
      ap (λ (o : Option Def). start_of source_machine P n (source_start_at o vs)) found
      ∙ (ap (λ (o : Option Entries). start_of source_machine P n (source_begun d.body o)) entries.pairs
      ∙ ap (λ (s : State). some (flagged (is_stop (source_step_lem P s)) (first P n ε))) (sym first_is_lem))

  -- document 01: a start whose parameters repeat an ID has stopped with no step made
  pub linear-begins : located_start linear_machine P n vs ≡ some (flagged (cond (distinct (keys ε)) (is_stop (linear_step_lem P (project P (first P n ε)))) true) (first P n ε))
  unfolding located_start linear_start
  linear-begins =
      ap (λ (o : Option Def). start_of linear_machine P n (linear_start_at o vs)) found
      ∙ (ap (λ (o : Option Entries). start_of linear_machine P n (linear_begun d.body o)) entries.pairs ∙ (go (distinct (keys ε))
      ∙ ap (λ (s : State). some (flagged (cond (distinct (keys ε)) (is_stop (linear_step_lem P s)) true) (first P n ε))) (sym first_is_lem)))
    where
      go : (b : Bool) → start_of linear_machine P n (stopped_if_twice b (at d.body entries.new [])) ≡ some (flagged (cond b (is_stop (linear_step_lem P (at d.body entries.new []))) true) (first P n entries.new))
      go true = refl
      go false = refl

  first-keys : keys ε ≡ xs
  first-keys = paired-keys xs (map value vs) ε entries.pairs

  -- either machine's start
  pub machine-begins : (kind : MachineKind)
      → located_start (machine_for kind) P n vs
      ≡ some (flagged (start_stops kind xs (is_stop ((machine_for kind).step P (project P (first P n ε))))) (first P n ε))
  machine-begins Linear =
      linear-begins
      ∙ ap (λ (ys : List VarId). some (flagged (cond (distinct ys) (is_stop (linear_step_lem P (project P (first P n ε)))) true) (first P n ε))) first-keys
  machine-begins Source = source-begins

  -- it takes 64 bytes, and 16 for each value
  pub first-size : (b : Bool) → length (store_bytes (flagged b (first P n ε))) ≡ 64 + 16 * length d.context
  first-size b =
      store-size (flagged b (first P n ε))
      ∙ omega (arith, length-map ε (λ (e : VarId × Value). e.0), ap length first-keys, length-map d.context id_of)

  -- .. which are those of a state
  pub first-sound : (w : ℕ) (narrow : 256 ^ w ≤ 256 ^ 4) → DefsOk w narrow P.defs → All GivenFits vs → Sound w narrow P (first P n ε)
  unfolding project
  first-sound w narrow defs fit =
      let s = (reached-start w narrow source_machine source_lawful P shallow defs n vs fit _ source-begins).sound in
      record { placed = record { here = s.placed.here; cells = s.placed.cells }; fits = s.fits }
