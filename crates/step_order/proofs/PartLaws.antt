-- What is read to tell whether the machine stops: a clause, and the last value with its cell. Assumes nothing.
use Prim.Native.Nat.{ℕ, zero, suc, ◌-◌, ◌<◌}
use mathlib.Core.Path.{◌≡◌, refl, sym, ap, ◌∙◌}
use mathlib.Core.List.{List, [], ◌∷◌, map}
use mathlib.Core.Option.{Option, some}
use native.Mathlib.Omega.{arith}
use lib.ListN.{length, drop, get_or, length-map}
use lib.Seq.{drop-cons}
use Rattle.syntax.specs.declared.names.VarId.{VarId}
use Rattle.model.specs.Syntax.{Prog}
use Rattle.model.specs.Machine.{Value, outside, Entries, keys, values}
use Rattle.model.specs.Linear.{first, last_value_lem}
use Rattle.image_spec.specs.Parse.{All}
use Rattle.std.proofs.lemmas.List.{get_or-map}
use Rattle.step_slots.specs.Slots.{Slot}
use Rattle.step_slots.specs.Views.{no_slot}
use Rattle.step_spec.specs.Located.{Machine, Located}
use Rattle.step_spec.specs.Store.{place_of, entry_slot, environment_of, EntryFits}
use Rattle.step_header.specs.declared.Header.{Header}
use Rattle.step_header.specs.Headers.{heap_in, entries_in, Holds}
use Rattle.step_rows.specs.declared.places.Places.{Places}
use Rattle.step_rows.specs.Rows.{slot_id}
use Rattle.step_rows.specs.Placing.{ids_in, Inside, slot_places_lem}
use Rattle.step_rows.proofs.SlotRows.{slot_inside, slot_row}
use Rattle.step_rule.specs.Rules.{Stored}
use Rattle.step_rule.proofs.Views.{viewed}
use Rattle.step_cells.specs.Cells.{Cell}
use Rattle.step_cells.proofs.HeldLaws.{no-reference}
use Rattle.step_cells.proofs.HeapLaws.{cell_holds}
use Rattle.step_cells.proofs.CellLaws.{no_value, OfCreate, Meets, meets_none, meets}
use Rattle.step_entries.specs.Named.{last_slot}
use Rattle.step_order.specs.Stopping.{last_cell_lem}
use Rattle.step_order.proofs.InOrderLaws.{entry-ids}

-- ---- the last of a list

all_in : {A : Type 0} (Q : A → Type 0) (d : A) (xs : List A) (n : ℕ) → All Q xs → n < length xs → Q (get_or xs n d)
all_in Q d [] n a h = absurd (omega arith)
all_in Q d (x ∷ xs) zero a h = a.0
all_in Q d (x ∷ xs) (suc n) a h = all_in Q d xs n a.1 (omega arith)

-- ---- the value of the last entry

abbrev some_entry : VarId × Value
some_entry = (record { 0 = 0 }, outside 0)

last_entry : (ε : Entries) (n : ℕ) → length ε ≡ suc n → last_value_lem ε ≡ some (get_or ε n some_entry).1
last_entry ε n h =
    let k : length ε - 1 ≡ n = omega arith in
    ap (λ (i : ℕ). first (values (drop i ε))) k ∙ ap (λ (l : Entries). first (values l)) (drop-cons ε n some_entry (omega arith))

last-slot : (of : ℕ → ℕ) (ε : Entries) (n : ℕ) → length ε ≡ suc n → last_slot (map (entry_slot of) ε) ≡ entry_slot of (get_or ε n some_entry)
last-slot of ε n h =
    let k : length (map (entry_slot of) ε) - 1 ≡ n = omega (arith, length-map ε (entry_slot of)) in
    ap (λ (i : ℕ). get_or (map (entry_slot of) ε) i no_slot) k ∙ get_or-map (entry_slot of) ε n some_entry no_slot (omega arith)

module _ {M : Machine} {P : Prog} {store : List ℕ} {h : Header} {l : Located} (o : Stored M P store h l) where
  -- what its slot and the cell that was looked up for it say
  pub last_meets : {r : Cell} → r ≡ last_cell_lem store h → Meets P store h l (last_value_lem l.environment) (last_slot (entries_in store h)) r
  unfolding environment_of
  last_meets {r} q = go l.environment refl
    where
      of : ℕ → ℕ
      of = place_of l.cells

      t : Slot
      t = last_slot (entries_in store h)

      go : (ε : Entries) → l.environment ≡ ε → Meets P store h l (last_value_lem l.environment) t r
      go [] n =
          let u : t ≡ no_slot = ap last_slot ((viewed o).entries ∙ ap (λ (ε : Entries). map (entry_slot of) ε) n) in
          let s : t.sort ≡ 5 = ap (λ (t : Slot). t.sort) u in
          meets_none (no_value (ap last_value_lem n) s) (ap (λ (c : Cell). c.sort) (q ∙ sym (no-reference (heap_in store h) t (λ w. omega (arith, s, w)))))
      go (x ∷ ε) n =
          let m = length ε in
          let y = get_or l.environment m some_entry in
          let c : length l.environment ≡ suc m = ap length n in
          let f = all_in (EntryFits (length l.cells)) some_entry l.environment m (viewed o).fits.environment (omega (arith, c)) in
          let w : t ≡ entry_slot of y = ap last_slot (viewed o).entries ∙ last-slot of l.environment m c in
          meets o y.0.0 y.1 (last_entry l.environment m c) f.1 w q

-- ---- the IDs of what the cell of a Create holds

-- they are in the store, whatever it holds
pub held-inside : (store : List ℕ) (h : Header) {r : Cell} {row : Places} → Holds store h → r ≡ last_cell_lem store h → row ≡ slot_places_lem r.from r.len → Inside store row
held-inside store h {r} o e q =
    let w = cell_holds store h o (last_slot (entries_in store h)) e in
    slot_inside store r.from r.len q (omega (arith, w.inside, o.inside))

pub held-keys : {M : Machine} {P : Prog} {store : List ℕ} {h : Header} {l : Located} {v : Option Value} {r : Cell} {row : Places} → Stored M P store h l → (w : OfCreate P store h l v r)
    → row ≡ slot_places_lem r.from r.len → ids_in store row ≡ keys w.entries
held-keys {store = store} {l = l} {r = r} o w q =
    slot_row store r.from r.len q w.holds.slots
    ∙ (ap (map slot_id) w.holds.are ∙ entry-ids (place_of l.cells) w.entries)
