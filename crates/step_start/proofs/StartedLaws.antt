-- A start at a definition whose record is at an index: what was read of it, the store after `begin`, and the answer in each case. Assumes nothing.
use Prim.Native.Nat.{ℕ, ◌+◌, ◌*◌, ◌^◌, ◌≤◌, ◌<◌}
use mathlib.Core.Path.{◌≡◌, refl, sym, ap, ap₂, ◌∙◌}
use mathlib.Core.Bool.{Bool, true, false, cond}
use mathlib.Core.List.{List, [], ◌++◌, map}
use mathlib.Core.Option.{Option, some}
use native.Mathlib.Omega.{arith}
use borrow.Author.Tests.{le-leb, lt-leb}
use lib.ListN.{length, length-map}
use lib.Seq.{sets}
use Rattle.syntax.specs.Context.{id_of, ids}
use Rattle.syntax.specs.declared.names.VarId.{VarId}
use Rattle.model.specs.Syntax.{Prog}
use Rattle.model.specs.Machine.{Given, no_start}
use Rattle.image_spec.specs.Parse.{each}
use Rattle.image_spec.specs.Records.{Record}
use Rattle.image_write_bytes.proofs.Covering.{hidden}
use Rattle.image_read_parts.specs.Parts.{list_of}
use Rattle.image_read_parts.specs.Indexed.{record_at}
use Rattle.step_slots.specs.Slots.{Slot, slot_bytes}
use Rattle.step_slots.specs.Views.{slots_at}
use Rattle.step_slots.proofs.SlotBytes.{slots-count}
use Rattle.step_spec.specs.Located.{Machine, source_machine, Located, project, is_stop}
use Rattle.step_spec.specs.Store.{environment_of, header_of, header_bytes, raw_of, store_bytes, state_from}
use Rattle.step_spec.specs.Events.{givens}
use Rattle.step_spec.specs.Calls.{unchanged, starts_with, start_with}
use Rattle.step_spec.proofs.Sound.{source_lawful, givens-fit}
use Rattle.step_spec.proofs.Making.{written}
use Rattle.step_spec.proofs.Stepping.{Readable}
use Rattle.step_header.specs.declared.Header.{Header}
use Rattle.step_header.specs.Headers.{tuple_of}
use Rattle.step_rows.specs.declared.row.Row.{Row}
use Rattle.step_rows.specs.Rows.{ids_of}
use Rattle.step_rows.proofs.RowLaws.{ids-length}
use Rattle.step_gather.specs.Gathering.{renamed}
use Rattle.step_gather.proofs.Renaming.{renamed-length}
use Rattle.step_values.specs.Values.{are_given_lem}
use Rattle.step_values.proofs.ValueLaws.{given_slot, are-given, not_given_all}
use Rattle.step_places.specs.declared.stepper.Stepper.{Stepper}
use Rattle.step_rule.specs.Rules.{ProgramOf, machine_in, Reads}
use Rattle.step_settle.specs.Settling.{flagged}
use Rattle.std.specs.Prelude.{Ok, Err}
use Rattle.step_answer_spec.specs.declared.Failure.TheVariants.{NoState, NoRoom}
use Rattle.step_answer_spec.specs.Saying.{result_of}
use Rattle.step_start.specs.Starting.{first_header_lem, start_stops, Flags, DefinedAt}
use Rattle.step_start.proofs.StartLaws.{first, ε, first-slots, first-bytes, machine-begins, first-size, first-sound}

module _ {P : Prog} {stepper : Stepper} {bytes : List ℕ} {n i : ℕ} (d : DefinedAt P stepper bytes n i) (row : Row) (r : ids_of row ≡ ids (list_of (record_at stepper.image.frame bytes i))) where
  -- the row is that of the parameters
  row_is : ids_of row ≡ ids d.def.context
  row_is = r ∙ ap (λ (t : Record). ids (list_of t)) d.head

  row_count : row.places.len ≡ length d.def.context
  row_count = sym (ids-length row.bytes.now row.places) ∙ (ap length row_is ∙ length-map d.def.context id_of)

  -- 14: the values are not as many, or one of them is none that a start may give
  pub not_given : (M : Machine) (values : List ℕ) {store : List ℕ} → are_given_lem row.places.len values ≡ false → result_of (Err NoState) store [] ≡ start_with M P n (givens (length d.def.context) values) store
  not_given M values {store} e =
      sym (ap (λ (o : Option (List Given)). start_with M P n o store) (ap (λ (k : ℕ). givens k values) (sym row_count) ∙ not_given_all row.places.len values e))

  module _ (o : Readable P) (values : List ℕ) (g : are_given_lem row.places.len values ≡ true) where
    -- the values that are given
    abbrev pub vs : List Given
    vs = (are-given row.places.len values g).0.given

    vs-slots : map given_slot vs ≡ slots_at values 0 row.places.len
    vs-slots = (are-given row.places.len values g).0.back

    vs-read : givens (length d.def.context) values ≡ some vs
    vs-read = ap (λ (k : ℕ). givens k values) (sym row_count) ∙ ((are-given row.places.len values g).1 ∙ (are-given row.places.len values g).0.is)

    pub vs-count : length d.def.context ≡ length vs
    vs-count = sym row_count ∙ (sym (slots-count values 0 row.places.len) ∙ (ap length (sym vs-slots) ∙ length-map vs given_slot))

    -- the state before the first step
    abbrev pub begun : Located
    begun = first P n (ε P o.shallow n d.def d.found vs vs-count)

    abbrev stops : Bool
    stops = start_stops stepper.machine (ids_of row) (is_stop ((machine_in stepper).step P (project P begun)))

    begun-size : (b : Bool) → length (store_bytes (flagged b begun)) ≡ 64 + 16 * row.places.len
    begun-size b = first-size P o.shallow n d.def d.found vs vs-count b ∙ omega (arith, row_count)

    starts : (store : List ℕ) → start_with (machine_in stepper) P n (givens (length d.def.context) values) store ≡ starts_with (some (flagged stops begun)) store
    starts store =
        ap (λ (x : Option (List Given)). start_with (machine_in stepper) P n x store) vs-read
        ∙ (ap (λ (x : Option Located). starts_with x store) (machine-begins P o.shallow n d.def d.found vs vs-count stepper.machine)
        ∙ ap (λ (xs : List VarId). starts_with (some (flagged (start_stops stepper.machine xs (is_stop ((machine_in stepper).step P (project P begun)))) begun)) store) (sym row_is))

    -- 15
    pub no_room : {store : List ℕ} → length store < 64 + 16 * row.places.len → result_of (Err (NoRoom (record { steps = 0; length = 0 }))) store [] ≡ start_with (machine_in stepper) P n (givens (length d.def.context) values) store
    no_room {store} k =
        let W = store_bytes (flagged stops begun) in
        let long : length store < length W = omega (arith, k, begun-size stops) in
        sym (starts store ∙ ap (λ (b : Bool). cond b (unchanged 0 (sets store 0 W) []) (unchanged 15 store [])) (lt-leb (length W) (length store) long))

    module _ (store : List ℕ) (room : 64 + 16 * row.places.len ≤ length store) (short : length store < 2 ^ 64) {h : Header} (heads : h ≡ first_header_lem (i + 1) row.places.len) {store₁ : List ℕ}
        (wrote : store₁ ≡ sets store 0 (header_bytes (tuple_of h) ++ each slot_bytes (renamed (ids_of row) (slots_at values 0 row.places.len)))) where
      -- its bytes were written
      begun-bytes : (header_bytes (tuple_of h) ++ each slot_bytes (renamed (ids_of row) (slots_at values 0 row.places.len)) ≡ store_bytes begun) × (tuple_of h ≡ header_of (raw_of begun))
      begun-bytes =
          let xs = ids d.def.context in
          let c : length xs ≡ length (map given_slot vs) = length-map d.def.context id_of ∙ (vs-count ∙ sym (length-map vs given_slot)) in
          let k : row.places.len ≡ length (environment_of [] begun.environment) =
          row_count ∙ (sym (length-map d.def.context id_of) ∙ sym (ap length (first-slots P o.shallow n d.def d.found vs vs-count) ∙ renamed-length xs (map given_slot vs) c)) in
          let b = first-bytes P o.shallow n d.def d.found vs vs-count (i + 1) row.places.len d.place k in (
            ap (λ (x : Header). header_bytes (tuple_of x) ++ each slot_bytes (renamed (ids_of row) (slots_at values 0 row.places.len))) heads
                ∙ (ap₂ {C = List ℕ} (λ (ys : List VarId) (ts : List Slot). header_bytes (tuple_of (first_header_lem (i + 1) row.places.len)) ++ each slot_bytes (renamed ys ts)) row_is (sym vs-slots)
                ∙ sym b.0),
            ap tuple_of heads ∙ b.1,
          )

      begun-stored : store₁ ≡ sets store 0 (store_bytes begun)
      begun-stored = wrote ∙ ap (sets store 0) begun-bytes.0

      pub begun-reads : Reads P store₁ h begun
      begun-reads =
          let sound = first-sound P o.shallow n d.def d.found vs vs-count o.w o.narrow o.defs (givens-fit _ values vs vs-read) in
          let fits : length (store_bytes begun) ≤ length store = omega (arith, room, begun-size false) in
          record {
            read = ap (state_from P) begun-stored ∙ written o.w o.narrow source_machine source_lawful P o.shallow o.defs o.few no_start begun sound store fits short;
            heads = begun-bytes.1;
          }

      -- with the flag, they are those of the start
      pub room-starts : ProgramOf P stepper bytes → {store' : List ℕ} → Flags stepper bytes row store₁ h store'
          → result_of (Ok (record { steps = 0; length = 0 })) store' [] ≡ start_with (machine_in stepper) P n (givens (length d.def.context) values) store
      room-starts p {store'} f =
          let W = store_bytes (flagged stops begun) in
          let fits : length W ≤ length store = omega (arith, room, begun-size stops) in
          let over = hidden store 0 (store_bytes begun) W (omega (arith, begun-size false, begun-size stops)) fits in
          let done : store' ≡ sets store 0 W = f.flags P begun p begun-reads refl ∙ (ap (λ (z : List ℕ). sets z 0 W) begun-stored ∙ over) in
          ap (λ (z : List ℕ). result_of (Ok (record { steps = 0; length = 0 })) z []) done
          ∙ sym (starts store ∙ ap (λ (b : Bool). cond b (unchanged 0 (sets store 0 W) []) (unchanged 15 store [])) (le-leb (length W) (length store) fits))
