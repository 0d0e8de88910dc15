-- Invoke: the linear machine's step. Assumes nothing.
use Prim.Native.Nat.{ℕ, zero, suc, ◌+◌, ◌-◌, ◌*◌, ◌<◌}
use mathlib.Core.Path.{◌≡◌, refl, sym, ap, ◌∙◌, subst}
use mathlib.Core.List.{List, [], ◌∷◌, map}
use mathlib.Core.Option.{Option, some, none}
use native.Mathlib.Omega.{arith}
use lib.ListN.{length, drop, get_or, length-map}
use Rattle.std.specs.Prelude.{Result, Err}
use Rattle.syntax.specs.declared.names.VarId.{VarId}
use Rattle.model.specs.Machine.{Value, Entries, values, ended, Invoke', or_halt, invoked}
use Rattle.model.specs.Linear.{first, before_last, shows_unless_twice, last_value_lem, linear_enter_lem, linear_work}
use Rattle.model.specs.Syntax.{Stmt, Invoke, Prog}
use Rattle.image_spec.specs.Parse.{All}
use Rattle.image_spec.specs.Records.{Record}
use Rattle.image_directory.specs.declared.Frame.{Frame}
use Rattle.image_directory.specs.Slots.{Ready}
use Rattle.image_read_parts.specs.Indexed.{record_at, At}
use Rattle.step_slots.specs.Slots.{Slot}
use Rattle.step_slots.specs.Views.{no_slot, slot_at, slots_at}
use Rattle.step_spec.specs.Located.{linear_machine, Located, stmt_in, located_step}
use Rattle.step_spec.specs.Store.{place_of, entry_slot, environment_of, EntryFits}
use Rattle.step_spec.proofs.Lists.{all_take}
use Rattle.step_header.specs.declared.Header.{Header}
use Rattle.step_header.specs.Headers.{heap_in, entries_in}
use Rattle.step_gather.specs.Gathering.{shown_as, renamed}
use Rattle.step_gather.proofs.Filling.{slot_of}
use Rattle.step_gather.proofs.GatheringLaws.{renamed-values, shown-entries}
use Rattle.step_cells.proofs.CellLaws.{Meets, cells_of, meets}
use Rattle.step_cells.specs.Cells.{cell_in'}
use Rattle.step_tags.specs.Tags.{tag_in}
use Rattle.step_write.specs.declared.Step.{Step}
use Rattle.step_write.specs.declared.Stop.{Stop}
use Rattle.step_write.specs.declared.Stop.TheVariants.{NoStep}
use Rattle.step_rule.specs.Rules.{ImageOf, Stored, resting, Makes}
use Rattle.step_rule.proofs.Views.{viewed}
use Rattle.step_rule.proofs.Machines.{linear-works}
use Rattle.step_last.proofs.LastEntries.{environment-count, before-slots}
use Rattle.step_enter.proofs.Twice.{not_twice}
use Rattle.step_enter.proofs.Around.{nothing_makes}
use Rattle.step_statement_invoke.specs.Invoking.{Invokes}
use Rattle.step_statement_invoke.proofs.FirstSlots.{slots-take}
use Rattle.step_statement_invoke.proofs.InvokeLaws.{Invocation, invocation-at, Rule, Valued, invokes-makes}
use Rattle.step_entries.specs.Named.{last_slot}
use Rattle.step_entries.proofs.LastLaws.{last-there}
use Rattle.step_statement_invoke.proofs.EnteringLaws.{no-value}

-- ---- the last entry

-- it is at place k, and has what all have
record Last (ε : Entries) (k : ℕ) : Type 0 where
  entry : VarId × Value
  is : drop k ε ≡ entry ∷ []
  slot : (f : VarId × Value → Slot) (d : Slot) → get_or (map f ε) k d ≡ f entry
  fits : (n : ℕ) → All (EntryFits n) ε → EntryFits n entry

last : (ε : Entries) (k : ℕ) → length ε ≡ k + 1 → Last ε k
last [] k e = absurd (omega arith)
last (x ∷ []) zero e = record { entry = x; is = refl; slot = λ f d. refl; fits = λ n a. a.0 }
last (x ∷ (y ∷ ε)) zero e = absurd (omega arith)
last (x ∷ ε) (suc k) e = let r = last ε k (omega arith) in record { entry = r.entry; is = r.is; slot = r.slot; fits = λ n a. r.fits n a.1 }

module _ {P : Prog} {store : List ℕ} {h : Header} {l : Located} (o : Stored linear_machine P store h l) where
  abbrev of : ℕ → ℕ
  of = place_of l.cells

  abbrev args : Entries
  args = before_last 1 l.environment

  -- ---- the rule

  module _ {r : Record} (i : Invocation (stmt_in P l.position) r) where
    abbrev t : Stmt
    t = Invoke i.var i.tag i.ty i.args

    linear-rule : Rule linear_machine P l t i.tag.name (last_value_lem l.environment) (values args)
    unfolding linear_work linear_enter_lem
    linear-rule = record {
      enter = linear_enter_lem (ended t l.environment (cells_of P l)) i.tag.name (values args) (cells_of P l);
      run = λ k s ε. shows_unless_twice (Invoke' k i.tag.name) s ε (cells_of P l);
      goes = linear-works o t i.is;
      ends = λ n. refl;
      enters = λ k ε cs. refl;
      runs = λ k s ε n. not_twice (Invoke' k i.tag.name) s ε (cells_of P l) n;
    }

  -- ---- in slots

  -- the args' values are in all slots but the last
  before-valued : Valued store h l (slots_at store (64 + 16 * h.heap) (h.entries - 1)) (values args)
  unfolding environment_of
  before-valued =
      let s : slots_at store (64 + 16 * h.heap) (h.entries - 1) ≡ map (entry_slot of) args = slots-take store (64 + 16 * h.heap) h.entries (h.entries - 1) (omega arith) ∙ sym (before-slots o 1) in
      record {
        count = ap length s ∙ (length-map args (entry_slot of) ∙ sym (length-map args (λ (e : VarId × Value). e.1)));
        shown = ap (map (shown_as (heap_in store h))) s ∙ shown-entries o args (all_take (EntryFits (length l.cells)) (length l.environment - 1) l.environment (viewed o).fits.environment);
        named = λ xs. ap (renamed xs) s ∙ renamed-values of xs args;
      }

  -- var's is in the last
  last_met : {value : Slot} → 0 < h.entries → Last l.environment (h.entries - 1) → value ≡ slot_at store (64 + 16 * h.heap + 16 * (h.entries - 1))
      → Meets P store h l (last_value_lem l.environment) value (cell_in' (heap_in store h) value)
  unfolding environment_of
  last_met {value} n r e =
      let ε = l.environment in
      let k = h.entries - 1 in
      let c : length ε - 1 ≡ k = omega (arith, environment-count o) in
      let v : last_value_lem ε ≡ some r.entry.1 = ap (λ (j : ℕ). first (values (drop j ε))) c ∙ ap (λ (z : Entries). first (values z)) r.is in
      let s : value ≡ entry_slot of r.entry =
      e ∙ (sym (slot_of store (64 + 16 * h.heap) h.entries k (omega (arith, n))) ∙ (ap (λ (ts : List Slot). get_or ts k no_slot) (viewed o).entries ∙ r.slot (entry_slot of) no_slot)) in
      meets o r.entry.0.0 r.entry.1 v (r.fits (length l.cells) (viewed o).fits.environment).1 s refl

  none_last : h.entries ≡ 0 → last_value_lem l.environment ≡ none
  none_last n = go l.environment (environment-count o ∙ n)
    where
      go : (ε : Entries) → length ε ≡ 0 → last_value_lem ε ≡ none
      go [] e = refl
      go (x ∷ ε) e = absurd (omega arith)

  module _ {frame : Frame} {definitions : ℕ} {bytes : List ℕ} (p : ImageOf P frame definitions bytes) (a : At frame bytes h.position 7) where
    pub linear-makes : {events store' events' : List ℕ} {at' : ℕ} {value : Slot} {k tag : ℕ} {m : Result Step Stop} → Ready frame bytes → 0 < h.entries → value ≡ slot_at store (64 + 16 * h.heap + 16 * (h.entries - 1))
        → k ≡ h.entries - 1 → tag ≡ (tag_in (record_at frame bytes h.position)).name.0
        → Invokes frame bytes store events h at' value (slots_at store (64 + 16 * h.heap) k) tag store' events' m
        → Makes store events at' (resting (located_step linear_machine P l)) store' events' m
    linear-makes {events} {store'} {events'} {at'} {value} {k} {tag} {m} ready n e c g w =
        let i = invocation-at p o a in
        let q : tag ≡ i.tag.name.0 = g ∙ ap (λ (r : Record). (tag_in r).name.0) i.holds in
        let Is : ℕ × ℕ → Type 0 = λ (z : ℕ × ℕ). Invokes frame bytes store events h at' value (slots_at store (64 + 16 * h.heap) z.0) z.1 store' events' m in
        let x = last l.environment (h.entries - 1) (omega (arith, n, environment-count o)) in
        invokes-makes p o ready (linear-rule i) before-valued (last_met n x e) (subst Is (λ j. (c j, q j)) w)

    linear_none : {events : List ℕ} {at' : ℕ} → h.entries ≡ 0 → Makes store events at' (resting (located_step linear_machine P l)) store events (Err NoStep)
    linear_none n =
        let i = invocation-at p o a in
        nothing_makes o ((linear-rule i).goes ∙ ap (λ (v : Option Value). or_halt v λ v. or_halt (invoked (cells_of P l) v) (linear-rule i).enter) (none_last n))

    -- .. where no value is found
    pub none_makes : {events : List ℕ} {at' : ℕ} → Ready frame bytes → no_slot ≡ last_slot (entries_in store h) → Makes store events at' (resting (located_step linear_machine P l)) store events (Err NoStep)
    none_makes {events} {at'} ready q = go h.entries refl
      where
        go : (n : ℕ) → n ≡ h.entries → Makes store events at' (resting (located_step linear_machine P l)) store events (Err NoStep)
        go zero e = linear_none (sym e)
        go (suc n) e =
            let some_there : 0 < h.entries = omega (arith, e) in
            linear-makes ready some_there (last-there store (64 + 16 * h.heap) h.entries q some_there) refl refl no-value
