-- Switch: the linear machine's. Assumes nothing.
use Prim.Native.Nat.{ℕ, ◌+◌, ◌-◌, ◌*◌, ◌<◌, zero, suc}
use mathlib.Core.Path.{◌≡◌, refl, sym, ap, ap₂, ◌∙◌, subst}
use mathlib.Core.List.{List, [], ◌∷◌, ◌++◌, append-nil}
use mathlib.Core.Option.{Option, none, some}
use native.Mathlib.Omega.{arith}
use lib.ListN.{length}
use Rattle.std.specs.Prelude.{Result, Err}
use Rattle.syntax.specs.Context.{Context}
use Rattle.syntax.specs.declared.names.Name.{Name}
use Rattle.model.specs.Syntax.{Stmt, Switch, Prog}
use Rattle.model.specs.Machine.{Value, Entries, values, at, Outcome, shows, or_halt, matched, Switch'}
use Rattle.model.specs.Linear.{last_of, before_last, first, last_value_lem, shows_unless_twice, linear_work}
use Rattle.image_directory.specs.declared.Frame.{Frame}
use Rattle.image_read_parts.specs.Indexed.{record_at, At}
use Rattle.step_slots.specs.Slots.{Slot}
use Rattle.step_slots.specs.Views.{slot_at, slots_at, no_slot}
use Rattle.step_spec.specs.Located.{linear_machine, Located, stmt_in, is_stop, located_step}
use Rattle.step_spec.specs.Store.{place_of, entry_slot, environment_of}
use Rattle.step_spec.proofs.Representable.{last_fits}
use Rattle.step_header.specs.declared.Header.{Header}
use Rattle.step_header.specs.Headers.{heap_in, entries_in}
use Rattle.step_scan.proofs.PassLaws.{slots-drop, slots_next}
use Rattle.step_cells.specs.Cells.{cell_in'}
use Rattle.step_cells.proofs.CellLaws.{Meets, cells_of, meets}
use Rattle.step_write.specs.declared.Step.{Step}
use Rattle.step_write.specs.declared.Stop.{Stop}
use Rattle.step_write.specs.declared.Stop.TheVariants.{NoStep}
use Rattle.step_rule.specs.Rules.{ImageOf, Stored, resting, Makes}
use Rattle.step_rule.proofs.Views.{viewed}
use Rattle.step_rule.proofs.Machines.{linear-works}
use Rattle.step_last.proofs.LastEntries.{environment-count, last-slots, before-slots}
use Rattle.step_enter.proofs.Twice.{not_twice}
use Rattle.step_enter.proofs.Around.{Around, nothing_makes}
use Rattle.step_statement_switch.specs.Switching.{Switches}
use Rattle.step_statement_switch.proofs.TheSwitch.{Switching, the_switch}
use Rattle.step_statement_switch.proofs.SwitchLaws.{Works, entering, switches-makes, no-value}
use Rattle.step_entries.specs.Named.{last_slot}
use Rattle.step_entries.proofs.LastLaws.{last-there}

no_last : (ε : Entries) → length ε ≡ 0 → last_value_lem ε ≡ none
no_last [] e = refl
no_last (x ∷ ε) e = absurd (omega (arith, e))

module _ {P : Prog} {store : List ℕ} {h : Header} {l : Located} (o : Stored linear_machine P store h l) where
  -- ── the last entry ──

  -- its slot says which cell its value is
  last_met : {i : ℕ} {value : Slot} → 0 < h.entries → i ≡ 64 + 16 * (h.heap + (h.entries - 1)) → value ≡ slot_at store i
      → Meets P store h l (last_value_lem l.environment) value (cell_in' (heap_in store h) value)
  unfolding environment_of
  last_met {i} {value} some_there p e =
      let j = h.entries - 1 in
      let b = 64 + 16 * h.heap in
      let rest = slots_at store (b + 16 * (j + 1)) (h.entries - (j + 1)) in
      let k : b + 16 * j ≡ i = omega (arith, p) in
      go (last_of 1 l.environment) rest refl
      (last-slots o 1 ∙ (slots-drop store b h.entries j ∙ (slots_next store b h.entries j (omega (arith, some_there)) ∙ ap (λ (t : Slot). t ∷ rest) (ap (slot_at store) k ∙ sym e))))
    where
      go : (z : Entries) (rest : List Slot) → last_of 1 l.environment ≡ z → environment_of l.cells z ≡ value ∷ rest
          → Meets P store h l (last_value_lem l.environment) value (cell_in' (heap_in store h) value)
      go [] rest f q = absurd (omega (arith, ap length q))
      go (x ∷ z) rest f q =
          let t : entry_slot (place_of l.cells) x ≡ value = cc in
          let w : last_value_lem l.environment ≡ some x.1 = ap (λ (z : Entries). first (values z)) f in
          meets o x.0.0 x.1 w (last_fits (length l.cells) l.environment x.1 (viewed o).fits.environment w) (sym t) refl

  -- all others stay, and none is behind them
  before_others : Around l.cells store h (h.entries - 1) 0 (before_last 1 l.environment) []
  unfolding environment_of
  before_others = record { within = omega arith; first = before-slots o 1; others = refl; count = refl }

  -- ── the step ──

  module _ {frame : Frame} {definitions : ℕ} {bytes : List ℕ} (p : ImageOf P frame definitions bytes) (a : At frame bytes h.position 5) where
    works : (t : Switching (stmt_in P l.position) (record_at frame bytes h.position))
        → Works linear_machine P l t.clauses (last_value_lem l.environment) (before_last 1 l.environment) []
    unfolding linear_work
    works t =
        let B = before_last 1 l.environment in
        let enter : ℕ → Name → Context × Stmt → Entries → Outcome =
        λ (k : ℕ) (tag : Name) (c : Context × Stmt) (new : Entries). shows_unless_twice (Switch' k tag) c.1 (B ++ new) (cells_of P l) in
        record {
          enter = enter;
          works = linear-works o (Switch t.var t.ty t.clauses) t.is;
          shown = λ k tag c new e.
              e ∙ (not_twice (Switch' k tag) c.1 (B ++ new) (cells_of P l) (ap is_stop (sym e) ∙ o.goes)
              ∙ ap (λ (z : Entries). shows (Switch' k tag) (at c.1 (B ++ z) (cells_of P l))) (sym (append-nil new)));
        }

    -- no entry is there
    pub empty-makes : {events : List ℕ} {at' n : ℕ} → n ≡ h.entries → n ≡ 0 → Makes store events at' (resting (located_step linear_machine P l)) store events (Err NoStep)
    empty-makes e z =
        let t = the_switch p o a in
        let w = works t in
        let q : last_value_lem l.environment ≡ none = no_last l.environment (omega (arith, environment-count o, e, z)) in
        nothing_makes o (w.works ∙ ap (λ (v : Option Value). or_halt v λ v. or_halt (matched (cells_of P l) v) (entering t.clauses w.enter)) q)

    pub linear-makes : {heap n at' : ℕ} {value : Slot} {events store' events' : List ℕ} {m : Result Step Stop} → heap ≡ h.heap → n ≡ h.entries → 0 < n → value ≡ slot_at store (64 + 16 * (heap + (n - 1)))
        → Switches frame bytes store events h at' value (n - 1) 0 store' events' m → Makes store events at' (resting (located_step linear_machine P l)) store' events' m
    linear-makes {heap} {n} {at'} {value} {events} {store'} {events'} {m} e f s v w =
        let t = the_switch p o a in
        let k : 64 + 16 * (heap + (n - 1)) ≡ 64 + 16 * (h.heap + (h.entries - 1)) = ap₂ {C = ℕ} (λ (i j : ℕ). 64 + 16 * (i + (j - 1))) e f in
        switches-makes p o t (works t) (last_met (omega (arith, f, s)) k v) before_others
        (subst (λ (j : ℕ). Switches frame bytes store events h at' value (j - 1) 0 store' events' m) f w)

    -- .. where no value is found
    pub none_makes : {events : List ℕ} {at' : ℕ} → no_slot ≡ last_slot (entries_in store h) → Makes store events at' (resting (located_step linear_machine P l)) store events (Err NoStep)
    none_makes {events} {at'} q = go h.entries refl
      where
        go : (n : ℕ) → n ≡ h.entries → Makes store events at' (resting (located_step linear_machine P l)) store events (Err NoStep)
        go zero e = empty-makes e refl
        go (suc n) e =
            let there = last-there store (64 + 16 * h.heap) h.entries q (omega (arith, e)) in
            let k : 64 + 16 * h.heap + 16 * (h.entries - 1) ≡ 64 + 16 * (h.heap + (h.entries - 1)) = omega arith in
            linear-makes refl refl (omega (arith, e)) (there ∙ ap (slot_at store) k) no-value
