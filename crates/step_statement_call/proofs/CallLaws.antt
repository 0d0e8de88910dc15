-- Call: the step of either machine. Assumes nothing.
use Prim.Native.Nat.{ℕ}
use mathlib.Core.Path.{◌≡◌, sym, ap, ◌∙◌}
use mathlib.Core.List.{List, [], ◌++◌, map, append-nil}
use lib.ListN.{length}
use Rattle.std.specs.Prelude.{Option as Maybe, Some, None, Result, Err}
use Rattle.syntax.specs.declared.names.Name.{Name}
use Rattle.syntax.specs.declared.names.VarId.{VarId}
use Rattle.model.specs.Syntax.{Def, Prog}
use Rattle.model.specs.Machine.{Value, Entries, Cells, at, Outcome, shows, Call', find_def}
use Rattle.step_slots.specs.Slots.{Slot, value_slot}
use Rattle.step_spec.specs.Located.{Machine, Located, cell_in, project, next_place_lem, located_step}
use Rattle.step_spec.specs.Store.{place_of, environment_of}
use Rattle.step_spec.specs.Events.{event_head, event_bytes}
use Rattle.step_header.specs.declared.Header.{Header}
use Rattle.step_rows.specs.Rows.{ids_of}
use Rattle.step_gather.specs.Gathering.{renamed}
use Rattle.step_write.specs.declared.Step.{Step}
use Rattle.step_write.specs.declared.Stop.{Stop}
use Rattle.step_write.specs.declared.Stop.TheVariants.{NoStep}
use Rattle.step_places.specs.declared.stepper.Stepper.{Stepper}
use Rattle.step_rule.specs.Rules.{ProgramOf, Stored, resting, Makes}
use Rattle.step_enter.specs.declared.Parameters.{Parameters}
use Rattle.step_enter.specs.Entering.{Enters}
use Rattle.step_enter.proofs.ParameterLaws.{with_values, absent-halts, uneven_halts, enters_with}
use Rattle.step_enter.proofs.Around.{nothing_makes, alone, enters-makes}
use Rattle.step_statement_call.specs.Calling.{DefinitionOf}
use Rattle.step_statement_call.proofs.TheCall.{label-found}

abbrev pub cells : Prog → Located → Cells
cells P l = map (cell_in P) l.cells

-- what a machine does at a Call with these n values: it enters the definition with this label, and where it does not stop, the parameters are all that there is
pub record Calls (M : Machine) (P : Prog) (l : Located) (label : Name) (vs : List Value) (n : ℕ) : Type 0 where
  pub count : n ≡ length vs
  pub enter : Def → Entries → Outcome
  pub works : M.step P (project P l) ≡ with_values (λ d. d.context) vs enter (find_def label P.defs)
  pub shown : (d : Def) (new : Entries) → M.step P (project P l) ≡ enter d new → M.step P (project P l) ≡ shows (Call' label) (at d.body new (cells P l))

-- under any names these slots are those of the values
pub record Laid (l : Located) (vs : List Value) (ts : List Slot) : Type 0 where
  pub slots : (xs : List VarId) → renamed xs ts ≡ renamed xs (map (value_slot (place_of l.cells) 0) vs)

module _ {M : Machine} {P : Prog} {store : List ℕ} {h : Header} {l : Located} (o : Stored M P store h l) {stepper : Stepper} {bytes : List ℕ} (p : ProgramOf P stepper bytes)
    {label : Name} {vs : List Value} {n : ℕ} (s : Calls M P l label vs n) {k : ℕ} (same : k ≡ label.0) {r : Maybe Parameters} (d : DefinitionOf stepper bytes k r) {events : List ℕ} {at' : ℕ} where
  -- there is no such definition
  pub absent-makes : r ≡ None → Makes store events at' (resting (located_step M P l)) store events (Err NoStep)
  absent-makes e = nothing_makes o (s.works ∙ absent-halts (label-found p same d.finds) d.reads vs s.enter e)

  module _ {f : Parameters} (e : r ≡ Some f) where
    -- .. or it has another number of parameters
    pub uneven_makes : (f.row.places.len ≡ n → ⊥) → Makes store events at' (resting (located_step M P l)) store events (Err NoStep)
    uneven_makes u = nothing_makes o (s.works ∙ uneven_halts (label-found p same d.finds) d.reads vs s.enter e (λ q. u (q ∙ sym s.count)))

    pub call-makes : {ts : List Slot} {store' events' : List ℕ} {m : Result Step Stop} → f.row.places.len ≡ n → Laid l vs ts
        → Enters store events h at' f.body (event_head 3 0 k 0 0) 0 0 (renamed (ids_of f.row) ts) store' events' m
        → Makes store events at' (resting (located_step M P l)) store' events' m
    unfolding event_bytes next_place_lem environment_of
    call-makes u v w =
        let g = enters_with (label-found p same d.finds) d.reads vs s.enter e (place_of l.cells) (u ∙ s.count) in
        let t : M.step P (project P l) ≡ shows (Call' label) (at g.what.body (g.new ++ []) (cells P l)) =
        s.shown g.what g.new (s.works ∙ g.is) ∙ ap (λ (ε : Entries). shows (Call' label) (at g.what.body ε (cells P l))) (sym (append-nil g.new)) in
        enters-makes o (Call' label) g.what.body g.new (alone o) t g.next (ap (λ (i : ℕ). event_head 3 0 i 0 0) same) (g.slots ∙ sym (v.slots (ids_of f.row))) w
