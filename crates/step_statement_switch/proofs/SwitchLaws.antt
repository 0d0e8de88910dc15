-- Switch: what the functions read and write, and the step of either machine. Assumes nothing.
use Prim.Native.Nat.{ℕ}
use mathlib.Core.Path.{◌≡◌, refl, sym, ap, ◌∙◌, subst}
use mathlib.Core.List.{List, ◌++◌}
use mathlib.Core.Option.{Option}
use native.Mathlib.Omega.{arith}
use lib.ListN.{length, length-map}
use Rattle.std.specs.Prelude.{Option as Maybe, Some, Result, Err}
use Rattle.syntax.specs.Context.{Context}
use Rattle.syntax.specs.declared.names.Name.{Name}
use Rattle.model.specs.Syntax.{Stmt, Clauses, Prog}
use Rattle.model.specs.Machine.{Value, Entries, at, Outcome, shows, or_halt, Switch', find_clause_lem, matched}
use Rattle.image_directory.specs.declared.Frame.{Frame}
use Rattle.image_read_parts.specs.Indexed.{record_at}
use Rattle.step_slots.specs.Slots.{Slot, value_slot}
use Rattle.step_slots.specs.Views.{no_slot, slots_at}
use Rattle.step_spec.specs.Located.{Machine, Located, stmt_in, project, located_step}
use Rattle.step_spec.specs.Store.{place_of, environment_of}
use Rattle.step_spec.specs.Events.{event_head, event_bytes}
use Rattle.step_header.specs.declared.Header.{Header}
use Rattle.step_places.specs.Searches.{name_of}
use Rattle.step_rows.specs.declared.row.Row.{Row}
use Rattle.step_rows.specs.Rows.{ids_of}
use Rattle.step_cells.specs.Cells.{Cell, cell_in'}
use Rattle.step_cells.proofs.CellLaws.{OfLet, Meets, cells_of, is_let, matched_let, no_let, lacks_halts}
use Rattle.step_gather.specs.Gathering.{renamed}
use Rattle.step_write.specs.declared.Step.{Step}
use Rattle.step_write.specs.declared.Stop.{Stop}
use Rattle.step_write.specs.declared.Stop.TheVariants.{NoStep}
use Rattle.step_rule.specs.Rules.{ImageOf, Stored, resting, Makes}
use Rattle.step_enter.specs.declared.Parameters.{Parameters}
use Rattle.step_enter.specs.Entering.{Enters}
use Rattle.step_enter.proofs.ParameterLaws.{Fitting, fitting, with_values, absent-halts, uneven_halts, enters_with}
use Rattle.step_enter.proofs.Around.{Around, nothing_makes, enters-makes}
use Rattle.step_statement_switch.proofs.TheSwitch.{Switching, clause-found, next_is_lem}
use Rattle.step_statement_switch.specs.Switching.{ClauseFor, other-cell, no-clause, other-count, the_clause, SwitchesOn, not_switched, switched, Switches}

-- ── what is read and written ──

-- a clause that is entered has as many parameters as the cell has values
pub record Enterable (cell : Cell) (row : Row) : Type 0 where
  pub fits : Fitting row
  pub even : row.places.len ≡ cell.len

pub enterable : {frame : Frame} {bytes : List ℕ} {i : ℕ} {cell : Cell} {r : Maybe Parameters} {p : Parameters} → r ≡ Some p → ClauseFor frame bytes i cell r → Enterable cell p.row
enterable e (other-cell n) = let z : ◌≡◌ {A = ℕ} 0 1 = cc (e) in absurd (omega arith)
enterable e (no-clause s c) = let z : ◌≡◌ {A = ℕ} 0 1 = cc (e) in absurd (omega arith)
enterable e (other-count s c n) = let z : ◌≡◌ {A = ℕ} 0 1 = cc (e) in absurd (omega arith)
enterable {cell = cell} {p = p} e (the_clause {p = other} s c n) =
    let same : other ≡ p = cc (e) in
    subst (λ (z : Parameters). Enterable cell z.row) same record { fits = fitting refl c.reads; even = n }

-- what was entered is what the contract says, with the event and the slots that the code has
pub switched_as : {frame : Frame} {bytes store events shown store' events' : List ℕ} {h : Header} {at' j n : ℕ} {cell : Cell} {p : Parameters} (ts : List Slot) {m : Result Step Stop}
    → ClauseFor frame bytes h.position cell (Some p) → shown ≡ event_head 5 1 cell.id 0 cell.number → ts ≡ slots_at store cell.from p.row.places.len
    → Enters store events h at' p.body shown j n (renamed (ids_of p.row) ts) store' events' m → SwitchesOn frame bytes store events h at' cell j n store' events' m
switched_as {frame} {bytes} {store} {events} {shown} {store'} {events'} {h} {at'} {j} {n} {cell} {p} ts {m} c v w f =
    let q : ts ≡ slots_at store cell.from cell.len = w ∙ ap (slots_at store cell.from) (enterable refl c).even in
    let F : List ℕ → List Slot → Type 0 = λ (x : List ℕ) (y : List Slot). Enters store events h at' p.body x j n (renamed (ids_of p.row) y) store' events' m in
    switched c (subst (λ (x : List ℕ). F x (slots_at store cell.from cell.len)) v (subst (F shown) q f))

-- what is no slot refers to no cell
pub no-value : {frame : Frame} {bytes store events : List ℕ} {h : Header} {at' j n : ℕ} → Switches frame bytes store events h at' no_slot j n store events (Err NoStep)
unfolding cell_in'
no-value = not_switched (other-cell (λ e. omega (arith, e)))

-- ── the step ──

-- with the cell of a Let: its number, its tag and its fields
abbrev pub entering : Clauses → (enter : ℕ → Name → Context × Stmt → Entries → Outcome) → ℕ × Name × List Value → Outcome
entering cs enter x = with_values (λ c. c.0) x.2 (enter x.0 x.1) (find_clause_lem x.1 cs)

-- what a machine does at a Switch on this value: it enters the clause, and where it does not stop, the fields are between these entries
pub record Works (M : Machine) (P : Prog) (l : Located) (cs : Clauses) (w : Option Value) (front back : Entries) : Type 0 where
  pub enter : ℕ → Name → Context × Stmt → Entries → Outcome
  pub works : M.step P (project P l) ≡ or_halt w λ v. or_halt (matched (cells_of P l) v) (entering cs enter)
  pub shown : (k : ℕ) (tag : Name) (c : Context × Stmt) (new : Entries) → M.step P (project P l) ≡ enter k tag c new
      → M.step P (project P l) ≡ shows (Switch' k tag) (at c.1 (front ++ (new ++ back)) (cells_of P l))

module _ {M : Machine} {P : Prog} {frame : Frame} {definitions : ℕ} {bytes store : List ℕ} {h : Header} {l : Located} (p : ImageOf P frame definitions bytes) (o : Stored M P store h l)
    (t : Switching (stmt_in P l.position) (record_at frame bytes h.position)) where
  module _ {w : Option Value} {front back : Entries} (s : Works M P l t.clauses w front back) {cell' : Cell} where
    -- with the cell of a Let
    with_let : (c : OfLet P store h l w cell') → M.step P (project P l) ≡ entering t.clauses s.enter (cell'.number, name_of cell'.id, c.fields)
    with_let c =
        let k = entering t.clauses s.enter in
        s.works ∙ (ap (λ (v : Option Value). or_halt v λ v. or_halt (matched (cells_of P l) v) k) c.is ∙ ap (λ x. or_halt x k) (matched_let c))

    held : (c : OfLet P store h l w cell') → cell'.len ≡ length c.fields
    held c = c.holds.count ∙ length-map c.fields (value_slot (place_of l.cells) 0)

    pub switches-makes : {value : Slot} {j n : ℕ} {events store' events' : List ℕ} {at' : ℕ} {m : Result Step Stop} → Meets P store h l w value cell' → Around l.cells store h j n front back
        → SwitchesOn frame bytes store events h at' cell' j n store' events' m
        → Makes store events at' (resting (located_step M P l)) store' events' m
    unfolding event_bytes environment_of
    switches-makes met around (not_switched (other-cell e)) =
        nothing_makes o (s.works ∙ lacks_halts (no_let met e) _ λ v f. ap (λ x. or_halt x (entering t.clauses s.enter)) f)
    switches-makes met around (not_switched (no-clause e f)) =
        let c = is_let met e in
        nothing_makes o (with_let c ∙ absent-halts (clause-found p o t cell'.id f.finds) f.reads c.fields _ refl)
    switches-makes met around (not_switched (other-count e f u)) =
        let c = is_let met e in
        nothing_makes o (with_let c ∙ uneven_halts (clause-found p o t cell'.id f.finds) f.reads c.fields _ refl (λ q. u (q ∙ sym (held c))))
    switches-makes met around (switched {p = clause} (the_clause e f u) w) =
        let c = is_let met e in
        let of = place_of l.cells in
        let tag = name_of cell'.id in
        let g = enters_with (clause-found p o t cell'.id f.finds) f.reads c.fields (s.enter cell'.number tag) refl of (u ∙ held c) in
        let v : environment_of l.cells g.new ≡ renamed (ids_of clause.row) (slots_at store cell'.from cell'.len) = g.slots ∙ ap (renamed (ids_of clause.row)) (sym c.holds.are) in
        enters-makes o (Switch' cell'.number tag) g.what.1 g.new around (s.shown cell'.number tag g.what g.new (with_let c ∙ g.is))
        (g.next ∙ next_is_lem p o t cell'.number cell'.id) refl v w
