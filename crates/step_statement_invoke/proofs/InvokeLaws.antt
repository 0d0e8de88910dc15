-- Invoke: the statement by its record, and that what is written is the step of a machine with such a rule. Assumes nothing.
use Prim.Native.Nat.{ℕ, ◌+◌, ◌-◌, ◌*◌}
use mathlib.Core.Path.{◌≡◌, refl, sym, ap, ap₂, ◌∙◌, subst}
use mathlib.Core.Bool.{false}
use mathlib.Core.List.{List, [], ◌++◌, map, append-nil, map-append}
use mathlib.Core.Option.{Option, some}
use native.Mathlib.Omega.{arith}
use lib.ListN.{length, take, drop, length-append}
use lib.Seq.{take-length}
use Rattle.std.specs.Prelude.{Option as Maybe, None, Result}
use Rattle.syntax.specs.Context.{Context}
use Rattle.syntax.specs.declared.names.Name.{Name}
use Rattle.syntax.specs.declared.names.VarId.{VarId}
use Rattle.syntax.specs.declared.names.Identifier.{Identifier}
use Rattle.syntax.specs.declared.types.Ty.{Ty}
use Rattle.model.specs.Syntax.{Stmt, Invoke, Clauses, Prog}
use Rattle.model.specs.Machine.{Value, Entries, at, ended, Invoke', Outside', Outcome, shows, halts, or_halt, find_clause_lem, Target, out, clo, invoked}
use Rattle.image_spec.specs.Parse.{each}
use Rattle.image_spec.specs.Records.{Record, invoke}
use Rattle.image_spec.specs.Kinds.{kind_of}
use Rattle.image_spec.specs.Shape.{max_depth}
use Rattle.image_places_spec.specs.Views.{clauses_in}
use Rattle.image_directory.specs.declared.Frame.{Frame}
use Rattle.image_directory.specs.Slots as image
use Rattle.image_directory.specs.Slots.{Ready}
use Rattle.image_read_parts.specs.Indexed.{record_at, At}
use Rattle.step_slots.specs.Slots.{Slot, slot_bytes, value_slot}
use Rattle.step_slots.proofs.SlotBytes.{slots-taken, slots-count}
use Rattle.step_spec.specs.Located.{Machine, Located, stmt_in, project, closure_place, clause_place, next_place_lem, is_stop, located_step}
use Rattle.step_spec.specs.Store.{place_of, entry_slot, environment_of}
use Rattle.step_spec.specs.Events.{shown_slot, event_bytes, event_head}
use Rattle.step_spec.proofs.Lists.{each-++}
use Rattle.step_header.specs.declared.Header.{Header}
use Rattle.step_header.specs.Headers.{heap_in, entries_in}
use Rattle.step_places.specs.Searches.{Finds}
use Rattle.step_rows.specs.Rows.{ids_of}
use Rattle.step_rows.proofs.RowLaws.{ids-length}
use Rattle.step_gather.specs.Gathering.{renamed, shown_as}
use Rattle.step_gather.proofs.Renaming.{renamed-length}
use Rattle.step_cells.specs.Cells.{Cell, cell_in'}
use Rattle.step_cells.proofs.CellLaws.{Meets, OfCreate, cells_of, lacks_halts, is_create_lem, is_outside, invoked-create, no_target}
use Rattle.step_cells.proofs.CreateLaws.{created}
use Rattle.step_write.specs.declared.Step.{Step}
use Rattle.step_write.specs.declared.Stop.{Stop}
use Rattle.step_write.specs.Writing.{Finishes}
use Rattle.step_show.proofs.ShownLaws.{shown_anywhere}
use Rattle.step_enter.specs.declared.Parameters.{Parameters}
use Rattle.step_enter.proofs.Around.{nothing_makes}
use Rattle.step_enter.proofs.ParameterLaws.{with_values, absent-halts, uneven_halts, enters_with}
use Rattle.step_rule.specs.Rules.{ImageOf, Stored, resting, Makes}
use Rattle.step_rule.proofs.Views.{viewed}
use Rattle.step_rule.proofs.Leads.{leads-makes}
use Rattle.step_rule.proofs.Ways.{lead_same, lead_ended}
use Rattle.step_rule.proofs.Statements.{Is, is_substitute, is_call, is_let, is_switch, is_create_lem as is-create', is_invoke, is_literal, is_op, is_ifc, is_print, is_exit, here}
use Rattle.step_enter.specs.Entering.{ClauseOf}
use Rattle.step_statement_invoke.specs.Invoking.{EntranceOf, no-closure, no_record, no-clause, other-count, EntersClause, over, Invokes, of-outside, of-nothing, of-closure}
use Rattle.step_statement_invoke.proofs.EntranceLaws.{Entered, entered_by}

-- ---- the statement

-- it is an Invoke, and this is its record
pub record Invocation (t : Stmt) (r : Record) : Type 0 where
  pub var : Identifier
  pub tag : Identifier
  pub ty : Ty
  pub args : Context
  pub is : t ≡ Invoke var tag ty args
  pub holds : r ≡ invoke var tag ty args

invocation : {t : Stmt} {r : Record} → Is t r → kind_of r ≡ 7 → Invocation t r
invocation (is_substitute next) k = absurd (omega arith)
invocation is_call k = absurd (omega arith)
invocation (is_let next) k = absurd (omega arith)
invocation (is_switch cs) k = absurd (omega arith)
invocation (is-create' cs next) k = absurd (omega arith)
invocation (is_invoke {var} {tag} {ty} {args}) k = record { var = var; tag = tag; ty = ty; args = args; is = refl; holds = refl }
invocation (is_literal next) k = absurd (omega arith)
invocation (is_op next) k = absurd (omega arith)
invocation (is_ifc thenc elsec) k = absurd (omega arith)
invocation (is_print next) k = absurd (omega arith)
invocation is_exit k = absurd (omega arith)

pub invocation-at : {M : Machine} {P : Prog} {frame : Frame} {definitions : ℕ} {bytes store : List ℕ} {h : Header} {l : Located} → ImageOf P frame definitions bytes → Stored M P store h l
    → At frame bytes h.position 7 → Invocation (stmt_in P l.position) (record_at frame bytes h.position)
invocation-at {frame = frame} {bytes} {h = h} p o a = invocation (here p o (record_at frame bytes h.position) refl) a.kind

-- ---- the rule, which the machines have in common

-- what the machine does, where var has the value w, if any, and the args have these; t is the statement
pub record Rule (M : Machine) (P : Prog) (l : Located) (t : Stmt) (tag : Name) (w : Option Value) (args : List Value) : Type 0 where
  pub enter : Target → Outcome
  pub run : ℕ → Stmt → Entries → Outcome
  pub goes : M.step P (project P l) ≡ or_halt w λ v. or_halt (invoked (cells_of P l) v) enter
  pub ends : (n : ℕ) → enter (out n) ≡ shows (Outside' n tag args) (ended t l.environment (cells_of P l))
  pub enters : (i : ℕ) (ε : Entries) (cs : Clauses) → enter (clo i ε cs) ≡ with_values (λ c. c.0) args (λ c new. run i c.1 (new ++ ε)) (find_clause_lem tag cs)
  pub runs : (i : ℕ) (s : Stmt) (ε : Entries) → is_stop (run i s ε) ≡ false → run i s ε ≡ shows (Invoke' i tag) (at s ε (cells_of P l))

-- the values of the args are in these slots
pub record Valued (store : List ℕ) (h : Header) (l : Located) (values : List Slot) (args : List Value) : Type 0 where
  pub count : length values ≡ length args
  pub shown : map (shown_as (heap_in store h)) values ≡ map shown_slot args
  pub named : (xs : List VarId) → renamed xs values ≡ renamed xs (map (value_slot (place_of l.cells) 0) args)

module _ {M : Machine} {P : Prog} {frame : Frame} {definitions : ℕ} {bytes store : List ℕ} {h : Header} {l : Located} (p : ImageOf P frame definitions bytes) (o : Stored M P store h l) (ready : Ready frame bytes)
    {t : Stmt} {tag : Name} {w : Option Value} {args : List Value} (rule : Rule M P l t tag w args) {value : Slot} {values : List Slot} (valued : Valued store h l values args)
    (met : Meets P store h l w value (cell_in' (heap_in store h) value)) where
  abbrev cell : Cell
  cell = cell_in' (heap_in store h) value

  abbrev of : ℕ → ℕ
  of = place_of l.cells

  -- ---- an outside number

  outside-step : value.sort ≡ 2 → M.step P (project P l) ≡ shows (Outside' value.payload tag args) (ended t l.environment (cells_of P l))
  outside-step s =
      rule.goes ∙ (ap (λ (v : Option Value). or_halt v λ v. or_halt (invoked (cells_of P l) v) rule.enter) (is_outside met s) ∙ rule.ends value.payload)

  outside-makes : {events store' events' : List ℕ} {at' : ℕ} {m : Result Step Stop} → value.sort ≡ 2
      → Finishes store events at' (over h) (event_head 7 2 tag.0 (length values) value.payload ++ each slot_bytes (map (shown_as (heap_in store h)) values)) 64 [] store' events' m
      → Makes store events at' (resting (located_step M P l)) store' events' m
  unfolding event_bytes next_place_lem
  outside-makes {events} {store'} {events'} {at'} {m} s f =
      let E = entries_in store h in
      let e = Outside' value.payload tag args in
      let shown : event_head 7 2 tag.0 (length values) value.payload ++ each slot_bytes (map (shown_as (heap_in store h)) values) ≡ event_bytes e =
      ap₂ {C = List ℕ} (λ (n : ℕ) (ts : List Slot). event_head 7 2 tag.0 n value.payload ++ each slot_bytes ts) valued.count valued.shown in
      let all : take h.entries E ≡ E = ap (λ (n : ℕ). take n E) (sym (slots-count store (64 + 16 * h.heap) h.entries)) ∙ take-length E in
      let lead = lead_ended o t e {p = h.position} {environment = E} (outside-step s) (viewed o).position (sym (viewed o).entries) in
      leads-makes o lead events at' h.entries (omega arith) {from = 64 + 16 * (h.heap + h.entries)} {written = []} refl (sym (append-nil _ ∙ ap (each slot_bytes) all))
      (shown_anywhere (64 + 16 * (h.heap + h.entries)) (subst (λ (x : List ℕ). Finishes store events at' (over h) x 64 [] store' events' m) shown f))

  -- ---- nothing

  -- what the machine does with a closure
  abbrev with_pairs : Entries → Context × Stmt → Entries → Outcome
  with_pairs ε c new = rule.run cell.number c.1 (new ++ ε)

  closure-step : (c : OfCreate P store h l w cell) → M.step P (project P l) ≡ with_values (λ c. c.0) args (with_pairs c.entries) (find_clause_lem tag (clauses_in (stmt_in P cell.id)))
  closure-step c =
      rule.goes
      ∙ (ap (λ (v : Option Value). or_halt v λ v. or_halt (invoked (cells_of P l) v) rule.enter) c.is
      ∙ (ap (λ (x : Option Target). or_halt x rule.enter) (invoked-create c) ∙ rule.enters cell.number c.entries (clauses_in (stmt_in P cell.id))))

  -- what the search found of its clauses
  searched : OfCreate P store h l w cell → {r : Maybe Parameters} (f : ClauseOf frame bytes cell.id tag.0 r)
      → Finds (λ c. c.0) (λ c. c.1) 11 (max_depth - 1) (image.records_in frame bytes) (clause_place tag (clauses_in (stmt_in P cell.id)) (cell.id + 1))
      (find_clause_lem tag (clauses_in (stmt_in P cell.id))) f.found
  searched c f = f.finds.finds (max_depth - 1) (clauses_in (stmt_in P cell.id)) (created p o ready c).clauses

  nothing-step : (value.sort ≡ 2 → ⊥) → EntranceOf frame bytes cell tag.0 (length values) None → M.step P (project P l) ≡ halts
  nothing-step s (no-closure n) =
      rule.goes ∙ lacks_halts (no_target met s n) (λ v. or_halt (invoked (cells_of P l) v) rule.enter) (λ v e. ap (λ (x : Option Target). or_halt x rule.enter) e)
  nothing-step s (no_record k n) = absurd (omega (arith, n, (created p o ready (is_create_lem met k)).at.inside))
  nothing-step s (no-clause k f) = let c = is_create_lem met k in closure-step c ∙ absent-halts (searched c f) f.reads args (with_pairs c.entries) refl
  nothing-step s (other-count k f n) =
      let c = is_create_lem met k in closure-step c ∙ uneven_halts (searched c f) f.reads args (with_pairs c.entries) refl (λ q. n (q ∙ sym valued.count))

  -- ---- a closure

  module _ (c : OfCreate P store h l w cell) where
    -- the entries that it holds
    abbrev held : List Slot
    held = map (entry_slot of) c.entries

    held_bytes : take (16 * cell.len) (drop cell.from store) ≡ each slot_bytes held
    held_bytes = slots-taken store cell.from cell.len (slots-count store cell.from cell.len) c.holds.slots ∙ ap (each slot_bytes) c.holds.are

    -- the parameters and then these
    closure-environment : (xs : List VarId) (new : Entries) → map (entry_slot of) new ≡ renamed xs (map (value_slot of 0) args) → environment_of l.cells (new ++ c.entries) ≡ renamed xs values ++ held
    unfolding environment_of
    closure-environment xs new e = map-append (entry_slot of) new c.entries ∙ ap (λ (ts : List Slot). ts ++ held) (e ∙ sym (valued.named xs))

    closure-place : clause_place tag (clauses_in (stmt_in P cell.id)) (cell.id + 1) ≡ next_place_lem P l (some (Invoke' cell.number tag))
    unfolding next_place_lem
    closure-place = sym (ap (closure_place P tag) c.kept)

    closure-count : (xs : List VarId) → length xs ≡ length values → length values + cell.len ≡ length (renamed xs values ++ held)
    closure-count xs n = omega (arith, n, renamed-length xs values n, c.holds.count, length-append (renamed xs values) held)

    closure-makes : {events store' events' : List ℕ} {at' : ℕ} {q : Parameters} {m : Result Step Stop} → Entered frame bytes cell tag.0 (length values) q
        → EntersClause store events h at' cell q.body (ids_of q.row) values tag.0 store' events' m → Makes store events at' (resting (located_step M P l)) store' events' m
    unfolding event_bytes
    closure-makes {events} {store'} {events'} {at'} {q} {m} x f =
        let xs = ids_of q.row in
        let n : length xs ≡ length values = ids-length q.row.bytes.now q.row.places ∙ x.count in
        let g = enters_with (searched c x.clause) x.clause.reads args (with_pairs c.entries) refl of (x.count ∙ valued.count) in
        let step = closure-step c ∙ g.is in
        let goes = step ∙ rule.runs cell.number g.what.1 (g.new ++ c.entries) (ap is_stop (sym step) ∙ o.goes) in
        let E = renamed xs values ++ held in
        let T = take (16 * cell.len) (drop cell.from store) in
        let written : each slot_bytes E ≡ each slot_bytes (renamed xs values) ++ T =
        each-++ slot_bytes (renamed xs values) held ∙ ap (λ (z : List ℕ). each slot_bytes (renamed xs values) ++ z) (sym held_bytes) in
        let lead = lead_same o g.what.1 (g.new ++ c.entries) {p = q.body} {n = length values + cell.len} {environment = E} (Invoke' cell.number tag) goes (g.next ∙ closure-place)
        (closure-count xs n) (closure-environment xs g.new g.slots) in
        leads-makes o lead events at' 0 (omega arith) {from = 64 + 16 * h.heap} {written = each slot_bytes (renamed xs values) ++ T} (omega arith) written f.finishes

  -- ---- what is written is the step

  pub invokes-makes : {events store' events' : List ℕ} {at' : ℕ} {m : Result Step Stop} → Invokes frame bytes store events h at' value values tag.0 store' events' m
      → Makes store events at' (resting (located_step M P l)) store' events' m
  invokes-makes (of-outside s f) = outside-makes s f
  invokes-makes (of-nothing s e) = nothing_makes o (nothing-step s e)
  invokes-makes (of-closure e f) = let x = entered_by e refl in closure-makes (is_create_lem met x.sort) x f
