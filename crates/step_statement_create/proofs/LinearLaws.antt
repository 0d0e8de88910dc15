-- Create: the linear machine's step. Assumes nothing.
use Prim.Native.Nat.{ℕ, ◌+◌, ◌-◌, ◌*◌, ◌≤◌}
use mathlib.Core.Path.{◌≡◌, sym, ap, ap₂, ◌∙◌, subst}
use mathlib.Core.Bool.{true, false≢true}
use mathlib.Core.List.{List, [], ◌∷◌, ◌++◌, map, append-nil, append_assoc}
use mathlib.Core.Option.{Option, none, some}
use native.Mathlib.Omega.{arith}
use lib.ListN.{length, take, drop, length-append, length-drop, length-map}
use lib.Seq.{length-take-le}
use Rattle.std.specs.Prelude.{Option as Maybe, Some, None, Result}
use Rattle.syntax.specs.Sets.{distinct}
use Rattle.syntax.specs.Context.{Context, id_of, ids}
use Rattle.syntax.specs.declared.names.VarId.{VarId}
use Rattle.model.specs.Syntax.{Create, Prog}
use Rattle.model.specs.Machine.{cell, Entries, keys, closure, Cells, at, shows, Create'}
use Rattle.model.specs.Linear.{last_of, before_last, ends_in_lem, in_order_lem, size_of, linear_work}
use Rattle.image_spec.specs.Parse.{each, Marked}
use Rattle.image_spec.specs.Fields.{ListOk}
use Rattle.image_spec.specs.Records.{Record, definition, substitute, call, let', switch, create, invoke, literal, op, ifc, clause', print, exit, RecordOk}
use Rattle.image_spec.specs.Kinds.{kind_of}
use Rattle.image_spec.proofs.DirectoryLaws.{and_left}
use Rattle.image_directory.specs.declared.Frame.{Frame}
use Rattle.image_directory.specs.Slots as image
use Rattle.image_directory.specs.Slots.{Ready}
use Rattle.image_read_nodes.specs.Nodes.{first_of}
use Rattle.image_read_parts.specs.Indexed.{record_at, At}
use Rattle.image_read_nodes.proofs.NodeLaws.{record_ok}
use Rattle.step_slots.specs.Slots.{Slot, slot_bytes}
use Rattle.step_spec.specs.Located.{linear_machine, made, Located, stmt_in, cell_in, project, located_step}
use Rattle.step_spec.specs.Store.{EntryFits}
use Rattle.step_spec.specs.Events.{event_head}
use Rattle.step_spec.proofs.Lists.{each-++, all_drop}
use Rattle.step_header.specs.declared.Header.{Header}
use Rattle.step_header.specs.Headers.{entries_in}
use Rattle.step_places.specs.Ends.{Ends}
use Rattle.step_rows.specs.declared.row.Row.{Row}
use Rattle.step_rows.specs.RecordRows.{environment_of, EnvironmentRow}
use Rattle.step_rows.proofs.RowLaws.{row-length}
use Rattle.step_rows.proofs.RecordRowLaws.{environment_none, environment_some}
use Rattle.step_write.specs.declared.Step.{Step}
use Rattle.step_write.specs.declared.Stop.{Stop}
use Rattle.step_write.specs.Writing.{Finishes}
use Rattle.step_rule.specs.Rules.{ImageOf, Stored, resting, Makes}
use Rattle.step_rule.proofs.Views.{viewed}
use Rattle.step_rule.proofs.Leads.{leads-makes}
use Rattle.step_rule.proofs.Machines.{in_order, linear-works}
use Rattle.step_last.proofs.LastEntries.{ends-entries, entries-count, last-slots, last-bytes, before-bytes}
use Rattle.step_last.proofs.NewCells.{var-behind}
use Rattle.step_last.specs.NewCell.{with_cell, var_slot_lem}
use Rattle.step_statement_create.specs.declared.create.Parts.{Parts}
use Rattle.step_statement_create.specs.Creating.{PartsOf, cell_slot_lem, closing, Closes}
use Rattle.step_statement_create.proofs.CreateLaws.{Creation, created, body-place, finishes_as, lead_created}

-- what was finished, with what the code computed
pub closes_as : {store events store' events' shown front : List ℕ} {h next : Header} {at' k from kept : ℕ} {r : Parts} {head var : Slot} {m : Result Step Stop}
    → next ≡ with_cell h r.next k (h.entries - k) → shown ≡ event_head 6 1 0 0 h.cells → from ≡ 64 + 16 * h.heap → kept ≡ h.entries - k
    → head ≡ cell_slot_lem h → var ≡ var_slot_lem h r.id → front ≡ slot_bytes head ++ take (16 * k) (drop (from + 16 * kept) store)
    → Finishes store events at' next shown from (front ++ (take (16 * kept) (drop from store) ++ slot_bytes var)) store' events' m → Closes store events h at' r k store' events' m
closes_as {store} {front = front} {h} {k = k} {from} {kept} {r} {head} {var} header' event from' count cell' var' g w =
    let B = take (16 * kept) (drop from store) ++ slot_bytes var in
    let b : front ++ B ≡ slot_bytes head ++ (take (16 * k) (drop (from + 16 * kept) store) ++ B) =
    ap (λ (z : List ℕ). z ++ B) g ∙ append_assoc (slot_bytes head) (take (16 * k) (drop (from + 16 * kept) store)) B in
    let q : slot_bytes head ++ (take (16 * k) (drop (from + 16 * kept) store) ++ B) ≡ closing store h k r.id =
    λ i. slot_bytes (cell' i) ++ (take (16 * k) (drop (from' i + 16 * count i) store) ++ (take (16 * count i) (drop (from' i) store) ++ slot_bytes (var' i))) in
    record { finishes = finishes_as header' event from' (b ∙ q) w }

-- ── the environment ──

-- the Create at index i has one, of k bindings
pub record Encloses (g : Frame) (s : List ℕ) (i k : ℕ) : Type 0 where
  pub context : Context
  pub is : environment_of (record_at g s i) ≡ some context
  pub count : length context ≡ k
  pub few : k ≤ 128

few-held : (w : ℕ) (Γ : Context) (r : Record) → kind_of r ≡ 6 → RecordOk w r → environment_of r ≡ some Γ → length Γ ≤ 128
unfolding RecordOk
few-held w Γ (definition x Δ) k ok e = absurd (omega arith)
few-held w Γ (substitute ps) k ok e = absurd (omega arith)
few-held w Γ (call x Δ) k ok e = absurd (omega arith)
few-held w Γ (let' v t h Δ) k ok e = absurd (omega arith)
few-held w Γ (switch v t n) k ok e = absurd (omega arith)
few-held w Γ (create v t Δ n) k ok e = (subst (Marked (ListOk w)) e ok.1.1.0).0
few-held w Γ (invoke v h t Δ) k ok e = absurd (omega arith)
few-held w Γ (literal z v) k ok e = absurd (omega arith)
few-held w Γ (op f o j v) k ok e = absurd (omega arith)
few-held w Γ (ifc c f j) k ok e = absurd (omega arith)
few-held w Γ (clause' x Δ) k ok e = absurd (omega arith)
few-held w Γ (print n v) k ok e = absurd (omega arith)
few-held w Γ (exit v) k ok e = absurd (omega arith)

module _ (g : Frame) (s : List ℕ) {i position : ℕ} {r : Maybe Row} (at' : i ≡ position) (q : EnvironmentRow r (environment_of (record_at g s i))) where
  -- the code found none
  pub none_there : r ≡ None → environment_of (record_at g s position) ≡ none
  none_there e = ap (λ (j : ℕ). environment_of (record_at g s j)) (sym at') ∙ environment_none q e

  -- .. or a row of it
  pub some_there : {row : Row} → Ready g s → At g s position 6 → r ≡ Some row → Encloses g s position row.places.len
  some_there {row} ready a e =
      let t = environment_some q e in
      let f : environment_of (record_at g s position) ≡ some t.context = ap (λ (j : ℕ). environment_of (record_at g s j)) (sym at') ∙ t.is in
      let n : length t.context ≡ row.places.len = sym (length-map t.context id_of) ∙ row-length row t.holds in
      record { context = t.context; is = f; count = n; few = omega (arith, n, few-held g.id t.context (record_at g s position) a.kind (record_ok g s position 6 ready a) f) }

module _ {P : Prog} {frame : Frame} {definitions : ℕ} {bytes store : List ℕ} {h : Header} {l : Located} (p : ImageOf P frame definitions bytes) (o : Stored linear_machine P store h l)
    (a : At frame bytes h.position 6) where
  abbrev r : Record
  r = record_at frame bytes h.position

  -- the environment of the record is that of the statement
  environment_is : (Γ : Option Context) → environment_of r ≡ Γ → (created p o a).environment ≡ Γ
  environment_is Γ e = sym (ap environment_of (created p o a).holds) ∙ e

  in_order_as : (Γ : Option Context) → environment_of r ≡ Γ → let c = created p o a in in_order_lem (Create c.var c.ty Γ c.clauses c.next) (keys l.environment) ≡ true
  in_order_as Γ e =
      let c = created p o a in
      ap (λ (Δ : Option Context). in_order_lem (Create c.var c.ty Δ c.clauses c.next) (keys l.environment)) (sym (environment_is Γ e))
      ∙ in_order o (Create c.var c.ty c.environment c.clauses c.next) c.is

  -- there is one
  pub has-environment : environment_of r ≡ none → ⊥
  unfolding in_order_lem
  has-environment e = false≢true (in_order_as none e)

  -- .. and the list has its entries
  pub has-entries : {k : ℕ} → Encloses frame bytes h.position k → k ≤ h.entries
  unfolding in_order_lem
  has-entries {k} g =
      let Γ = g.context in
      let L = keys l.environment in
      let q = and_left (ends_in_lem (ids Γ) L) (distinct (before_last (length Γ) L ++ ((created p o a).var.id ∷ []))) (in_order_as (some Γ) g.is) in
      omega (arith, g.count, ends-entries o (ids Γ) q, length-map Γ id_of)

  -- ── the step ──

  abbrev K : Cells
  K = map (cell_in P) l.cells

  module _ {k : ℕ} (g : Encloses frame bytes h.position k) where
    abbrev c : Creation (stmt_in P l.position) r
    c = created p o a

    abbrev x : VarId
    x = c.var.id

    within : k ≤ h.entries
    within = has-entries g

    -- what is left, with var behind it
    abbrev left : Entries
    left = before_last k l.environment ++ ((x, cell (length K)) ∷ [])

    goes : linear_machine.step P (project P l) ≡ shows (Create' (length K)) (at c.next left (K ++ (closure (last_of k l.environment) c.clauses ∷ [])))
    unfolding linear_work
    goes =
        let ε = l.environment in
        linear-works o (Create c.var c.ty c.environment c.clauses c.next) c.is
        ∙ ap (λ (j : ℕ). shows (Create' (length K)) (at c.next (before_last j ε ++ ((x, cell (length K)) ∷ [])) (K ++ (closure (last_of j ε) c.clauses ∷ []))))
        (ap size_of (environment_is (some g.context) g.is) ∙ g.count)

    written : (var : Slot) → each slot_bytes ((cell_slot_lem h ∷ drop (h.entries - k) (entries_in store h)) ++ (take (h.entries - k) (entries_in store h) ++ (var ∷ [])))
        ≡ slot_bytes (cell_slot_lem h) ++ (take (16 * k) (drop (64 + 16 * h.heap + 16 * (h.entries - k)) store) ++ (take (16 * (h.entries - k)) (drop (64 + 16 * h.heap) store) ++ slot_bytes var))
    written var =
        let D = drop (h.entries - k) (entries_in store h) in
        let T = take (h.entries - k) (entries_in store h) in
        let t : each slot_bytes (T ++ (var ∷ [])) ≡ take (16 * (h.entries - k)) (drop (64 + 16 * h.heap) store) ++ slot_bytes var =
        each-++ slot_bytes T (var ∷ []) ∙ ap₂ {C = List ℕ} (λ (y z : List ℕ). y ++ z) (sym (before-bytes o k)) (append-nil (slot_bytes var)) in
        ap (λ (z : List ℕ). slot_bytes (cell_slot_lem h) ++ z) (each-++ slot_bytes D (T ++ (var ∷ [])) ∙ ap₂ {C = List ℕ} (λ (y z : List ℕ). y ++ z) (sym (last-bytes o k within)) t)

    pub linear-makes : {ends events store' events' : List ℕ} {at' : ℕ} {q : Parts} {m : Result Step Stop} → Ends (image.records_in frame bytes) ends
        → PartsOf frame bytes ends h.position q → Closes store events h at' q k store' events' m
        → Makes store events at' (resting (located_step linear_machine P l)) store' events' m
    linear-makes {events = events} {at' = at'} {q = q} en pq w =
        let E = entries_in store h in
        let n = h.entries - k in
        let held = last_of k l.environment in
        let f = all_drop (EntryFits (length l.cells)) (length l.environment - k) l.environment (viewed o).fits.environment in
        let v : q.id ≡ x.0 = pq.id ∙ ap (λ (z : Record). (first_of z).id.0) c.holds in
        let j : k ≡ length (drop n E) = omega (arith, within, length-drop n E, entries-count o) in
        let i : n + 1 ≡ length (take n E ++ (var_slot_lem h x.0 ∷ [])) = omega (arith, length-append (take n E) (var_slot_lem h x.0 ∷ []), length-take-le n E (omega (arith, entries-count o))) in
        let lead = lead_created o held left c.clauses c.next n goes (body-place p o a en pq) f (last-slots o k) j (var-behind o (made l.position held ∷ []) x k) i in
        leads-makes o lead events at' 0 (omega arith) {from = 64 + 16 * h.heap} {written = closing store h k q.id} (omega arith)
        (written (var_slot_lem h x.0) ∙ ap (closing store h k) (sym v)) w.finishes
