-- Substitute: how many pairs it has, the statement by its record, and the linear machine's step. Assumes nothing.
use Prim.Native.Nat.{ℕ, ◌+◌, ◌*◌, ◌≤◌}
use mathlib.Core.Path.{◌≡◌, refl, sym, ap, ap₂, ◌∙◌}
use mathlib.Core.Bool.{Bool, true, false}
use mathlib.Core.List.{List, [], map}
use mathlib.Core.Option.{Option, none, some}
use native.Mathlib.Omega.{arith}
use lib.ListN.{length, take, length-map}
use Rattle.std.specs.Prelude.{Result, Err}
use Rattle.syntax.specs.declared.names.VarId.{VarId}
use Rattle.syntax.specs.declared.names.Identifier.{Identifier}
use Rattle.syntax.specs.declared.context.ContextBinding.{ContextBinding}
use Rattle.model.specs.Syntax.{Stmt, Substitute, Prog}
use Rattle.model.specs.Lists.{lookups, zip}
use Rattle.model.specs.Machine.{Value, Cells, at, silent, or_halt}
use Rattle.model.specs.Linear.{targets, sources, linear_work}
use Rattle.image_spec.specs.Records.{Record, definition, substitute, call, let', switch, create, invoke, literal, op, ifc, clause', print, exit, RecordOk}
use Rattle.image_spec.specs.Kinds.{kind_of}
use Rattle.image_spec.specs.Shape.{flatten_clauses}
use Rattle.image_directory.specs.declared.Frame.{Frame}
use Rattle.image_directory.specs.Slots.{Ready}
use Rattle.image_read_parts.specs.Indexed.{record_at, At}
use Rattle.image_read_nodes.proofs.NodeLaws.{record_ok}
use Rattle.step_slots.specs.Slots.{Slot}
use Rattle.step_spec.specs.Located.{linear_machine, Located, stmt_in, cell_in, project, next_place_lem, located_step}
use Rattle.step_spec.specs.Store.{place_of, environment_of}
use Rattle.step_header.specs.declared.Header.{Header}
use Rattle.step_header.specs.Headers.{entries_in}
use Rattle.step_entries.specs.Named.{named, under}
use Rattle.step_rows.specs.Rows.{ids_of}
use Rattle.step_rows.specs.RecordRows.{pairs_of}
use Rattle.step_rows.proofs.RowLaws.{row-length, ids-length}
use Rattle.step_write.specs.declared.Step.{Step}
use Rattle.step_write.specs.declared.Stop.{Stop}
use Rattle.step_write.specs.declared.Stop.TheVariants.{NoStep}
use Rattle.step_rule.specs.Rules.{ImageOf, Stored, resting, Makes, no_step}
use Rattle.step_rule.proofs.Views.{viewed}
use Rattle.step_rule.proofs.Leads.{Leads, leads-makes}
use Rattle.step_rule.proofs.Ways.{lead_silent, halted}
use Rattle.step_rule.proofs.Machines.{linear-works}
use Rattle.step_rule.proofs.Statements.{Is, is_substitute, is_call, is_let, is_switch, is_create_lem, is_invoke, is_literal, is_op, is_ifc, is_print, is_exit, here}
use Rattle.step_gather.specs.Gathering.{found_slots, renamed}
use Rattle.step_gather.proofs.Renaming.{renamed-length}
use Rattle.step_gather.proofs.GatheringLaws.{Gathered, gathered, not_gathered, zipped}
use Rattle.step_statement_substitute.specs.declared.substitute.Parts.{Parts}
use Rattle.step_statement_substitute.specs.Substituting.{PartsOf, rebuilt, Packs, Replaces}

-- ── the statement ──

-- it has at most 128 pairs
pub pairs-short : (g : Frame) (s : List ℕ) (i : ℕ) → Ready g s → At g s i 2 → length (pairs_of (record_at g s i)) ≤ 128
unfolding RecordOk
pairs-short g s i ready a = go (record_at g s i) a.kind (record_ok g s i 2 ready a)
  where
    go : (r : Record) → kind_of r ≡ 2 → RecordOk g.id r → length (pairs_of r) ≤ 128
    go (definition x Γ) k ok = absurd (omega arith)
    go (substitute ps) k ok = ok.0
    go (call x Γ) k ok = absurd (omega arith)
    go (let' v t h Γ) k ok = absurd (omega arith)
    go (switch v t n) k ok = absurd (omega arith)
    go (create v t Δ n) k ok = absurd (omega arith)
    go (invoke v h t Γ) k ok = absurd (omega arith)
    go (literal z v) k ok = absurd (omega arith)
    go (op f o j v) k ok = absurd (omega arith)
    go (ifc c f j) k ok = absurd (omega arith)
    go (clause' x Γ) k ok = absurd (omega arith)
    go (print n v) k ok = absurd (omega arith)
    go (exit v) k ok = absurd (omega arith)

-- it is a Substitute, and this is its record
record Substituting (t : Stmt) (r : Record) : Type 0 where
  pairs : List (ContextBinding × Identifier)
  next : Stmt
  is : t ≡ Substitute pairs next
  holds : r ≡ substitute pairs

substituting : {t : Stmt} {r : Record} → Is t r → kind_of r ≡ 2 → Substituting t r
substituting (is_substitute {ps} next) k = record { pairs = ps; next = next; is = refl; holds = refl }
substituting is_call k = absurd (omega arith)
substituting (is_let next) k = absurd (omega arith)
substituting (is_switch cs) k = absurd (omega arith)
substituting (is_create_lem cs next) k = absurd (omega arith)
substituting is_invoke k = absurd (omega arith)
substituting (is_literal next) k = absurd (omega arith)
substituting (is_op next) k = absurd (omega arith)
substituting (is_ifc thenc elsec) k = absurd (omega arith)
substituting (is_print next) k = absurd (omega arith)
substituting is_exit k = absurd (omega arith)

-- as many targets as sources
pub same_count : {r : Record} {parts : Parts} → PartsOf r parts → parts.targets.places.len ≡ parts.sources.places.len
same_count {r} {parts} q =
    let ps = pairs_of r in
    let Pair = ContextBinding × Identifier in
    sym (row-length parts.targets q.targets') ∙ (length-map ps (λ (p : Pair). p.0.var.id) ∙ (sym (length-map ps (λ (p : Pair). p.1.id)) ∙ row-length parts.sources q.sources'))

-- ── the step ──

module _ {P : Prog} {frame : Frame} {definitions : ℕ} {bytes store : List ℕ} {h : Header} {l : Located} (p : ImageOf P frame definitions bytes) (o : Stored linear_machine P store h l)
    (a : At frame bytes h.position 2) where
  abbrev r : Record
  r = record_at frame bytes h.position

  c : Substituting (stmt_in P l.position) r
  c = substituting (here p o r refl) a.kind

  abbrev K : Cells
  K = map (cell_in P) l.cells

  abbrev E : List Slot
  E = entries_in store h

  -- its body is behind its record
  next_place : h.position + 1 ≡ next_place_lem P l none
  unfolding next_place_lem flatten_clauses
  next_place = rw c.is (omega (arith, (viewed o).position))

  module _ {parts : Parts} (q : PartsOf r parts) where
    abbrev xs : List VarId
    xs = ids_of parts.targets

    abbrev ys : List VarId
    ys = ids_of parts.sources

    targets-are : targets c.pairs ≡ xs
    targets-are = sym (q.targets' ∙ ap (λ (z : Record). targets (pairs_of z)) c.holds)

    sources-are : sources c.pairs ≡ ys
    sources-are = sym (q.sources' ∙ ap (λ (z : Record). sources (pairs_of z)) c.holds)

    -- what the machine does with what the lookups give
    works : (v : Option (List Value)) → lookups ys l.environment ≡ v → linear_machine.step P (project P l) ≡ or_halt v λ vs. silent (at c.next (zip xs vs) K)
    unfolding linear_work
    works v e =
        linear-works o (Substitute c.pairs c.next) c.is
        ∙ (ap₂ (λ (ts us : List VarId). or_halt (lookups us l.environment) λ vs. silent (at c.next (zip ts vs) K)) targets-are sources-are
        ∙ ap (λ (w : Option (List Value)). or_halt w λ vs. silent (at c.next (zip xs vs) K)) e)

    -- one of the sources is absent
    pub linear-halts : {scratch events : List ℕ} {at' : ℕ} {b : Bool} → Packs E xs ys scratch b → b ≡ false
        → Makes store events at' (resting (located_step linear_machine P l)) store events (Err NoStep)
    linear-halts w f = rw (halted o (works none (not_gathered o ys (sym w.found ∙ f)))) no_step

    -- all are there
    pub linear-makes : {scratch events store' events' : List ℕ} {at' : ℕ} {b : Bool} {m : Result Step Stop} → Packs E xs ys scratch b → b ≡ true
        → Replaces store events h at' parts.targets.places.len (take (16 * parts.targets.places.len) scratch) store' events' m
        → Makes store events at' (resting (located_step linear_machine P l)) store' events' m
    unfolding environment_of
    linear-makes {scratch} {events} {at' = at'} w t d =
        let k = parts.targets.places.len in
        let F = found_slots E ys in
        let of = place_of l.cells in
        let G : Gathered of (length l.cells) E l.environment ys = gathered o ys (sym w.found ∙ t) in
        let len : length xs ≡ k = ids-length parts.targets.bytes.now parts.targets.places in
        let many : length xs ≡ length F = len ∙ (same_count q ∙ (sym (ids-length parts.sources.bytes.now parts.sources.places) ∙ sym (length-map ys (λ (y : VarId). under 0 (named y.0 E))))) in
        let n : k ≡ length (renamed xs F) = sym (renamed-length xs F many ∙ len) in
        let slots : environment_of l.cells (zip xs G.found) ≡ renamed xs F = zipped of xs G.found ∙ ap (renamed xs) (sym G.slots) in
        let lead : Leads linear_machine P l store h [] (rebuilt h k) [] (renamed xs F) = lead_silent o c.next (zip xs G.found) (works (some G.found) G.looked) next_place n slots in
        leads-makes o lead events at' 0 (omega arith) {from = 64 + 16 * h.heap} (omega arith) (sym (w.put t) ∙ ap (λ (z : ℕ). take (16 * z) scratch) len) d.finishes
