-- Let: the source machine's step. Assumes nothing.
use Prim.Native.Nat.{ℕ, ◌+◌, ◌*◌}
use mathlib.Core.Path.{◌≡◌, sym, ap, ap₂, ◌∙◌, subst}
use mathlib.Core.Bool.{Bool, true, false}
use mathlib.Core.List.{List, [], ◌∷◌, ◌++◌, map, append_assoc}
use mathlib.Core.Option.{Option, none, some}
use native.Mathlib.Omega.{arith}
use lib.ListN.{length, take, drop, length-map}
use Rattle.std.specs.Prelude.{Result, Err}
use Rattle.syntax.specs.Context.{ids}
use Rattle.syntax.specs.declared.names.VarId.{VarId}
use Rattle.model.specs.Syntax.{Let, Prog}
use Rattle.model.specs.Lists.{lookups}
use Rattle.model.specs.Machine.{Value, cell, Cells, xtor, at, shows, or_halt, Let'}
use Rattle.model.specs.Source.{source_work}
use Rattle.image_spec.specs.Parse.{each}
use Rattle.image_spec.specs.Records.{Record}
use Rattle.image_directory.specs.declared.Frame.{Frame}
use Rattle.image_read_parts.specs.Parts.{list_of}
use Rattle.image_read_nodes.specs.Nodes.{first_of}
use Rattle.image_read_parts.specs.Indexed.{record_at, At}
use Rattle.step_slots.specs.Slots.{Slot, slot_bytes}
use Rattle.step_slots.proofs.SlotBytes.{slots-taken, slots-count}
use Rattle.step_spec.specs.Located.{source_machine, held, Located, stmt_in, cell_in, project, located_step}
use Rattle.step_spec.specs.Store.{place_of}
use Rattle.step_spec.specs.Events.{event_head}
use Rattle.step_spec.proofs.Lists.{each-++}
use Rattle.step_header.specs.declared.Header.{Header}
use Rattle.step_header.specs.Headers.{entries_in}
use Rattle.step_entries.specs.Named.{named, under}
use Rattle.step_rows.specs.Rows.{ids_of}
use Rattle.step_rows.proofs.RowLaws.{ids-length}
use Rattle.step_write.specs.declared.Step.{Step}
use Rattle.step_write.specs.declared.Stop.{Stop}
use Rattle.step_write.specs.declared.Stop.TheVariants.{NoStep}
use Rattle.step_rule.specs.Rules.{ImageOf, Stored, resting, Makes, no_step}
use Rattle.step_rule.proofs.Views.{viewed}
use Rattle.step_rule.proofs.Leads.{Leads, leads-makes}
use Rattle.step_rule.proofs.Ways.{halted}
use Rattle.step_rule.proofs.Machines.{source-works}
use Rattle.step_gather.specs.Gathering.{found_slots}
use Rattle.step_gather.proofs.GatheringLaws.{Gathered, gathered, not_gathered}
use Rattle.step_last.proofs.NewCells.{var-before}
use Rattle.step_tags.specs.Tags.{tag_in}
use Rattle.step_last.specs.NewCell.{var_slot_lem}
use Rattle.step_statement_let.specs.declared.let_.Parts.{Parts}
use Rattle.step_statement_let.specs.Letting.{PartsOf, kept, cell_slot_lem, Packs, Adds}
use Rattle.step_statement_let.proofs.LetLaws.{Letting, let_here, lead_let}

module _ {P : Prog} {frame : Frame} {definitions : ℕ} {bytes store : List ℕ} {h : Header} {l : Located} (p : ImageOf P frame definitions bytes) (o : Stored source_machine P store h l)
    (a : At frame bytes h.position 4) where
  abbrev r : Record
  r = record_at frame bytes h.position

  abbrev c : Letting (stmt_in P l.position) r
  c = let_here p o a

  abbrev K : Cells
  K = map (cell_in P) l.cells

  abbrev E : List Slot
  E = entries_in store h

  -- what the machine does with what the lookups give
  works : (v : Option (List Value)) → lookups (ids c.args) l.environment ≡ v
      → source_machine.step P (project P l)
      ≡ or_halt v λ vs. shows (Let' (length K) c.tag.name) (at c.next ((c.var.id, cell (length K)) ∷ l.environment) (K ++ (xtor c.tag.name vs ∷ [])))
  unfolding source_work
  works v e = source-works o (Let c.var c.ty c.tag c.args c.next) c.is
      ∙ ap (λ (w : Option (List Value)). or_halt w λ vs. shows (Let' (length K) c.tag.name) (at c.next ((c.var.id, cell (length K)) ∷ l.environment) (K ++ (xtor c.tag.name vs ∷ [])))) e

  module _ {parts : Parts} (q : PartsOf r parts) where
    abbrev xs : List VarId
    xs = ids_of parts.args

    args_are : ids c.args ≡ xs
    args_are = sym (q.args ∙ ap (λ (z : Record). ids (list_of z)) c.holds)

    -- one of the args is absent
    pub source-halts : {scratch events : List ℕ} {at' : ℕ} {b : Bool} → Packs E xs h parts scratch b → b ≡ false
        → Makes store events at' (resting (located_step source_machine P l)) store events (Err NoStep)
    source-halts w f = rw (halted o (works none (ap (λ (ys : List VarId). lookups ys l.environment) args_are ∙ not_gathered o xs (sym w.found ∙ f)))) no_step

    abbrev F : List Slot
    F = found_slots E xs

    -- the cell with the values, var, and the environment
    written : (head var : Slot) (packed : List ℕ) → packed ≡ each slot_bytes (head ∷ (F ++ (var ∷ [])))
        → each slot_bytes ((head ∷ F) ++ (var ∷ E)) ≡ packed ++ take (16 * h.entries) (drop (64 + 16 * h.heap) store)
    written head var packed e =
        let X = head ∷ (F ++ (var ∷ [])) in
        let t : each slot_bytes E ≡ take (16 * h.entries) (drop (64 + 16 * h.heap) store) =
        sym (slots-taken store (64 + 16 * h.heap) h.entries (slots-count store (64 + 16 * h.heap) h.entries) (viewed o).entries_slots) in
        ap (λ (z : List Slot). each slot_bytes (head ∷ z)) (sym (append_assoc F (var ∷ []) E)) ∙ (each-++ slot_bytes X E ∙ ap₂ {C = List ℕ} (λ (y z : List ℕ). y ++ z) (sym e) t)

    -- all are there
    pub source-makes : {scratch events store' events' : List ℕ} {at' : ℕ} {b : Bool} {m : Result Step Stop} → Packs E xs h parts scratch b → b ≡ true
        → Adds store events h at' parts parts.args.places.len h.entries (take (16 * (parts.args.places.len + 2)) scratch ++ take (16 * h.entries) (drop (64 + 16 * h.heap) store)) store' events' m
        → Makes store events at' (resting (located_step source_machine P l)) store' events' m
    source-makes {scratch} {events} {at' = at'} w t d =
        let k = parts.args.places.len in
        let len = ids-length parts.args.bytes.now parts.args.places in
        let G : Gathered (place_of l.cells) (length l.cells) E l.environment xs = gathered o xs (sym w.found ∙ t) in
        let x = c.var.id in
        let tag = c.tag.name in
        let looked : lookups (ids c.args) l.environment ≡ some G.found = ap (λ (ys : List VarId). lookups ys l.environment) args_are ∙ G.looked in
        let n : k ≡ length F = sym (length-map xs (λ (y : VarId). under 0 (named y.0 E)) ∙ len) in
        let lead : Leads source_machine P l store h (event_head 4 1 tag.0 0 h.cells) (kept h k h.entries) (cell_slot_lem h tag.0 ∷ F) (var_slot_lem h x.0 ∷ E) =
        lead_let o G.found ((x, cell (length K)) ∷ l.environment) c.var c.ty c.tag c.args c.next h.entries c.is (works (some G.found) looked) G.fit (sym G.slots) n
        (var-before o (held tag G.found ∷ []) x) (omega (arith, slots-count store (64 + 16 * h.heap) h.entries)) in
        let Led : ℕ × ℕ → Type 0 =
        λ (y : ℕ × ℕ). Leads source_machine P l store h (event_head 4 1 y.0 0 h.cells) (kept h k h.entries) (cell_slot_lem h y.0 ∷ F) (var_slot_lem h y.1 ∷ E) in
        let i : tag.0 ≡ parts.tag = sym (q.tag ∙ ap (λ (z : Record). (tag_in z).name.0) c.holds) in
        let j : x.0 ≡ parts.id = sym (q.id ∙ ap (λ (z : Record). (first_of z).id.0) c.holds) in
        let s : take (16 * (k + 2)) scratch ≡ each slot_bytes (cell_slot_lem h parts.tag ∷ (F ++ (var_slot_lem h parts.id ∷ []))) = ap (λ (z : ℕ). take (16 * (z + 2)) scratch) (sym len) ∙ w.put t in
        leads-makes o (subst Led (λ e. (i e, j e)) lead) events at' 0 (omega arith) {from = 64 + 16 * h.heap} (omega arith)
        (written (cell_slot_lem h parts.tag) (var_slot_lem h parts.id) (take (16 * (k + 2)) scratch) s) d.finishes
