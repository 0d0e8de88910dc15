-- Let: the linear machine's step. Assumes nothing.
use Prim.Native.Nat.{ℕ, ◌+◌, ◌-◌, ◌*◌, ◌≤◌}
use mathlib.Core.Path.{◌≡◌, sym, ap, ap₂, ◌∙◌, subst}
use mathlib.Core.List.{List, [], ◌∷◌, ◌++◌, map, append-nil}
use native.Mathlib.Omega.{arith}
use lib.ListN.{length, take, drop, length-append, length-drop, length-map}
use lib.Seq.{length-take-le}
use Rattle.std.specs.Prelude.{Result}
use Rattle.syntax.specs.Sets.{distinct}
use Rattle.syntax.specs.Context.{id_of, ids}
use Rattle.syntax.specs.declared.names.VarId.{VarId}
use Rattle.model.specs.Syntax.{Let, Prog}
use Rattle.model.specs.Machine.{Value, cell, Entries, keys, values, xtor, Cells, at, shows, Let'}
use Rattle.model.specs.Linear.{last_of, before_last, ends_in_lem, in_order_lem, linear_work}
use Rattle.image_spec.specs.Parse.{each, All}
use Rattle.image_spec.specs.Records.{Record}
use Rattle.image_spec.proofs.DirectoryLaws.{and_left}
use Rattle.image_directory.specs.declared.Frame.{Frame}
use Rattle.image_read_parts.specs.Parts.{list_of}
use Rattle.image_read_nodes.specs.Nodes.{first_of}
use Rattle.image_read_parts.specs.Indexed.{record_at, At}
use Rattle.step_slots.specs.Slots.{Slot, slot_bytes, value_slot}
use Rattle.step_spec.specs.Located.{linear_machine, held, Located, stmt_in, cell_in, project, located_step}
use Rattle.step_spec.specs.Store.{place_of, environment_of, ValueFits, EntryFits}
use Rattle.step_spec.specs.Events.{event_head}
use Rattle.step_spec.proofs.Lists.{each-++, all_drop}
use Rattle.step_spec.proofs.Representable.{values-fit}
use Rattle.step_header.specs.declared.Header.{Header}
use Rattle.step_header.specs.Headers.{entries_in}
use Rattle.step_entries.specs.Named.{under}
use Rattle.step_rows.proofs.RowLaws.{row-length}
use Rattle.step_write.specs.declared.Step.{Step}
use Rattle.step_write.specs.declared.Stop.{Stop}
use Rattle.step_rule.specs.Rules.{ImageOf, Stored, resting, Makes}
use Rattle.step_rule.proofs.Views.{viewed}
use Rattle.step_rule.proofs.Leads.{Leads, leads-makes}
use Rattle.step_rule.proofs.Machines.{in_order, linear-works}
use Rattle.step_gather.proofs.GatheringLaws.{erased}
use Rattle.step_last.proofs.LastEntries.{ends-entries, entries-count, last-slots, before-bytes}
use Rattle.step_last.proofs.NewCells.{var-behind}
use Rattle.step_tags.specs.Tags.{tag_in}
use Rattle.step_last.specs.NewCell.{var_slot_lem}
use Rattle.step_statement_let.specs.declared.let_.Parts.{Parts}
use Rattle.step_statement_let.specs.Letting.{PartsOf, kept, cell_slot_lem, Adds}
use Rattle.step_statement_let.proofs.LetLaws.{Letting, let_here, lead_let}

-- what was packed from a state, of the store and the header that it has
pub packed_as : {store store' out : List ℕ} {h h' : Header} (tag k : ℕ) → store ≡ store' → h ≡ h'
    → out ≡ each slot_bytes (cell_slot_lem h tag ∷ map (under 0) (drop (h.entries - k) (entries_in store h)))
    → out ≡ each slot_bytes (cell_slot_lem h' tag ∷ map (under 0) (drop (h'.entries - k) (entries_in store' h')))
packed_as tag k e f w = w ∙ λ i. each slot_bytes (cell_slot_lem (f i) tag ∷ map (under 0) (drop ((f i).entries - k) (entries_in (e i) (f i))))

module _ {P : Prog} {frame : Frame} {definitions : ℕ} {bytes store : List ℕ} {h : Header} {l : Located} (p : ImageOf P frame definitions bytes) (o : Stored linear_machine P store h l)
    (a : At frame bytes h.position 4) where
  abbrev r : Record
  r = record_at frame bytes h.position

  abbrev c : Letting (stmt_in P l.position) r
  c = let_here p o a

  abbrev K : Cells
  K = map (cell_in P) l.cells

  abbrev E : List Slot
  E = entries_in store h

  module _ {parts : Parts} (q : PartsOf r parts) where
    abbrev k : ℕ
    k = parts.args.places.len

    many : length c.args ≡ k
    many = sym (ap (λ (z : Record). length (list_of z)) c.holds) ∙ (sym (length-map (list_of r) id_of) ∙ row-length parts.args q.args)

    -- the list has as many entries
    pub has-args : k ≤ h.entries
    unfolding in_order_lem
    has-args =
        let L = keys l.environment in
        let Γ = c.args in
        let q = and_left (ends_in_lem (ids Γ) L) (distinct (before_last (length Γ) L ++ (c.var.id ∷ []))) (in_order o (Let c.var c.ty c.tag Γ c.next) c.is) in
        omega (arith, many, ends-entries o (ids Γ) q, length-map Γ id_of)

    abbrev x : VarId
    x = c.var.id

    -- the values of the last entries
    abbrev vs : List Value
    vs = values (last_of k l.environment)

    -- what is left, with var behind it
    abbrev left : Entries
    left = before_last k l.environment ++ ((x, cell (length K)) ∷ [])

    goes : linear_machine.step P (project P l) ≡ shows (Let' (length K) c.tag.name) (at c.next left (K ++ (xtor c.tag.name vs ∷ [])))
    unfolding linear_work
    goes =
        let ε = l.environment in
        linear-works o (Let c.var c.ty c.tag c.args c.next) c.is
        ∙ ap (λ (j : ℕ). shows (Let' (length K) c.tag.name) (at c.next (before_last j ε ++ ((x, cell (length K)) ∷ [])) (K ++ (xtor c.tag.name (values (last_of j ε)) ∷ [])))) many

    abbrev D : List Slot
    D = map (under 0) (drop (h.entries - k) E)

    -- their slots, and that they fit
    value-slots : map (value_slot (place_of l.cells) 0) vs ≡ D
    unfolding environment_of
    value-slots = sym (erased (place_of l.cells) (last_of k l.environment)) ∙ ap (map (under 0)) (last-slots o k)

    fit : All (ValueFits (length l.cells)) vs
    fit = values-fit (length l.cells) (last_of k l.environment) (all_drop (EntryFits (length l.cells)) (length l.environment - k) l.environment (viewed o).fits.environment)

    abbrev T : List Slot
    T = take (h.entries - k) E

    -- the cell with the values, what is left, and var
    written : (head var : Slot) (packed : List ℕ) → packed ≡ each slot_bytes (head ∷ D) → each slot_bytes ((head ∷ D) ++ (T ++ (var ∷ [])))
        ≡ packed ++ (take (16 * (h.entries - k)) (drop (64 + 16 * h.heap) store) ++ slot_bytes var)
    written head var packed e =
        let t : each slot_bytes (T ++ (var ∷ [])) ≡ take (16 * (h.entries - k)) (drop (64 + 16 * h.heap) store) ++ slot_bytes var =
        each-++ slot_bytes T (var ∷ []) ∙ ap₂ {C = List ℕ} (λ (y z : List ℕ). y ++ z) (sym (before-bytes o k)) (append-nil (slot_bytes var)) in
        each-++ slot_bytes (head ∷ D) (T ++ (var ∷ [])) ∙ ap₂ {C = List ℕ} (λ (y z : List ℕ). y ++ z) (sym e) t

    pub linear-makes : (scratch : List ℕ) {events store' events' : List ℕ} {at' : ℕ} {m : Result Step Stop}
        → take (16 * (k + 1)) scratch ≡ each slot_bytes (cell_slot_lem h parts.tag ∷ D)
        → Adds store events h at' parts k (h.entries - k)
        (take (16 * (k + 1)) scratch ++ (take (16 * (h.entries - k)) (drop (64 + 16 * h.heap) store) ++ slot_bytes (var_slot_lem h parts.id))) store' events' m
        → Makes store events at' (resting (located_step linear_machine P l)) store' events' m
    linear-makes scratch {events} {at' = at'} w d =
        let tag = c.tag.name in
        let n = h.entries - k in
        let j : k ≡ length D = omega (arith, has-args, length-map (drop n E) (under 0), length-drop n E, entries-count o) in
        let i : n + 1 ≡ length (T ++ (var_slot_lem h x.0 ∷ [])) = omega (arith, length-append T (var_slot_lem h x.0 ∷ []), length-take-le n E (omega (arith, entries-count o))) in
        let lead : Leads linear_machine P l store h (event_head 4 1 tag.0 0 h.cells) (kept h k n) (cell_slot_lem h tag.0 ∷ D) (T ++ (var_slot_lem h x.0 ∷ [])) =
        lead_let o vs left c.var c.ty c.tag c.args c.next n c.is goes fit value-slots j (var-behind o (held tag vs ∷ []) x k) i in
        let Led : ℕ × ℕ → Type 0 =
        λ (y : ℕ × ℕ). Leads linear_machine P l store h (event_head 4 1 y.0 0 h.cells) (kept h k n) (cell_slot_lem h y.0 ∷ D) (T ++ (var_slot_lem h y.1 ∷ [])) in
        let f : tag.0 ≡ parts.tag = sym (q.tag ∙ ap (λ (z : Record). (tag_in z).name.0) c.holds) in
        let g : x.0 ≡ parts.id = sym (q.id ∙ ap (λ (z : Record). (first_of z).id.0) c.holds) in
        leads-makes o (subst Led (λ e. (f e, g e)) lead) events at' 0 (omega arith) {from = 64 + 16 * h.heap} (omega arith)
        (written (cell_slot_lem h parts.tag) (var_slot_lem h parts.id) (take (16 * (k + 1)) scratch) w) d.finishes
