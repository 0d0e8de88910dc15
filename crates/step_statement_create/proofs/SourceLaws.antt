-- Create: the source machine's step. Assumes nothing.
use Prim.Native.Nat.{ℕ, ◌+◌, ◌*◌}
use mathlib.Core.Path.{◌≡◌, sym, ap, ◌∙◌}
use mathlib.Core.List.{List, [], ◌∷◌, ◌++◌, map}
use native.Mathlib.Omega.{arith}
use lib.ListN.{length, take, drop}
use Rattle.std.specs.Prelude.{Result}
use Rattle.model.specs.Machine.{cell, Cells}
use Rattle.model.specs.Source.{source_work}
use Rattle.model.specs.Syntax.{Create, Prog}
use Rattle.image_spec.specs.Parse.{each}
use Rattle.image_spec.specs.Records.{Record}
use Rattle.image_directory.specs.declared.Frame.{Frame}
use Rattle.image_directory.specs.Slots as image
use Rattle.image_read_nodes.specs.Nodes.{first_of}
use Rattle.image_read_parts.specs.Indexed.{At}
use Rattle.step_slots.specs.Slots.{Slot, slot_bytes}
use Rattle.step_slots.proofs.SlotBytes.{slots-taken, slots-count}
use Rattle.step_spec.specs.Located.{source_machine, made, Located, cell_in, located_step}
use Rattle.step_spec.specs.Events.{event_head}
use Rattle.step_spec.proofs.Lists.{each-++}
use Rattle.step_header.specs.declared.Header.{Header}
use Rattle.step_header.specs.Headers.{entries_in}
use Rattle.step_places.specs.Ends.{Ends}
use Rattle.step_write.specs.declared.Step.{Step}
use Rattle.step_write.specs.declared.Stop.{Stop}
use Rattle.step_write.specs.Writing.{Finishes}
use Rattle.step_rule.specs.Rules.{ImageOf, Stored, resting, Makes}
use Rattle.step_rule.proofs.Views.{viewed}
use Rattle.step_rule.proofs.Leads.{leads-makes}
use Rattle.step_rule.proofs.Machines.{source-works}
use Rattle.step_last.proofs.NewCells.{var-before}
use Rattle.step_last.specs.NewCell.{with_cell, var_slot_lem}
use Rattle.step_statement_create.specs.declared.create.Parts.{Parts}
use Rattle.step_statement_create.specs.Creating.{PartsOf, cell_slot_lem}
use Rattle.step_statement_create.proofs.CreateLaws.{created, body-place, finishes_as, lead_created}

-- what is written: the cell with the n slots from `from`, var, and these slots again
abbrev pub holding : (store : List ℕ) (from n : ℕ) (head var : Slot) → List ℕ
holding store from n head var = slot_bytes head ++ (take (16 * n) (drop from store) ++ (slot_bytes var ++ take (16 * n) (drop from store)))

module _ {P : Prog} {store : List ℕ} {h : Header} {l : Located} (o : Stored source_machine P store h l) where
  abbrev K : Cells
  K = map (cell_in P) l.cells

  written : (var : Slot) → each slot_bytes ((cell_slot_lem h ∷ entries_in store h) ++ (var ∷ entries_in store h)) ≡ holding store (64 + 16 * h.heap) h.entries (cell_slot_lem h) var
  written var =
      let E = entries_in store h in
      let t : each slot_bytes E ≡ take (16 * h.entries) (drop (64 + 16 * h.heap) store) =
      sym (slots-taken store (64 + 16 * h.heap) h.entries (slots-count store (64 + 16 * h.heap) h.entries) (viewed o).entries_slots) in
      ap (λ (z : List ℕ). slot_bytes (cell_slot_lem h) ++ z) (each-++ slot_bytes E (var ∷ E) ∙ ap (λ (z : List ℕ). z ++ (slot_bytes var ++ z)) t)

  pub source-makes : {frame : Frame} {definitions : ℕ} {bytes ends events store' events' shown : List ℕ} {at' from n : ℕ} {r : Parts} {next : Header} {head var : Slot} {m : Result Step Stop}
      → ImageOf P frame definitions bytes → At frame bytes h.position 6 → Ends (image.records_in frame bytes) ends
      → PartsOf frame bytes ends h.position r → next ≡ with_cell h r.next h.entries h.entries → shown ≡ event_head 6 1 0 0 h.cells
      → from ≡ 64 + 16 * h.heap → n ≡ h.entries → head ≡ cell_slot_lem h → var ≡ var_slot_lem h r.id
      → Finishes store events at' next shown from (holding store from n head var) store' events' m → Makes store events at' (resting (located_step source_machine P l)) store' events' m
  unfolding source_work
  source-makes {events = events} {at' = at'} {from} {n} {head = head} {var} p a e q header' event from' count cell' var' w =
      let c = created p o a in
      let x = c.var.id in
      let E = entries_in store h in
      let v : var ≡ var_slot_lem h x.0 = var' ∙ ap (var_slot_lem h) (q.id ∙ ap (λ (z : Record). (first_of z).id.0) c.holds) in
      let len : h.entries ≡ length E = sym (slots-count store (64 + 16 * h.heap) h.entries) in
      let lead = lead_created o l.environment ((x, cell (length K)) ∷ l.environment) c.clauses c.next h.entries
      (source-works o (Create c.var c.ty c.environment c.clauses c.next) c.is) (body-place p o a e q) (viewed o).fits.environment (sym (viewed o).entries) len
      (var-before o (made l.position l.environment ∷ []) x) (omega (arith, len)) in
      let b : holding store from n head var ≡ holding store (64 + 16 * h.heap) h.entries (cell_slot_lem h) (var_slot_lem h x.0) = λ i. holding store (from' i) (count i) (cell' i) (v i) in
      leads-makes o lead events at' 0 (omega arith) {from = 64 + 16 * h.heap} (omega arith) (written (var_slot_lem h x.0)) (finishes_as header' event from' b w)
