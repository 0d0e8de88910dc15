-- A step that leaves cells and environment as they are, to another statement or to the end of the run. Assumes nothing.
use Rattle.std.specs.Prelude.{Result}
use Prim.Native.Nat.{ℕ, ◌+◌, ◌*◌}
use mathlib.Core.Path.{◌≡◌, refl, sym, ap, ◌∙◌, subst}
use mathlib.Core.Bool.{Bool, true, false}
use mathlib.Core.List.{List, [], map, append-nil}
use mathlib.Core.Option.{some}
use native.Mathlib.Omega.{arith}
use lib.ListN.{take}
use lib.Seq.{take_all}
use Rattle.model.specs.Syntax.{Stmt, Prog}
use Rattle.model.specs.Machine.{at, ended, Event, shows}
use Rattle.image_spec.specs.Parse.{each}
use Rattle.step_slots.specs.Slots.{slot_bytes}
use Rattle.step_slots.proofs.SlotBytes.{slots-count}
use Rattle.step_spec.specs.Located.{Machine, Located, cell_in, project, next_place_lem, located_step}
use Rattle.step_spec.specs.Events.{event_bytes}
use Rattle.step_header.specs.declared.Header.{Header}
use Rattle.step_header.specs.Headers.{entries_in}
use Rattle.step_write.specs.declared.Step.{Step}
use Rattle.step_write.specs.declared.Stop.{Stop}
use Rattle.step_write.specs.Writing.{size, Finishes}
use Rattle.step_rule.specs.Rules.{Stored, resting, Makes}
use Rattle.step_rule.proofs.Views.{viewed}
use Rattle.step_rule.proofs.Leads.{Leads, leads-makes}
use Rattle.step_rule.proofs.Ways.{lead_same, lead_ended}
use Rattle.step_stay.specs.Staying.{stayed, Stays}

module _ {M : Machine} {P : Prog} {store : List ℕ} {h : Header} {l : Located} (o : Stored M P store h l) {events store' events' : List ℕ} {at' p : ℕ} {m : Result Step Stop} where
  leads : {e : Bool} {shown : List ℕ} → Leads M P l store h shown (stayed h p e) [] (entries_in store h) → Stays store events h at' p e shown store' events' m
      → Makes store events at' (resting (located_step M P l)) store' events' m
  leads w s =
      let E = entries_in store h in
      let q : take h.entries E ≡ E = take_all h.entries E (omega (arith, slots-count store (64 + 16 * h.heap) h.entries)) in
      leads-makes o w events at' h.entries (omega arith) {written = []} refl (ap (each slot_bytes) (sym q) ∙ sym (append-nil (each slot_bytes (take h.entries E)))) s.finishes

  module _ (e : Event) {bytes : List ℕ} (b : bytes ≡ event_bytes e) (t : Stmt) where
    -- to a statement
    pub stays-makes : M.step P (project P l) ≡ shows e (at t l.environment (map (cell_in P) l.cells)) → p ≡ next_place_lem P l (some e)
        → Stays store events h at' p false bytes store' events' m → Makes store events at' (resting (located_step M P l)) store' events' m
    stays-makes s q w =
        leads (lead_same o t l.environment e s q (sym (slots-count store (64 + 16 * h.heap) h.entries)) (sym (viewed o).entries))
        (subst (λ (x : List ℕ). Stays store events h at' p false x store' events' m) b w)

    -- to the end
    pub stays-ended : M.step P (project P l) ≡ shows e (ended t l.environment (map (cell_in P) l.cells)) → p ≡ next_place_lem P l (some e)
        → Stays store events h at' p true bytes store' events' m → Makes store events at' (resting (located_step M P l)) store' events' m
    stays-ended s q w = leads (lead_ended o t e s q (sym (viewed o).entries)) (subst (λ (x : List ℕ). Stays store events h at' p true x store' events' m) b w)
