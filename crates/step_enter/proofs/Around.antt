-- New entries between those that stay: what `enter` writes is the machine's step; and that there is none. Assumes nothing.
use Prim.Native.Nat.{ℕ, ◌+◌, ◌*◌, ◌≤◌}
use mathlib.Core.Path.{◌≡◌, refl, sym, ap, ap₂, ◌∙◌, subst}
use mathlib.Core.List.{List, [], ◌++◌, map, map-append}
use mathlib.Core.Option.{some}
use native.Mathlib.Omega.{arith}
use lib.ListN.{length, take, drop, length-append}
use lib.Seq.{length-take-le}
use Rattle.std.specs.Prelude.{Result, Err}
use Rattle.model.specs.Syntax.{Stmt, Prog}
use Rattle.model.specs.Machine.{Entries, at, Event, shows, halts}
use Rattle.image_spec.specs.Parse.{each}
use Rattle.step_slots.specs.Slots.{Slot, slot_bytes}
use Rattle.step_slots.proofs.SlotBytes.{slots-taken, slots-count}
use Rattle.step_spec.specs.Located.{Machine, Kept, Located, cell_in, project, next_place_lem, located_step}
use Rattle.step_spec.specs.Store.{place_of, entry_slot, environment_of}
use Rattle.step_spec.specs.Events.{event_bytes}
use Rattle.step_spec.proofs.Lists.{each-++}
use Rattle.step_header.specs.declared.Header.{Header}
use Rattle.step_header.specs.Headers.{entries_in}
use Rattle.step_write.specs.declared.Step.{Step}
use Rattle.step_write.specs.declared.Stop.{Stop}
use Rattle.step_write.specs.declared.Stop.TheVariants.{NoStep}
use Rattle.step_write.specs.Writing.{Finishes}
use Rattle.step_rule.specs.Rules.{Stored, resting, Makes, no_step}
use Rattle.step_rule.proofs.Views.{viewed}
use Rattle.step_rule.proofs.Leads.{leads-makes}
use Rattle.step_rule.proofs.Ways.{halted, lead_same}
use Rattle.step_enter.specs.Entering.{behind_entries, entered, Enters}

-- of the entries in the store the first j are these, and the n behind them those
pub record Around (K : List Kept) (store : List ℕ) (h : Header) (j n : ℕ) (front back : Entries) : Type 0 where
  pub within : j ≤ h.entries
  pub first : environment_of K front ≡ take j (entries_in store h)
  pub others : each slot_bytes (environment_of K back) ≡ take (16 * n) (drop (behind_entries h j) store)
  pub count : length (environment_of K back) ≡ n

module _ {M : Machine} {P : Prog} {store : List ℕ} {h : Header} {l : Located} (o : Stored M P store h l) where
  -- where the machine halts, nothing is done
  pub nothing_makes : {events : List ℕ} {at' : ℕ} → M.step P (project P l) ≡ halts → Makes store events at' (resting (located_step M P l)) store events (Err NoStep)
  nothing_makes e = rw (halted o e) no_step

  -- new ones before all that there are
  pub before-all : Around l.cells store h 0 h.entries [] l.environment
  unfolding environment_of
  before-all =
      let k : 64 + 16 * h.heap ≡ behind_entries h 0 = omega arith in
      let c = slots-count store (64 + 16 * h.heap) h.entries in
      record {
        within = omega arith;
        first = refl;
        others = ap (each slot_bytes) (sym (viewed o).entries)
            ∙ (sym (slots-taken store (64 + 16 * h.heap) h.entries c (viewed o).entries_slots) ∙ ap (λ (i : ℕ). take (16 * h.entries) (drop i store)) k);
        count = sym (viewed o).entries_size;
      }

  -- new ones alone
  pub alone : Around l.cells store h 0 0 [] []
  unfolding environment_of
  alone = record { within = omega arith; first = refl; others = refl; count = refl }

  pub enters-makes : (e : Event) (t : Stmt) (new : Entries) {front back : Entries} {j n body at' : ℕ} {slots : List Slot} {shown events store' events' : List ℕ} {m : Result Step Stop}
      → Around l.cells store h j n front back → M.step P (project P l) ≡ shows e (at t (front ++ (new ++ back)) (map (cell_in P) l.cells)) → body ≡ next_place_lem P l (some e)
      → shown ≡ event_bytes e → environment_of l.cells new ≡ slots → Enters store events h at' body shown j n slots store' events' m
      → Makes store events at' (resting (located_step M P l)) store' events' m
  unfolding environment_of
  enters-makes e t new {front} {back} {j} {n} {body} {at'} {slots} {shown} {events} {store'} {events'} {m} a s p v w f =
      let E = entries_in store h in
      let B = environment_of l.cells back in
      let es = entry_slot (place_of l.cells) in
      let g : environment_of l.cells (front ++ (new ++ back)) ≡ take j E ++ (slots ++ B) =
      map-append es front (new ++ back) ∙ ap₂ {C = List Slot} (λ (x y : List Slot). x ++ y) a.first (map-append es new back ∙ ap (λ (x : List Slot). x ++ B) w) in
      let c : length (take j E) ≡ j = length-take-le j E (omega (arith, a.within, slots-count store (64 + 16 * h.heap) h.entries)) in
      let k : j + length slots + n ≡ length (take j E ++ (slots ++ B)) = omega (arith, c, a.count, length-append (take j E) (slots ++ B), length-append slots B) in
      let written = each slot_bytes slots ++ take (16 * n) (drop (behind_entries h j) store) in
      let q : each slot_bytes (take j E ++ (slots ++ B)) ≡ each slot_bytes (take j E) ++ written =
      each-++ slot_bytes (take j E) (slots ++ B)
      ∙ ap (λ (x : List ℕ). each slot_bytes (take j E) ++ x) (each-++ slot_bytes slots B ∙ ap (λ (x : List ℕ). each slot_bytes slots ++ x) a.others) in
      let F : List ℕ → Type 0 = λ (y : List ℕ). Finishes store events at' (entered h body (j + length slots + n)) y (behind_entries h j) written store' events' m in
      leads-makes o (lead_same o t (front ++ (new ++ back)) e s p k g) events at' j a.within refl q (subst F v f.finishes)
