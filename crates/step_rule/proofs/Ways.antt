-- The ways a step can lead: to another statement with the cells that were there, with one cell more, or to the end. Assumes nothing.
use Prim.Native.Nat.{ℕ, suc, ◌+◌}
use mathlib.Core.Path.{◌≡◌, refl, sym, ap, ◌∙◌}
use mathlib.Core.Bool.{Bool, true, false}
use mathlib.Core.List.{List, [], ◌∷◌, ◌++◌, map, append-nil}
use mathlib.Core.Option.{Option, none, some}
use native.Mathlib.Omega.{arith}
use lib.ListN.{length, length-append}
use Rattle.model.specs.Syntax.{Stmt, Prog}
use Rattle.model.specs.Machine.{Value, Entries, Cell, Cells, State, at, ended, Event, Outcome, shows, silent, halts}
use Rattle.image_spec.specs.Parse.{each, All}
use Rattle.step_slots.specs.Slots.{Slot, slot, value_slot}
use Rattle.step_spec.specs.Located.{Machine, Kept, Located, Stepped, stmt_in, cell_in, state_of, project, next_place_lem, keep, moved, unless_stopped, follow, located_step}
use Rattle.step_spec.specs.Store.{place_of, entry_slot, blocks_of, block_slots, heap_of, environment_of, held_in, ValueFits, EntryFits}
use Rattle.step_spec.specs.Events.{event_bytes}
use Rattle.step_spec.proofs.Direct.{moved_same, moved_made, moved-ended}
use Rattle.step_spec.proofs.Growing.{place-new, value_stays, map_same, heap-grows}
use Rattle.step_spec.proofs.Stored.{heap-length}
use Rattle.step_header.specs.declared.Header.{Header}
use Rattle.step_rule.specs.Rules.{Stored, resting}
use Rattle.step_rule.proofs.Views.{viewed}
use Rattle.step_rule.proofs.Leads.{headed, heads_as, Leads}

-- ── slots when cells are added ──

-- entries keep theirs
pub entries_stay : (K new : List Kept) (ε : Entries) → All (EntryFits (length K)) ε → environment_of (K ++ new) ε ≡ environment_of K ε
unfolding environment_of
entries_stay K new ε h = map_same K new (EntryFits (length K)) (entry_slot (place_of (K ++ new))) (entry_slot (place_of K)) ε (λ e f. value_stays K new e.0.0 e.1 f.1) h

-- .. and so do values
pub fields_stay : (K new : List Kept) (vs : List Value) → All (ValueFits (length K)) vs → map (value_slot (place_of (K ++ new)) 0) vs ≡ map (value_slot (place_of K) 0) vs
fields_stay K new vs h = map_same K new (ValueFits (length K)) (value_slot (place_of (K ++ new)) 0) (value_slot (place_of K) 0) vs (value_stays K new 0) h

-- the next cell's slot is right behind those of the cells
pub place-behind : (K new : List Kept) → place_of (K ++ new) (length K) ≡ length (heap_of K)
unfolding heap_of
place-behind K new = place-new K new ∙ sym (heap-length (place_of K) 0 K)

-- ── the machine's step from a store's state ──

module _ {M : Machine} {P : Prog} {store : List ℕ} {h : Header} {l : Located} (o : Stored M P store h l) where
  abbrev K : Cells
  K = map (cell_in P) l.cells

  -- what the machine does at the statement
  pub outcome : (t : Stmt) → stmt_in P l.position ≡ t → M.step P (project P l) ≡ M.step P (at t l.environment K)
  unfolding project
  outcome t e = ap (λ (b : Bool). M.step P (state_of b (stmt_in P l.position) l.environment K)) o.goes_on ∙ ap (λ (s : Stmt). M.step P (at s l.environment K)) e

  steps_as : (r : Outcome) → M.step P (project P l) ≡ r → located_step M P l ≡ follow M P l r
  unfolding located_step
  steps_as r e = ap (λ (b : Bool). unless_stopped b (follow M P l (M.step P (project P l)))) o.going ∙ ap (follow M P l) e

  -- none
  pub halted : M.step P (project P l) ≡ halts → resting (located_step M P l) ≡ none
  halted e = ap resting (steps_as halts e)

  module _ (t : Stmt) (ε : Entries) {p n : ℕ} {environment : List Slot} where
    -- to a statement, with the cells that were there
    pub lead_same : (e : Event) → M.step P (project P l) ≡ shows e (at t ε K) → p ≡ next_place_lem P l (some e) → n ≡ length environment → environment_of l.cells ε ≡ environment
        → Leads M P l store h (event_bytes e) (headed p false h.cells h.heap n) [] environment
    lead_same e s q k v = record {
      event = some e;
      next = record { position = next_place_lem P l (some e); environment = ε; cells = l.cells; has_ended = false; has_stopped = false };
      step = ap resting (steps_as (shows e (at t ε K)) s ∙ ap (λ (x : Located). some (some e, x)) (moved_same M P l (some e) t ε));
      shows = refl;
      heads = heads_as _ q refl refl (viewed o).cells (viewed o).heap_size (k ∙ ap length (sym v));
      heap = sym (append-nil _ ∙ (viewed o).heap);
      entries = v;
    }

    -- .. of a Substitute
    pub lead_silent : M.step P (project P l) ≡ silent (at t ε K) → p ≡ next_place_lem P l none → n ≡ length environment → environment_of l.cells ε ≡ environment
        → Leads M P l store h [] (headed p false h.cells h.heap n) [] environment
    lead_silent s q k v = record {
      event = none;
      next = record { position = next_place_lem P l none; environment = ε; cells = l.cells; has_ended = false; has_stopped = false };
      step = ap resting (steps_as (silent (at t ε K)) s ∙ ap (λ (x : Located). some (none, x)) (moved_same M P l none t ε));
      shows = refl;
      heads = heads_as _ q refl refl (viewed o).cells (viewed o).heap_size (k ∙ ap length (sym v));
      heap = sym (append-nil _ ∙ (viewed o).heap);
      entries = v;
    }

    -- to a statement, with a cell more
    pub lead_made : (e : Event) (c : Cell) {m : ℕ} {new : List Slot} → M.step P (project P l) ≡ shows e (at t ε (K ++ (c ∷ []))) → p ≡ next_place_lem P l (some e) → n ≡ length environment
        → environment_of (l.cells ++ (keep l.position c ∷ [])) ε ≡ environment
        → each block_slots (blocks_of (place_of (l.cells ++ (keep l.position c ∷ []))) (length l.cells) (keep l.position c ∷ [])) ≡ new → m ≡ length new
        → Leads M P l store h (event_bytes e) (headed p false (h.cells + 1) (h.heap + m) n) new environment
    lead_made e c {m} {new} s q k v b w =
        let made = keep l.position c ∷ [] in
        let g : heap_of (l.cells ++ made) ≡ heap_of l.cells ++ new = heap-grows P l.cells made (viewed o).fits.cells ∙ ap (λ (z : List Slot). heap_of l.cells ++ z) b in
        record {
          event = some e;
          next = record { position = next_place_lem P l (some e); environment = ε; cells = l.cells ++ made; has_ended = false; has_stopped = false };
          step = ap resting (steps_as (shows e (at t ε (K ++ (c ∷ [])))) s ∙ ap (λ (x : Located). some (some e, x)) (moved_made M P l (some e) t ε c));
          shows = refl;
          heads = heads_as _ q refl refl (omega (arith, (viewed o).cells, length-append l.cells made)) (omega (arith, (viewed o).heap_size, w, ap length g, length-append (heap_of l.cells) new))
              (k ∙ ap length (sym v));
          heap = g ∙ ap (λ (z : List Slot). z ++ new) (sym (viewed o).heap);
          entries = v;
        }

  -- to the end: nothing else changes
  pub lead_ended : (t : Stmt) (e : Event) {p : ℕ} {environment : List Slot} → M.step P (project P l) ≡ shows e (ended t l.environment K) → p ≡ next_place_lem P l (some e)
      → environment_of l.cells l.environment ≡ environment → Leads M P l store h (event_bytes e) (headed p true h.cells h.heap h.entries) [] environment
  lead_ended t e s q v = record {
    event = some e;
    next = record { position = next_place_lem P l (some e); environment = l.environment; cells = l.cells; has_ended = true; has_stopped = false };
    step = ap resting (steps_as (shows e (ended t l.environment K)) s ∙ ap (λ (x : Located). some (some e, x)) (moved-ended M P l (some e) t l.environment));
    shows = refl;
    heads = heads_as _ q refl refl (viewed o).cells (viewed o).heap_size (viewed o).entries_size;
    heap = sym (append-nil _ ∙ (viewed o).heap);
    entries = v;
  }
