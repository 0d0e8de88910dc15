-- The stepper's steps and starts are exactly the machine's. Assumes nothing.
use Prim.Native.Nat.{ℕ, ◌≤◌}
use mathlib.Core.Path.{◌≡◌, refl, sym, subst}
use mathlib.Core.Bool.{Bool, true, false, false≢true}
use mathlib.Core.List.{List, [], ◌∷◌, map}
use mathlib.Core.Option.{Option, none, some}
use native.Mathlib.Omega.{arith}
use lib.ListN.{length, drop, length-append}
use Rattle.syntax.specs.Context.{ids}
use Rattle.syntax.specs.Sets.{distinct}
use Rattle.model.specs.Syntax.{Stmt, Def, Prog}
use Rattle.model.specs.Machine.{ended, Entries, keys, State, at, Event, Outcome, shows, silent, halts, stops, nth, pair_up, Given, value, Start, begun, no_start, stopped}
use Rattle.model.specs.Source.{source_begun, source_start_at, source_start}
use Rattle.model.specs.Linear.{stopped_if_twice, linear_begun, linear_start_at, linear_start}
use Rattle.image_spec.specs.Parse.{All}
use Rattle.image_spec.specs.Shape.{DefOk, max_depth}
use Rattle.image_places_spec.specs.Places.{StmtStands}
use Rattle.image_places_spec.proofs.PlaceLaws.{stmt_is}
use Rattle.step_spec.specs.Located.{Machine, source_machine, linear_machine, Located, Stepped, records_in, project, definition_place, is_stop, cells_of, keep}
use Rattle.step_spec.specs.Located.{moved, follow, unless_stopped, located_step, start_state, start_of, located_start}
use Rattle.step_spec.specs.Claims.{StandsFor, SameStep, both_show, both-silent, both_halt, both-stop, SameStart, both-begin, neither-begins, both_stopped}
use Rattle.step_spec.proofs.Standing.{Placed, stands_as, definition-stands}
use Rattle.step_spec.proofs.Landing.{Lands, Follows, follows-shows, follows-silent, follows-halts, follows-stops}
use Rattle.step_spec.proofs.SourceLands.{source-follows}
use Rattle.step_spec.proofs.LinearLands.{linear-follows}

-- ── the start of a machine ──

-- it begins at the definition's body with no cells, or is there stopped
pub data Opens (P : Prog) (n : ℕ) : Start → Type 0 where
  opens-begun : {t : Stmt} {ε : Entries} → StmtStands max_depth (records_in P) (definition_place n P.defs 0) t → Opens P n (begun (at t ε []))
  opens-nothing : Opens P n no_start
  opens_stopped : {t : Stmt} {ε : Entries} → StmtStands max_depth (records_in P) (definition_place n P.defs 0) t → Opens P n (stopped (at t ε []))

-- what is asked of a machine: the stepper follows its steps, and its starts are at definitions
pub record Followed (M : Machine) : Type 0 where
  pub steps : (P : Prog) → All DefOk P.defs → (l : Located) → Placed P l → Follows M P l (M.step P (project P l))
  pub starts : (P : Prog) → All DefOk P.defs → (n : ℕ) (vs : List Given) → Opens P n (M.start P n vs)

module _ (P : Prog) (shallow : All DefOk P.defs) (n : ℕ) (vs : List Given) where
  source-at : (o : Option Def) → nth n P.defs ≡ o → Opens P n (source_start_at o vs)
  source-at none e = opens-nothing
  source-at (some d) e = go (pair_up (ids d.context) (map value vs))
    where
      go : (o : Option Entries) → Opens P n (source_begun d.body o)
      go none = opens-nothing
      go (some ε) = opens-begun (definition-stands P shallow n d e)

  linear-at : (o : Option Def) → nth n P.defs ≡ o → Opens P n (linear_start_at o vs)
  linear-at none e = opens-nothing
  linear-at (some d) e = go (pair_up (ids d.context) (map value vs))
    where
      twice : (b : Bool) (ε : Entries) → Opens P n (stopped_if_twice b (at d.body ε []))
      twice true ε = opens-begun (definition-stands P shallow n d e)
      twice false ε = opens_stopped (definition-stands P shallow n d e)

      go : (o : Option Entries) → Opens P n (linear_begun d.body o)
      go none = opens-nothing
      go (some ε) = twice (distinct (keys ε)) ε

  source-opens : Opens P n (source_start P n vs)
  unfolding source_start
  source-opens = source-at (nth n P.defs) refl

  linear-opens : Opens P n (linear_start P n vs)
  unfolding linear_start
  linear-opens = linear-at (nth n P.defs) refl

pub source-followed : Followed source_machine
source-followed = record { steps = source-follows; starts = source-opens }

pub linear-followed : Followed linear_machine
linear-followed = record { steps = linear-follows; starts = linear-opens }

-- ── the theorem ──

not_stopped : (b : Bool) (o : Option Stepped) → b ≡ false → unless_stopped b o ≡ o
not_stopped true o e = absurd (false≢true (sym e))
not_stopped false o e = refl

has-stopped : (b : Bool) (o : Option Stepped) → b ≡ true → unless_stopped b o ≡ none
has-stopped true o e = refl
has-stopped false o e = absurd (false≢true e)

module _ (M : Machine) (F : Followed M) (P : Prog) (shallow : All DefOk P.defs) where
  stood : (l : Located) (e : Option Event) (s : State) → Lands M P l e s → StandsFor P (moved M P l e s) s (is_stop (M.step P s))
  unfolding moved
  stood l e s h = record { is = h.is; ended_is = refl; stopped_is = refl }

  -- the next state's places are those of statements again
  abbrev pub NextPlaced : Option Stepped → Type 0
  NextPlaced none = Unit {0}
  NextPlaced (some r) = Placed P r.1

  same : (l : Located) (o : Outcome) → Follows M P l o → SameStep M P (follow M P l o) o × NextPlaced (follow M P l o)
  same l (shows e s) (follows-shows h) = (both_show (stood l (some e) s h), h.placed)
  same l (silent s) (follows-silent h) = (both-silent (stood l none s h), h.placed)
  same l halts follows-halts = (both_halt, tt)
  same l stops follows-stops = (both-stop, tt)

  -- a state that has not stopped makes the machine's step
  pub same_step : (l : Located) → Placed P l → l.has_stopped ≡ false → SameStep M P (located_step M P l) (M.step P (project P l)) × NextPlaced (located_step M P l)
  unfolding located_step
  same_step l p e = rw (not_stopped l.has_stopped (follow M P l (M.step P (project P l))) e) (same l (M.step P (project P l)) (F.steps P shallow l p))

  -- one that has stopped makes none
  pub stopped-step : (l : Located) → l.has_stopped ≡ true → located_step M P l ≡ none
  unfolding located_step
  stopped-step l e = has-stopped l.has_stopped (follow M P l (M.step P (project P l))) e

  -- cells are added, none is taken away
  moved-grows : (l : Located) (e : Option Event) (s : State) → length l.cells ≤ length (moved M P l e s).cells
  unfolding moved
  moved-grows l e s = omega (arith, length-append l.cells (map (keep l.position) (drop (length l.cells) (cells_of s))))

  pub step-grows : (l : Located) (r : Stepped) → located_step M P l ≡ some r → length l.cells ≤ length r.1.cells
  unfolding located_step
  step-grows l r e = go l.has_stopped (M.step P (project P l)) e
    where
      at_most : (a b : Stepped) → some a ≡ some b → length l.cells ≤ length a.1.cells → length l.cells ≤ length b.1.cells
      at_most a b q h = let k : a ≡ b = cc in subst (λ (z : Stepped). length l.cells ≤ length z.1.cells) k h

      go : (b : Bool) (o : Outcome) → unless_stopped b (follow M P l o) ≡ some r → length l.cells ≤ length r.1.cells
      go true o f = let z : ◌≡◌ {A = ℕ} 0 1 = cc in absurd (omega arith)
      go false (shows x s) f = at_most (some x, moved M P l (some x) s) r f (moved-grows l (some x) s)
      go false (silent s) f = at_most (none, moved M P l none s) r f (moved-grows l none s)
      go false halts f = let z : ◌≡◌ {A = ℕ} 0 1 = cc in absurd (omega arith)
      go false stops f = let z : ◌≡◌ {A = ℕ} 0 1 = cc in absurd (omega arith)

  abbrev pub StartPlaced : Option Located → Type 0
  StartPlaced none = Unit {0}
  StartPlaced (some l) = Placed P l

  begin : (n : ℕ) (t : Stmt) (ε : Entries) (f : Bool) → StmtStands max_depth (records_in P) (definition_place n P.defs 0) t
      → StandsFor P (start_state P n f (at t ε [])) (at t ε []) f × Placed P (start_state P n f (at t ε []))
  unfolding project
  begin n t ε f s = (record { is = rw (stmt_is s) refl; ended_is = refl; stopped_is = refl }, record { here = stands_as P _ t s; cells = tt })

  starts : (n : ℕ) (s : Start) → Opens P n s → SameStart M P (start_of M P n s) s × StartPlaced (start_of M P n s)
  starts n (begun (at t ε (◌∷◌ _ _))) h = elim h [ ]
  starts n (begun (ended _ _ _)) h = elim h [ ]
  starts n (stopped (at t ε (◌∷◌ _ _))) h = elim h [ ]
  starts n (stopped (ended _ _ _)) h = elim h [ ]
  starts n (begun (at t ε [])) (opens-begun h) = let b = begin n t ε _ h in (both-begin b.0, b.1)
  starts n no_start opens-nothing = (neither-begins, tt)
  starts n (stopped (at t ε [])) (opens_stopped h) = let b = begin n t ε true h in (both_stopped b.0, b.1)

  pub same_start : (n : ℕ) (vs : List Given) → SameStart M P (located_start M P n vs) (M.start P n vs) × StartPlaced (located_start M P n vs)
  unfolding located_start
  same_start n vs = starts n (M.start P n vs) (F.starts P shallow n vs)
