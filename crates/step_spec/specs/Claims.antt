-- What A.2 says of the steppers, as claims. (proofs/Projects.antt and proofs/Stepping.antt prove them.)
use Rattle.std.specs.Prelude.{ℕ, zero, suc, ◌+◌, ◌-◌, ◌^◌, ◌<◌, ◌≡◌, Bool, true, false, List, [], ◌∷◌, length, take}
use Rattle.std.proofs.Math.Option.{Option, none, some}
use Rattle.model.specs.Syntax.{Def, Prog}
use Rattle.model.specs.Machine.{State, Event, Outcome, shows, silent, halts, stops, nth, run, Given, Start, begun, no_start, stopped}
use Rattle.image_spec.specs.Parse.{each, All}
use Rattle.image_spec.specs.Reading.{accept}
use Rattle.step_spec.specs.Located.{Machine, Located, Stepped, project, is_ended_lem, is_stop, located_step}
use Rattle.step_spec.specs.Store.{state_from}
use Rattle.step_spec.specs.Events.{event_bytes, args_of, EventFits, givens}
use Rattle.step_spec.specs.Calls.{Stepper, Result, has_room_lem, start_call, step_call_lem}

-- ── one step ──

-- the stepper's state stands for the machine's, with the flags as A.2 says
pub record StandsFor (P : Prog) (l : Located) (s : State) (stopsThere : Bool) : Type 0 where
  pub is : project P l ≡ s
  pub ended_is : l.has_ended ≡ is_ended_lem s
  pub stopped_is : l.has_stopped ≡ stopsThere

-- the stepper's step and the machine's: the same event, states that stand for one another, or no next step in both
pub data SameStep (M : Machine) (P : Prog) : Option Stepped → Outcome → Type 0 where
  both_show : {e : Event} {l : Located} {s : State} → StandsFor P l s (is_stop (M.step P s)) → SameStep M P (some (some e, l)) (shows e s)
  both-silent : {l : Located} {s : State} → StandsFor P l s (is_stop (M.step P s)) → SameStep M P (some (none, l)) (silent s)
  both_halt : SameStep M P none halts
  both-stop : SameStep M P none stops

-- the stepper's start and the machine's
pub data SameStart (M : Machine) (P : Prog) : Option Located → Start → Type 0 where
  both-begin : {l : Located} {s : State} → StandsFor P l s (is_stop (M.step P s)) → SameStart M P (some l) (begun s)
  neither-begins : SameStart M P none no_start
  both_stopped : {l : Located} {s : State} → StandsFor P l s true → SameStart M P (some l) (stopped s)

-- ── whole runs ──

-- the machine's events and state after exactly n steps from a start; document 01: a start whose parameters repeat an ID has stopped with no step made
abbrev pub run_from : (State → Outcome) → Start → ℕ → Option (List Event × State)
run_from step (begun s) n = run step n s
run_from step no_start n = none
run_from step (stopped s) zero = some ([], s)
run_from step (stopped s) (suc n) = none

-- does the machine stop at the state s that a run from this start has come to?
abbrev pub stops_at : (State → Outcome) → Start → State → Bool
stops_at step (begun s₀) s = is_stop (step s)
stops_at step no_start s = false
stops_at step (stopped s₀) s = true

-- ── lists of calls ──

-- a call's number of steps, and the event buffer that is lent to it
pub record Request : Type 0 where
  pub steps : ℕ
  pub events : List ℕ

-- document 02, A.2: every list of one stepper's calls on one image .. with nothing else writing to the store
unfoldable pub calls : Stepper → (image store : List ℕ) → List Request → List Result
calls S image store [] = []
calls S image store (q ∷ qs) = step_call_lem S image q.steps store q.events ∷ calls S image (step_call_lem S image q.steps store q.events).store qs

-- .. the sum of the steps reported
unfoldable pub steps_of : List Result → ℕ
steps_of [] = 0
steps_of (r ∷ rs) = r.steps + steps_of rs

-- .. all events
abbrev pub shown_in : Result → List ℕ
shown_in r = take r.length r.events

-- .. the state left
unfoldable pub store_left : (store : List ℕ) → List Result → List ℕ
store_left store [] = store
store_left store (r ∷ rs) = store_left r.store rs

-- .. are that machine's after the sum of the steps reported. (The bytes tell the events: proofs/EventLaws.antt, `events-read`. The number of
-- argument values shown has four bytes.)
pub record After (M : Machine) (P : Prog) (start : Start) (n : ℕ) (bytes store : List ℕ) : Type 0 where
  pub events : List Event
  pub state : State
  pub ran : run_from (M.step P) start n ≡ some (events, state)
  pub shown : bytes ≡ each event_bytes events
  pub readable : All (λ (e : Event). length (args_of e) < 256 ^ 4 → EventFits e) events
  pub located : Located
  pub stored : state_from P store ≡ some located
  pub stands_for : StandsFor P located state (stops_at (M.step P) start state)

-- a call for n steps, of which r is the result: it made them all; or the run has no next step; or it said 15, and the next step needs more bytes
-- than the store or the event buffer has left
pub data Fair (M : Machine) (P : Prog) (start : Start) (before asked : ℕ) (left : ℕ) (r : Result) : Type 0 where
  all_made : r.number ≡ 0 → r.steps ≡ asked → Fair M P start before asked left r
  no-next : r.number ≡ 0 → r.steps < asked → run_from (M.step P) start (suc (before + r.steps)) ≡ none → Fair M P start before asked left r
  no_room : r.number ≡ 15 → r.steps < asked → (l : Located) (next : Stepped) → state_from P r.store ≡ some l → located_step M P l ≡ some next
      → has_room_lem next r.store (left - r.length) ≡ false → Fair M P start before asked left r

-- the start that an accepted start call began: its definition, and its values
pub record Begun (S : Stepper) (P : Prog) (place : ℕ) (values : List ℕ) : Type 0 where
  pub definition : Def
  pub found : nth place P.defs ≡ some definition
  pub given : List Given
  pub read : givens (length definition.context) values ≡ some given

-- document 02, A.2: for every list of one stepper's calls on one image from a start, with nothing else writing to the store, all events and the
-- state left are that machine's after the sum of the steps reported; and one call more says fewer steps only if the run has no next step, or 15.
-- (A slice of Rattle's has fewer than 2 ^ 64 bytes.)
abbrev pub Stepping : Stepper → Type 0
Stepping S = (image : List ℕ) (P : Prog) → S.asks image ≡ accept P
    → (place : ℕ) (values store : List ℕ) → length store < 2 ^ 64 → (start_call S image place values store).number ≡ 0
    → (b : Begun S P place values)
    × ((qs : List Request)
    → (rs : List Result) → rs ≡ calls S image (start_call S image place values store).store qs
    → After S.machine P (S.machine.start P place b.given) (steps_of rs) (each shown_in rs) (store_left (start_call S image place values store).store rs)
    × ((q : Request) → Fair S.machine P (S.machine.start P place b.given) (steps_of rs) q.steps (length q.events)
    (step_call_lem S image q.steps (store_left (start_call S image place values store).store rs) q.events)))
