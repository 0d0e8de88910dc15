-- What a stepper's calls do, for every input: number, steps and event bytes made, and every byte of the two lent buffers.
use Rattle.std.specs.Prelude.{ℕ, zero, suc, ◌-◌, Bool, true, false, ◌&&◌, cond, List, [], ◌++◌, leb, length}
use Rattle.std.proofs.Math.Option.{Option, none, some}
use Rattle.std.proofs.lemmas.List.Edits.{sets}
use Rattle.model.specs.Syntax.{Def, Prog}
use Rattle.model.specs.Machine.{nth, Given}
use Rattle.image_spec.specs.Answers.{number_of}
use Rattle.image_spec.specs.declared.Layout.{Layout}
use Rattle.image_spec.specs.Reading.{Reading, refuse, accept, reading}
use Rattle.scope_spec.specs.Calls.{check_of}
use Rattle.step_spec.specs.Located.{Machine, source_machine, linear_machine, Located, Stepped, located_step, located_start}
use Rattle.step_spec.specs.Store.{store_bytes, state_from}
use Rattle.step_spec.specs.Events.{shown_bytes, givens}

-- document 02, A.2: the source stepper asks 1 to 10 first, the linear one 1 to 5
pub record Stepper : Type 0 where
  pub machine : Machine
  pub asks : List ℕ → Reading

abbrev pub source_stepper : Layout → Stepper
source_stepper L = record { machine = source_machine; asks = check_of L }

abbrev pub linear_stepper : Layout → Stepper
linear_stepper L = record { machine = linear_machine; asks = reading L }

-- what a call answers and leaves
pub record Result : Type 0 where
  pub number : ℕ
  pub steps : ℕ
  pub length : ℕ
  pub store : List ℕ
  pub events : List ℕ

-- a call that makes no step and changes neither buffer
abbrev pub unchanged : (number : ℕ) (store events : List ℕ) → Result
unchanged n store events = record { number = n; steps = 0; length = 0; store = store; events = events }

-- ── a start ──

-- document 02, A.2: last is 15 .. when the start .. needs more bytes than the store .. has; that step changes neither
abbrev pub starts_with : Option Located → (store : List ℕ) → Result
starts_with none store = unchanged 14 store []
starts_with (some l) store = cond (leb (length (store_bytes l)) (length store)) (unchanged 0 (sets store 0 (store_bytes l)) []) (unchanged 15 store [])

-- document 02, A.2: then comes 14 for a start whose definition is missing or whose values don't match its parameters in count or hold anything but
-- integers and outside numbers up to 255
abbrev pub start_with : Machine → Prog → ℕ → Option (List Given) → (store : List ℕ) → Result
start_with M P n none store = unchanged 14 store []
start_with M P n (some vs) store = starts_with (located_start M P n vs) store

abbrev pub start_at : Machine → Prog → ℕ → Option Def → (values store : List ℕ) → Result
start_at M P n none values store = unchanged 14 store []
start_at M P n (some d) values store = start_with M P n (givens (length d.context) values) store

abbrev pub starting : Machine → Reading → ℕ → (values store : List ℕ) → Result
starting M (refuse q) n values store = unchanged (number_of q) store []
starting M (accept P) n values store = start_at M P n (nth n P.defs) values store

-- a start at the definition with this place, with these values, in this store
unfoldable pub start_call : Stepper → (image : List ℕ) (place : ℕ) (values store : List ℕ) → Result
start_call S image n values store = starting S.machine (S.asks image) n values store

-- ── steps ──

-- so far in a call
pub record Progress : Type 0 where
  pub steps : ℕ
  pub shown : List ℕ
  pub state : Located
  pub store : List ℕ
  pub full : Bool

abbrev pub stays : (full : Bool) → Located → (store : List ℕ) → Progress
stays f l store = record { steps = 0; shown = []; state = l; store = store; full = f }

abbrev pub one_more_lem : (shown : List ℕ) → Progress → Progress
one_more_lem b p = record { steps = suc p.steps; shown = b ++ p.shown; state = p.state; store = p.store; full = p.full }

-- has the store room for the state after the step, and what is left of the event buffer for the event?
abbrev pub has_room_lem : Stepped → (store : List ℕ) (left : ℕ) → Bool
has_room_lem r store left = leb (length (store_bytes r.1)) (length store) && leb (length (shown_bytes r.0)) left

abbrev pub if_room : Bool → Progress → Progress → Progress
if_room true yes' no' = yes'
if_room false yes' no' = no'

-- the step, if there is one; and on from there
abbrev pub onward : Option Stepped → Located → (store : List ℕ) (left : ℕ) → (Located → List ℕ → ℕ → Progress) → Progress
onward none l store left k = stays false l store
onward (some r) l store left k =
    if_room (has_room_lem r store left) (one_more_lem (shown_bytes r.0) (k r.1 (sets store 0 (store_bytes r.1)) (left - length (shown_bytes r.0)))) (stays true l store)

-- document 02, A.2: a call makes at most the given number of steps .. fewer only if the run has no next step or could not go on for space.
-- Each step writes the state over the store from its beginning; bytes behind it stay
unfoldable pub making : Machine → Prog → ℕ → Located → (store : List ℕ) (left : ℕ) → Progress
making M P zero l store left = stays false l store
making M P (suc n) l store left = onward (located_step M P l) l store left (making M P n)

abbrev pub space_number : Bool → ℕ
space_number false = 0
space_number true = 15

-- .. writes the events into a second buffer from its beginning, and says how many steps and event bytes it made
abbrev pub made' : Progress → (events : List ℕ) → Result
made' p events = record { number = space_number p.full; steps = p.steps; length = length p.shown; store = p.store; events = sets events 0 p.shown }

abbrev pub step_from : Machine → Prog → ℕ → Option Located → (store events : List ℕ) → Result
step_from M P n none store events = unchanged 14 store events
step_from M P n (some l) store events = made' (making M P n l store (length events)) events

abbrev pub stepping : Machine → Reading → ℕ → (store events : List ℕ) → Result
stepping M (refuse q) n store events = unchanged (number_of q) store events
stepping M (accept P) n store events = step_from M P n (state_from P store) store events

-- a call for n steps, with this store and this event buffer
unfoldable pub step_call_lem : Stepper → (image : List ℕ) (n : ℕ) (store events : List ℕ) → Result
step_call_lem S image n store events = stepping S.machine (S.asks image) n store events
