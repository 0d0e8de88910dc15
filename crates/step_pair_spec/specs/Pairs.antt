-- The source stepper on an accepted image, and the linear one on what linearization wrote for it: they show the same events. Said of the exported
-- functions' calls: `linearize_call`, `start_call` and `step_call_lem` are what their contracts equate them with.
use Rattle.std.specs.Prelude.{ℕ, ◌+◌, ◌*◌, ◌^◌, ◌≤◌, ◌<◌, ◌≡◌, List, length, take}
use Rattle.image_spec.specs.Parse.{each}
use Rattle.image_spec.specs.Layout.{layout1}
use Rattle.scope_spec.specs.Calls.{Told}
use Rattle.pass_answer_spec.specs.Calls.{linearize_call}
use Rattle.step_spec.specs.Calls.{Stepper, source_stepper, linear_stepper, Result, start_call, step_call_lem}
use Rattle.step_spec.specs.Claims.{Request, calls, steps_of, shown_in, store_left}

-- one call more, after calls that made fewer than m steps: it has no room; or it makes all that it is asked for; or m steps are made with it
pub data GoesOn (m before : ℕ) (q : Request) (r : Result) : Type 0 where
  no_room : r.number ≡ 15 → GoesOn m before q r
  all_made : r.number ≡ 0 → r.steps ≡ q.steps → GoesOn m before q r
  all_there : r.number ≡ 0 → m ≤ before + r.steps → GoesOn m before q r

-- from this store, after every list of calls that made m steps, these bytes have been shown; and with room enough calls make m steps
pub record Shows (S : Stepper) (image store : List ℕ) (m : ℕ) (shown : List ℕ) : Type 0 where
  pub same : (qs : List Request) → steps_of (calls S image store qs) ≡ m → each shown_in (calls S image store qs) ≡ shown
  pub comes : (qs : List Request) → steps_of (calls S image store qs) < m → (q : Request)
      → GoesOn m (steps_of (calls S image store qs)) q (step_call_lem S image q.steps (store_left store (calls S image store qs)) q.events)

-- document 01, demand 3, of the bytes of events: what the source's calls have shown after n steps, the linear one's show after m, where a
-- Substitute may stand before each step; and the other way round
pub record SameEvents (image linear store store' : List ℕ) : Type 0 where
  pub follows : (qs : List Request) (n : ℕ) → n ≡ steps_of (calls (source_stepper layout1) image store qs)
      → (m : ℕ) × ((n ≤ m) × ((m ≤ 2 * n) × Shows (linear_stepper layout1) linear store' m (each shown_in (calls (source_stepper layout1) image store qs))))
  pub leads : (qs : List Request) (m : ℕ) → m ≡ steps_of (calls (linear_stepper layout1) linear store' qs)
      → (n : ℕ) × ((n ≤ m) × ((m ≤ 2 * n + 1) × Shows (source_stepper layout1) image store n (each shown_in (calls (linear_stepper layout1) linear store' qs))))

-- after `axcut_linearize` answered 0: of every start that `axcut_source_start` on the image and `axcut_linear_start` on the output answer with 0
abbrev pub Demand3OnSteppers : Type 0
Demand3OnSteppers =
    (image before after : List ℕ) (size m : ℕ) → Told (linearize_call image before) 0 size m before after
    → (place : ℕ) (values store store' : List ℕ) → length store < 2 ^ 64 → length store' < 2 ^ 64
    → (start_call (source_stepper layout1) image place values store).number ≡ 0
    → (start_call (linear_stepper layout1) (take size after) place values store').number ≡ 0
    → SameEvents image (take size after) (start_call (source_stepper layout1) image place values store).store (start_call (linear_stepper layout1) (take size after) place values store').store

-- .. and a start that `axcut_source_start` answers with 0, `axcut_linear_start` on the output answers so too, in a store that is no shorter
abbrev pub LinearStarts : Type 0
LinearStarts =
    (image before after : List ℕ) (size m : ℕ) → Told (linearize_call image before) 0 size m before after
    → (place : ℕ) (values store store' : List ℕ) → length store ≤ length store'
    → (start_call (source_stepper layout1) image place values store).number ≡ 0
    → (start_call (linear_stepper layout1) (take size after) place values store').number ≡ 0
