-- What a call on an image answers, case by case. Assumes nothing.
use Prim.Native.Nat.{ℕ, zero, suc}
use mathlib.Core.Path.{◌≡◌, refl, sym, ap, ◌∙◌}
use mathlib.Core.Bool.{Bool, true, false, not, ◌&&◌, false≢true}
use mathlib.Core.List.{List}
use mathlib.Core.Option.{Option, none, some}
use lib.ListN.{length}
use Rattle.model.specs.Syntax.{Prog}
use Rattle.model.specs.Machine.{Outcome, shows, silent, halts, stops}
use Rattle.step_spec.specs.Located.{Machine, Located, Stepped, project, is_stop, unless_stopped, follow, located_step}
use Rattle.step_spec.specs.Store.{state_from}
use Rattle.step_spec.specs.Calls.{Progress, stays, onward, making, space_number, made', step_from}
use Rattle.step_run.specs.declared.Ran.{Ran}
use Rattle.step_run.specs.Runs.{Did}
use Rattle.std.specs.Prelude.{Ok, Err}
use Rattle.step_answer_spec.specs.declared.Failure.TheVariants.{NoState}
use Rattle.step_answer_spec.specs.Saying.{result_of}
use Rattle.step_call.specs.Stepping.{said_if, said_of}

-- the result of an answer after steps
said_is : (b : Bool) (n k : ℕ) (store events : List ℕ) → result_of (said_if b n k) store events ≡ record { number = space_number b; steps = n; length = k; store = store; events = events }
said_is true n k store events = refl
said_is false n k store events = refl

-- a state whose flag is clear where the machine stops makes no step
pub forged_step : (M : Machine) (P : Prog) (l : Located) → (not l.has_stopped && is_stop (M.step P (project P l))) ≡ true → located_step M P l ≡ none
unfolding located_step
forged_step M P l e = go l.has_stopped (M.step P (project P l)) e
  where
    go : (b : Bool) (o : Outcome) → (not b && is_stop o) ≡ true → unless_stopped b (follow M P l o) ≡ none
    go true o e = refl
    go false (shows v s) e = absurd (false≢true e)
    go false (silent s) e = absurd (false≢true e)
    go false halts e = refl
    go false stops e = refl

-- one that is not forged is settled
pub settled_flag : (b s : Bool) → (not b && s) ≡ false → b ≡ false → s ≡ false
settled_flag true s e f = absurd (false≢true (sym f))
settled_flag false s e f = e

module _ (M : Machine) (P : Prog) (n : ℕ) (store events : List ℕ) where
  -- 14
  pub from_none : state_from P store ≡ none → result_of (Err NoState) store events ≡ step_from M P n (state_from P store) store events
  from_none e = sym (ap (λ (o : Option Located). step_from M P n o store events) e)

  stays-there : (k : ℕ) (l : Located) → located_step M P l ≡ none → making M P k l store (length events) ≡ stays false l store
  unfolding making
  stays-there zero l e = refl
  stays-there (suc k) l e = ap (λ (o : Option Stepped). onward o l store (length events) (making M P k)) e

  module _ (l : Located) (read : state_from P store ≡ some l) where
    -- there is no step
    pub from-resting : located_step M P l ≡ none → result_of (Ok (record { steps = 0; length = 0 })) store events ≡ step_from M P n (state_from P store) store events
    from-resting e = sym (ap (λ (o : Option Located). step_from M P n o store events) read ∙ ap (λ (p : Progress). made' p events) (stays-there n l e))

    -- steps were made
    pub from-ran : {store' events' : List ℕ} {r : Ran} → Did (making M P n l store (length events)) events store' events' r → result_of (said_of r) store' events' ≡ step_from M P n (state_from P store) store events
    from-ran {store'} {events'} {r} d =
        said_is r.full r.steps r.length store' events'
        ∙ ((λ i. record { number = space_number (d.full i); steps = d.steps i; length = d.length' i; store = d.store i; events = d.shows i })
        ∙ sym (ap (λ (o : Option Located). step_from M P n o store events) read))
