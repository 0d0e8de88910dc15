-- Steps one after another: what a call's steps must have done.
use Rattle.std.specs.Prelude.{ℕ, ◌≡◌, List, length}
use Rattle.std.proofs.lemmas.List.Edits.{sets}
use Rattle.model.specs.Syntax.{Prog}
use Rattle.step_spec.specs.Located.{Machine, Located}
use Rattle.step_spec.specs.Calls.{Progress, making}
use Rattle.step_header.specs.declared.Header.{Header}
use Rattle.step_places.specs.declared.stepper.Stepper.{Stepper}
use Rattle.step_turn.specs.Turning.{Living}
use Rattle.step_run.specs.declared.Ran.{Ran}

-- this progress, with its events in the buffer
pub record Did (p : Progress) (events store' events' : List ℕ) (r : Ran) : Type 0 where
  pub steps : r.steps ≡ p.steps
  pub length' : r.length ≡ length p.shown
  pub full : r.full ≡ p.full
  pub store : store' ≡ p.store
  pub shows : events' ≡ sets events 0 p.shown

-- document 02, A.2: a call makes at most the given number of steps: those of the machine
pub record Runs (M : Machine) (stepper : Stepper) (bytes : List ℕ) (n : ℕ) (store events : List ℕ) (h : Header) (store' events' : List ℕ) (r : Ran) : Type 0 where
  pub runs : (P : Prog) (l : Located) → Living M P stepper bytes store h l → Did (making M P n l store (length events)) events store' events' r
