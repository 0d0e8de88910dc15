-- What is known of what a step is made in, before it is made. (A step writes what this is about, so it is no field of it.)
use Rattle.std.specs.Prelude.{ℕ, ◌≡◌, ◌≤◌, List, length, Result}
use Rattle.step_header.specs.declared.Header.{Header}
use Rattle.step_header.specs.Headers.{Holds}
use Rattle.step_write.specs.declared.Step.{Step}
use Rattle.step_write.specs.declared.Stop.{Stop}
use Rattle.step_write.specs.declared.Work.{Work}
use Rattle.step_write.specs.Writing.{Ending, Finishes}

-- the store has what its header says, and the place is one of the event buffer. (No field of `Work`: between two writes it does not hold, decision 101.)
pub record Fit (w : Work) : Type 0 where
  pub holds : Holds w.store.now w.header
  pub place : w.at ≤ length w.events.now

-- the two buffers are the same ones after it, whatever was written to them
abbrev pub SameBuffers : Work → Work → Type 0
SameBuffers w w' = (w'.store.ghost_name ≡ w.store.ghost_name) × (w'.events.ghost_name ≡ w.events.ghost_name)

-- .. and the header and the place that were lent in it stay, whether there was a step or not
abbrev pub Keeps : Work → Work → Type 0
Keeps w w' = SameBuffers w w' × ((w'.header ≡ w.header) × (w'.at ≡ w.at))

-- what is asked before a step to this header is finished in it
abbrev pub EndingIn : Work → Header → Type 0
EndingIn w header = Ending w.store.now w.events.now w.at header

-- a step that was finished in it: its buffers are written as `Finishes` says, and are the same ones
abbrev pub FinishesIn : (old new : Work) → Header → (shown : List ℕ) → (from : ℕ) → (bytes : List ℕ) → Result Step Stop → Type 0
FinishesIn w w' header shown from bytes m = Finishes w.store.now w.events.now w.at header shown from bytes w'.store.now w'.events.now m × Keeps w w'
