-- A step that leaves cells and environment as they are: it writes the header and its event.
use Rattle.std.specs.Prelude.{ℕ, Bool, false, List, [], Result}
use Rattle.step_header.specs.declared.Header.{Header}
use Rattle.step_write.specs.declared.Step.{Step}
use Rattle.step_write.specs.declared.Stop.{Stop}
use Rattle.step_write.specs.Writing.{size, Finishes}

-- the header after it
abbrev pub stayed : Header → (position : ℕ) (ended : Bool) → Header
stayed h p e = record { position = p; ended = e; stopped = false; cells = h.cells; heap = h.heap; entries = h.entries }

-- no slot is written
pub record Stays (store events : List ℕ) (h : Header) (at position : ℕ) (ended : Bool) (shown store' events' : List ℕ) (m : Result Step Stop) : Type 0 where
  pub finishes : Finishes store events at (stayed h position ended) shown (size h) [] store' events' m
