-- The stopped flag of a state that was just written: whether the machine stops there.
use Rattle.std.specs.Prelude.{ℕ, ◌≡◌, Bool, true, false, List}
use Rattle.std.proofs.lemmas.List.Edits.{sets}
use Rattle.model.specs.Syntax.{Prog}
use Rattle.step_spec.specs.Located.{Machine, Located, project, is_stop}
use Rattle.step_spec.specs.Store.{header_of, raw_of, store_bytes}
use Rattle.step_header.specs.declared.Header.{Header}
use Rattle.step_header.specs.Headers.{tuple_of}
use Rattle.step_places.specs.declared.stepper.Stepper.{Stepper}
use Rattle.step_rule.specs.Rules.{ProgramOf, Reads}

-- the state with this flag
abbrev pub flagged : Bool → Located → Located
flagged b l = record { position = l.position; environment = l.environment; cells = l.cells; has_ended = l.has_ended; has_stopped = b }

-- a header with its stopped flag set
abbrev pub stopping : Header → Header
stopping h = record { position = h.position; ended = h.ended; stopped = true; cells = h.cells; heap = h.heap; entries = h.entries }

-- document 02, A.2: the stopped flag [is set] by the step or start after which the machine stops
pub record Settles (M : Machine) (stepper : Stepper) (bytes store : List ℕ) (h : Header) (store' : List ℕ) (h' : Header) : Type 0 where
  pub settles : (P : Prog) (l : Located) → ProgramOf P stepper bytes → Reads P store h l → l.has_stopped ≡ false
      → (store' ≡ sets store 0 (store_bytes (flagged (is_stop (M.step P (project P l))) l))) × (tuple_of h' ≡ header_of (raw_of (flagged (is_stop (M.step P (project P l))) l)))
