-- Question 14 of a store: the header of the state that it begins with.
use Rattle.std.specs.Prelude.{ℕ, ◌≡◌, Bool, ◌&&◌, Option, Some, None, List, drop}
use Rattle.std.proofs.Math.Option.{Option as Optional, none, some}
use Rattle.model.specs.Syntax.{Prog}
use Rattle.image_spec.specs.Parse.{got}
use Rattle.image_directory.specs.declared.Frame.{Frame}
use Rattle.step_spec.specs.Located.{Located}
use Rattle.step_spec.specs.Store.{header_parser, every_slot, statement_at, entry_ok, state_from}
use Rattle.step_header.specs.declared.Header.{Header}
use Rattle.step_header.specs.Headers.{tuple_of, heap_in, entries_in}
use Rattle.step_scan.specs.Pass.{Of, pass, seen}

-- the record at the position, the cells and the environment, as code tests them
abbrev pub slots_formed : Prog → List ℕ → Header → Bool
slots_formed P s h = statement_at P h.position && (pass P (heap_in s h) h.cells 0 0 (heap_in s h) && every_slot (entry_ok P (heap_in s h)) (entries_in s h))

-- the state that the store is seen as, if it has a header
abbrev pub seen_in : List ℕ → Option Header → Optional Located
seen_in s None = none
seen_in s (Some h) = some (seen s h)

-- the store begins with a state of the image's program exactly if there is a header, which is then the one that it begins with
pub record Opens (frame : Frame) (bytes store : List ℕ) (r : Option Header) : Type 0 where
  pub state : (P : Prog) → Of P frame bytes → state_from P store ≡ seen_in store r
  pub header : (h : Header) → r ≡ Some h → header_parser store ≡ got (tuple_of h) (drop 64 store)
