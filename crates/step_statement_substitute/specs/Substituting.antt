-- What is read of a Substitute, and the slots and the header that its step writes.
use Rattle.std.specs.Prelude.{ℕ, ◌+◌, ◌*◌, ◌≤◌, ◌≡◌, Bool, true, false, List, [], length, take, Result}
use Rattle.syntax.specs.declared.names.VarId.{VarId}
use Rattle.model.specs.Linear.{targets, sources}
use Rattle.image_spec.specs.Parse.{each}
use Rattle.image_spec.specs.Records.{Record}
use Rattle.step_slots.specs.Slots.{Slot, slot_bytes}
use Rattle.step_header.specs.declared.Header.{Header}
use Rattle.step_rows.specs.Rows.{ids_of}
use Rattle.step_rows.specs.RecordRows.{pairs_of}
use Rattle.step_write.specs.declared.Step.{Step}
use Rattle.step_write.specs.declared.Stop.{Stop}
use Rattle.step_write.specs.Writing.{Finishes}
use Rattle.step_gather.specs.Gathering.{all_found_lem, found_slots, renamed}
use Rattle.step_statement_substitute.specs.declared.substitute.Parts.{Parts}

-- the rows of its targets and of its sources, which are at most 128
pub record PartsOf (r : Record) (parts : Parts) : Type 0 where
  pub targets' : ids_of parts.targets ≡ targets (pairs_of r)
  pub sources' : ids_of parts.sources ≡ sources (pairs_of r)
  pub few : parts.targets.places.len ≤ 128

-- the header after it: so many entries, and the cells that were there
abbrev pub rebuilt : Header → (entries : ℕ) → Header
rebuilt h n = record { position = h.position + 1; ended = false; stopped = false; cells = h.cells; heap = h.heap; entries = n }

-- what is packed: the answer whether all sources are among the slots and, where they are, their values under the targets
pub record Packs (E : List Slot) (xs ys : List VarId) (out' : List ℕ) (r : Bool) : Type 0 where
  pub found : r ≡ all_found_lem E ys
  pub put : r ≡ true → take (16 * length xs) out' ≡ each slot_bytes (renamed xs (found_slots E ys))

-- these bytes behind the slots of the cells, with the header and no event
pub record Replaces (store events : List ℕ) (h : Header) (at n : ℕ) (bytes store' events' : List ℕ) (m : Result Step Stop) : Type 0 where
  pub finishes : Finishes store events at (rebuilt h n) [] (64 + 16 * h.heap) bytes store' events' m
