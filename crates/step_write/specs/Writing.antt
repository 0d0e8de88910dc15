-- What is written for a step: its event and the state after it, where there is room for both.
use Rattle.std.specs.Prelude.{ℕ, ◌+◌, ◌-◌, ◌*◌, ◌^◌, ◌≤◌, ◌<◌, ◌≡◌, Bool, true, false, ◌&&◌, List, ◌++◌, leb, length, Result, Ok, Err}
use Rattle.std.proofs.lemmas.List.Edits.{sets}
use Rattle.image_kinds.specs.Codes.{code_of}
use Rattle.step_spec.specs.Store.{header_bytes}
use Rattle.step_spec.specs.Events.{event_head}
use Rattle.step_header.specs.declared.Header.{Header}
use Rattle.step_header.specs.Headers.{tuple_of}
use Rattle.step_write.specs.declared.EventHead.{EventHead}
use Rattle.step_write.specs.declared.Step.{Step}
use Rattle.step_write.specs.declared.Stop.{Stop}
use Rattle.step_write.specs.declared.Stop.TheVariants.{NoRoom}

abbrev pub head_bytes : EventHead → List ℕ
head_bytes e = event_head (code_of e.kind) e.detail e.name e.count e.payload

-- how many bytes the state with this header takes
abbrev pub size : Header → ℕ
size h = 64 + 16 * (h.heap + h.entries)

-- a cell of which `head` is the own slot and that holds these bytes, the variable `var`, and these bytes again
abbrev pub with_closure : (head var held : List ℕ) → List ℕ
with_closure head var held = head ++ (held ++ (var ++ held))

-- what is asked before a step is finished: a store that has a header, a place in the event buffer, and a header whose counts can be added.
-- (No field of `Work`: the header that is asked of is the one to be written, not the one that is there.)
pub record Ending (store events : List ℕ) (at : ℕ) (header : Header) : Type 0 where
  pub headed : 64 ≤ length store
  pub placed : at ≤ length events
  pub counted : header.heap + header.entries < 2 ^ 64

-- event and header are written
pub record Sealed (store events : List ℕ) (at : ℕ) (shown : List ℕ) (header : Header) (store' events' : List ℕ) (step : Step) : Type 0 where
  pub headed : store' ≡ sets store 0 (header_bytes (tuple_of header))
  pub shows : events' ≡ sets events at shown
  pub made : step ≡ record { header = header; at = at + length shown }

-- is there room in the store for the state with this header, and behind `at` for what is shown?
abbrev pub room_for : (store events : List ℕ) (at : ℕ) → Header → (shown : List ℕ) → Bool
room_for store events at h shown = leb (size h) (length store) && leb (length shown) (length events - at)

-- a step that shows these bytes and leads to a state with this header, whose bytes from `from` on are these: nothing is written where there is no
-- room for both
pub data Finishes (store events : List ℕ) (at : ℕ) (header : Header) (shown : List ℕ) (from : ℕ) (bytes : List ℕ) : (store' events' : List ℕ) → Result Step Stop → Type 0 where
  finished-full : room_for store events at header shown ≡ false → Finishes store events at header shown from bytes store events (Err NoRoom)
  finished : {store' events' : List ℕ} {step : Step} → room_for store events at header shown ≡ true → Sealed (sets store from bytes) events at shown header store' events' step
      → Finishes store events at header shown from bytes store' events' (Ok step)
