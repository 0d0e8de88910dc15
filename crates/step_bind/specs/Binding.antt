-- An integer under a new variable, in front of the source machine's environment or behind the linear machine's list.
use Rattle.std.specs.Prelude.{ℕ, ◌+◌, ◌-◌, ◌*◌, false, List, ◌++◌, take, drop, Result}
use Rattle.step_slots.specs.Slots.{slot, slot_bytes}
use Rattle.step_spec.specs.declared.MachineKind.{MachineKind}
use Rattle.step_spec.specs.declared.MachineKind.TheVariants.{Source, Linear}
use Rattle.step_spec.specs.Events.{event_head}
use Rattle.step_header.specs.declared.Header.{Header}
use Rattle.step_write.specs.declared.Step.{Step}
use Rattle.step_write.specs.declared.Stop.{Stop}
use Rattle.step_write.specs.Writing.{Finishes}

-- the header after it
abbrev pub bound : Header → Header
bound h = record { position = h.position + 1; ended = false; stopped = false; cells = h.cells; heap = h.heap; entries = h.entries + 1 }

-- how many entries come behind it, and where it is put
abbrev pub moving_lem : MachineKind → (entries : ℕ) → ℕ
moving_lem Source n = n
moving_lem Linear n = 0

abbrev pub behind : MachineKind → Header → ℕ
behind machine h = moving_lem machine h.entries

abbrev pub place_for : MachineKind → Header → ℕ
place_for machine h = 64 + 16 * (h.heap + (h.entries - behind machine h))

pub record Binds (machine : MachineKind) (store events : List ℕ) (h : Header) (at kind id payload : ℕ) (store' events' : List ℕ) (m : Result Step Stop) : Type 0 where
  pub finishes : Finishes store events at (bound h) (event_head kind 0 0 0 payload) (place_for machine h)
      (slot_bytes (slot 0 id payload) ++ take (16 * behind machine h) (drop (place_for machine h) store)) store' events' m
