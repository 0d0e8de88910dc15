-- What is read of a Let, and the slots and the header that its step writes.
use Rattle.std.specs.Prelude.{ℕ, ◌+◌, ◌-◌, ◌*◌, ◌≤◌, ◌≡◌, Bool, true, false, List, [], ◌∷◌, ◌++◌, length, take, drop, Result}
use Rattle.syntax.specs.Context.{ids}
use Rattle.syntax.specs.declared.names.VarId.{VarId}
use Rattle.image_spec.specs.Parse.{each}
use Rattle.image_spec.specs.Records.{Record}
use Rattle.image_read_parts.specs.Parts.{list_of}
use Rattle.image_read_nodes.specs.Nodes.{first_of}
use Rattle.step_slots.specs.Slots.{Slot, slot, slot_bytes}
use Rattle.step_spec.specs.Events.{event_head}
use Rattle.step_header.specs.declared.Header.{Header}
use Rattle.step_rows.specs.Rows.{ids_of}
use Rattle.step_write.specs.declared.Step.{Step}
use Rattle.step_write.specs.declared.Stop.{Stop}
use Rattle.step_write.specs.declared.Work.{Work}
use Rattle.step_write.specs.Working.{Keeps}
use Rattle.step_write.specs.Writing.{Finishes}
use Rattle.step_gather.specs.Gathering.{all_found_lem, found_slots}
use Rattle.step_tags.specs.Tags.{tag_in}
use Rattle.step_last.specs.NewCell.{with_cell, var_slot_lem}
use Rattle.step_statement_let.specs.declared.let_.Parts.{Parts}

-- the ID of its var, the name of its tag, and the row of its args, which are at most 128
pub record PartsOf (r : Record) (parts : Parts) : Type 0 where
  pub id : parts.id ≡ (first_of r).id.0
  pub tag : parts.tag ≡ (tag_in r).name.0
  pub args : ids_of parts.args ≡ ids (list_of r)
  pub few : parts.args.places.len ≤ 128

-- the header after it: the cell holds so many values, and so many entries stay beside var
abbrev pub kept : Header → (held others : ℕ) → Header
kept h j n = with_cell h (h.position + 1) j n

-- the new cell's own slot: the tag, and the cell's number
abbrev pub cell_slot_lem : Header → (tag : ℕ) → Slot
cell_slot_lem h tag = slot 3 tag h.cells

-- what is packed: the answer whether all variables are among the slots and, where they are, the cell with their values, and var
pub record Packs (E : List Slot) (xs : List VarId) (h : Header) (parts : Parts) (out' : List ℕ) (r : Bool) : Type 0 where
  pub found : r ≡ all_found_lem E xs
  pub put : r ≡ true → take (16 * (length xs + 2)) out' ≡ each slot_bytes (cell_slot_lem h parts.tag ∷ (found_slots E xs ++ (var_slot_lem h parts.id ∷ [])))

-- these bytes behind the slots of the cells, with event and header
pub record Adds (store events : List ℕ) (h : Header) (at : ℕ) (parts : Parts) (held others : ℕ) (bytes store' events' : List ℕ) (m : Result Step Stop) : Type 0 where
  pub finishes : Finishes store events at (kept h held others) (event_head 4 1 parts.tag 0 h.cells) (64 + 16 * h.heap) bytes store' events' m

-- the cell of the args and var, which are in these slots, go before the entries
abbrev pub AddsBefore : (w w' : Work) → Parts → (slots : List ℕ) → Result Step Stop → Type 0
AddsBefore w w' parts slots m =
    let h = w.header in
    let entries = take (16 * h.entries) (drop (64 + 16 * h.heap) w.store.now) in
    Adds w.store.now w.events.now h w.at parts parts.args.places.len h.entries (slots ++ entries) w'.store.now w'.events.now m × Keeps w w'

-- the cell of the args, which is in these slots, goes before the entries without as many last ones, and var behind them
abbrev pub AddsBehind : (w w' : Work) → Parts → (slots : List ℕ) → Result Step Stop → Type 0
AddsBehind w w' parts slots m =
    let h = w.header in
    let k = parts.args.places.len in
    let others = take (16 * (h.entries - k)) (drop (64 + 16 * h.heap) w.store.now) in
    Adds w.store.now w.events.now h w.at parts k (h.entries - k) (slots ++ (others ++ slot_bytes (var_slot_lem h parts.id))) w'.store.now w'.events.now m × Keeps w w'
