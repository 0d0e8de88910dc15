-- `pack_last` meets its contract. Assumes nothing.
use borrow.Author.Rules.{rules}
use Prim.Native.Nat.{◌+◌, ◌-◌, ◌*◌, ◌≤◌}
use mathlib.Core.Path.{◌≡◌, ap}
use native.Mathlib.Omega.{arith}
use lib.ListN.{length, take, drop}
use Rattle.image_write_parts.specs.Puts.{Puts}
use Rattle.image_write_parts.proofs.Putting.{puts_as, puts-same}
use Rattle.image_write_bytes.proofs.Copying.{part-from}
use Rattle.step_slots.specs.Slots.{slot_bytes}
use Rattle.step_statement_let.specs.Letting.{cell_slot_lem}
use Rattle.step_statement_let.proofs.PackLaws.{copied-slots, packed-last}
use Rattle.step_statement_let.proofs.let_.pack_last.Goals as goal
use Rattle.step_statement_let.proofs.let_.pack_last.Goals.{After-copy}

-- the last k entries are copied
copies : (c : After-copy) →
    let s = c.args.state.now in
    Puts c.put_slot.new.out c.copy.new.out 16 c.copy.result (take (16 * c.args.k) (drop (64 + 16 * s.header.heap + 16 * (s.header.entries - c.args.k)) s.store.now))
copies c = let s = c.args.state.now in puts_as (part-from s.store.now (64 + 16 * s.header.heap + 16 * (s.header.entries - c.args.k)) (16 * c.args.k)) c.copy.ensures

pub erase-requires : goal.erase-requires
erase-requires c =
    let a = c.args in
    let s = a.state.now in
    let full : length a.scratch.now ≡ 2080 = search rules in
    let room : 16 * (a.k + 1) ≤ length a.scratch.now = omega (arith, c.requires.1, full) in
    let head = puts_as (ap slot_bytes c.cell_slot.ensures) c.put_slot.ensures in (
      omega (arith, room, puts-same c.put_slot.ensures, puts-same c.copy.ensures),
      copied-slots s.store.now (64 + 16 * s.header.heap) s.header.entries a.k s.holds.entries c.requires.0 (cell_slot_lem s.header a.tag) room head (copies (goal.at.erase-requires c).After-copy),
    )

pub returns : goal.returns
returns c =
    let a = c.args in
    let s = a.state.now in
    let full : length a.scratch.now ≡ 2080 = search rules in
    let room : 16 * (a.k + 1) ≤ length a.scratch.now = omega (arith, c.requires.1, full) in
    let head = puts_as (ap slot_bytes c.cell_slot.ensures) c.put_slot.ensures in
    packed-last s.store.now (64 + 16 * s.header.heap) s.header.entries a.k s.holds.entries c.requires.0 (cell_slot_lem s.header a.tag) room head (copies (goal.at.returns c).After-copy) c.erase.ensures
