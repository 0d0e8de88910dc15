-- `pack_found` meets its contract. Assumes nothing.
use borrow.Author.Rules.{rules}
use Prim.Native.Nat.{◌+◌, ◌*◌, ◌≤◌}
use mathlib.Core.Path.{◌≡◌, sym, ap, ◌∙◌}
use native.Mathlib.Omega.{arith}
use lib.ListN.{length}
use Rattle.image_write_parts.proofs.Putting.{puts_as}
use Rattle.step_slots.specs.Slots.{slot_bytes}
use Rattle.step_rows.proofs.RowLaws.{ids-length}
use Rattle.step_last.specs.NewCell.{var_slot_lem}
use Rattle.step_statement_let.specs.Letting.{cell_slot_lem}
use Rattle.step_statement_let.proofs.PackLaws.{packed}
use Rattle.step_statement_let.proofs.let_.pack_found.Goals as goal

pub returns : goal.returns
returns c =
    let parts = c.args.parts.now in
    let row = parts.args in
    let h = c.args.state.now.header in
    let full : length c.args.scratch.now ≡ 2080 = search rules in
    let room : 16 * (row.places.len + 2) ≤ length c.args.scratch.now = omega (arith, c.requires, full) in
    let e = c.if-not-gather.false in
    let head = puts_as (ap slot_bytes c.cell_slot.ensures) c.put_slot.ensures in
    let var = puts_as (ap slot_bytes c.var_slot.ensures) c.put_slot-2.ensures in
    record {
      found = sym e ∙ c.gather.ensures.found;
      put = λ _. packed (cell_slot_lem h parts.tag) (var_slot_lem h parts.id) row.places.len (ids-length row.bytes.now row.places) room head c.gather.ensures e var;
    }
