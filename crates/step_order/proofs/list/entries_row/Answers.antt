-- `entries_row` meets its contract. Assumes nothing.
use Prim.Native.Nat.{◌+◌, ◌*◌}
use Rattle.step_rows.proofs.SlotRows.{slot_row}
use Rattle.step_order.proofs.list.entries_row.Goals as goal

pub returns : goal.returns
returns c =
    let s = c.args.state.now in
    slot_row s.store.now (64 + 16 * s.header.heap) s.header.entries c.slot_places.ensures s.holds.entries
