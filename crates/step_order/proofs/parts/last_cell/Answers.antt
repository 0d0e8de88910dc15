-- `last_cell` meets its contract. Assumes nothing.
use mathlib.Core.Path.{◌≡◌, ap, ◌∙◌}
use native.Mathlib.Omega.{arith}
use Rattle.step_slots.specs.Slots.{Slot}
use Rattle.step_header.specs.States.{heap_of, entries_of}
use Rattle.step_cells.specs.Cells.{cell_in'}
use Rattle.step_cells.proofs.HeldLaws.{no-reference}
use Rattle.step_entries.specs.Named.{last_slot}
use Rattle.step_order.proofs.parts.last_cell.Goals as goal

pub returns-in_err-last_value : goal.returns-in_err-last_value
returns-in_err-last_value c =
    let s = c.args.state.now in
    let t = last_slot (entries_of s) in
    let five : 5 ≡ t.sort = ap (λ (t : Slot). t.sort) c.in_err-last_value.ensures in
    rw c.from_residual.ensures (no-reference (heap_of s) t (λ e. omega (arith, five, e)))

pub returns : goal.returns
returns c = c.cell_of.ensures ∙ ap (cell_in' (heap_of c.args.state.now)) c.in_ok-last_value.ensures
