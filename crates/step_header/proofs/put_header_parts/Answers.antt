use mathlib.Core.List.{[], ◌∷◌}
use Rattle.image_write_parts.proofs.Putting.{puts_then}
use Rattle.image_spec.specs.Parse.{field}
use Rattle.step_header.proofs.put_header_parts.Goals as goal

pub returns : goal.returns
returns c =
    let a = c.args in
    puts_then {xs = field 4 a.position} c.put_four-after_position.ensures
    (puts_then {xs = a.ended ∷ []} c.put_byte-after_ended.ensures
    (puts_then {xs = a.stopped ∷ []} c.put_byte-after_stopped.ensures
    (puts_then {xs = field 2 0} c.store_pair-after_flags.ensures
    (puts_then {xs = field 8 a.cells} c.put_long-after_cells.ensures
    (puts_then {xs = field 8 a.heap} c.put_long-after_heap.ensures
    (puts_then {xs = field 8 a.entries} c.put_long-after_entries.ensures c.put_zeros.ensures))))))
