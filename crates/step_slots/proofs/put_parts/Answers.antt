use Rattle.image_write_parts.proofs.Putting.{puts_then}
use mathlib.Core.List.{[], ◌∷◌}
use Rattle.image_spec.specs.Parse.{field}
use Rattle.step_slots.proofs.put_parts.Goals as goal

pub returns : goal.returns
returns c =
    puts_then {xs = c.args.sort ∷ 0 ∷ 0 ∷ 0 ∷ []} c.put_sort-after_sort.ensures
    (puts_then {xs = field 4 c.args.id} c.put_four-after_id.ensures c.put_long.ensures)
