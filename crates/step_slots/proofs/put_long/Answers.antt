use mathlib.Core.Path.{◌∙◌}
use Rattle.step_slots.proofs.PutLaws.{puts-number}
use Rattle.step_slots.proofs.put_long.Goals as goal

pub returns : goal.returns
returns c =
    let a = c.args in
    puts-number a.out.now c.copy_from_slice.new.self a.at 8 a.n (c.copy_from_slice.ensures.after ∙ c.to_le_bytes.ensures) c.requires
