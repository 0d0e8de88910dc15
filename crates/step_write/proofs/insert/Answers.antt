use mathlib.Core.Path.{refl, ap, ◌∙◌}
use Prim.Native.Nat.{ℕ, ◌*◌}
use mathlib.Core.List.{List}
use lib.ListN.{length, take, drop}
use lib.Seq.{sets}
use Rattle.image_write_parts.proofs.Putting.{sets_reserved}
use Rattle.step_write.proofs.insert.Goals as goal

pub returns : goal.returns
returns c =
    let a = c.args in
    let s = a.store.now in
    let held = take (16 * a.n) (drop a.at s) in
    c.copy.ensures.holds
    ∙ (ap (λ (z : List ℕ). sets z a.at a.slots.now) c.move_up.ensures
    ∙ sets_reserved a.slots.now s a.at (length a.slots.now) held refl)
