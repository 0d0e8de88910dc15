use borrow.Author.Rules.{rules}
use mathlib.Core.Path.{refl, ap, ◌∙◌}
use Prim.Native.Nat.{ℕ, ◌+◌, ◌-◌, ◌*◌}
use lib.ListN.{take}
use Rattle.step_slots.specs.Slots.{slot, slot_bytes}
use Rattle.step_write.proofs.Regions.{taken-put}
use Rattle.step_bind.proofs.BindingLaws.{binds_as}
use Rattle.step_bind.proofs.bind.Goals as goal

pub returns : goal.returns
returns c = (
  let a = c.args in
      let h = a.work.now.header in
      let k = c.moving-kept.ensures in
      binds_as (ap (λ (i : ℕ). 64 + 16 * (h.heap + (h.entries - i))) k)
      (ap (take 16) c.put_slot.ensures.holds ∙ taken-put a.scratch.now (slot_bytes (slot 0 a.id a.payload)) 16 refl c.requires.1.1) k (rw c.of_payload-event.ensures at c.finish.ensures.0),
  search rules,
)
