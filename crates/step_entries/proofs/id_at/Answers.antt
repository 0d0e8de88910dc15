-- `id_at` meets its contract. Assumes nothing.
use Rattle.step_slots.specs.Views.{slot_at}
use Rattle.step_slots.proofs.SlotBytes.{standing, id-read}
use Rattle.step_entries.proofs.id_at.Goals as goal

pub returns : goal.returns
returns c =
    let s = c.args.store.now in
    let at = c.args.at in
    id-read s at _ _ (slot_at s at) (standing s at c.requires.1) c.number.ensures
