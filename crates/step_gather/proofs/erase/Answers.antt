-- `erase` meets its contract. Assumes nothing.
use Rattle.step_gather.proofs.Renaming.{put-zeros}
use Rattle.step_gather.proofs.erase.Goals as goal

pub returns : goal.returns
returns c =
    let a = c.args in
    put-zeros _ _ a.n a.slots.now _ a.at c.rename.ensures
