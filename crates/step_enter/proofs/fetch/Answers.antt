-- `fetch` meets its contract. Assumes nothing.
use Prim.Native.Nat.{◌*◌}
use Rattle.image_write_parts.proofs.Putting.{puts_as}
use Rattle.image_write_bytes.proofs.Copying.{part-from}
use Rattle.step_enter.proofs.EnterLaws.{fetched}
use Rattle.step_enter.proofs.fetch.Goals as goal

pub returns : goal.returns
returns c = fetched c.args.store.now c.args.from c.args.n c.requires.1.0 c.requires.1.1 (puts_as (part-from c.args.store.now c.args.from (16 * c.args.n)) c.copy.ensures)
