use mathlib.Core.Path.{◌≡◌}
use Rattle.step_spec.specs.Store.{bit}
use Rattle.step_header.proofs.HeaderLaws.{bit_is}
use Rattle.step_header.proofs.put_header.Goals as goal

pub returns : goal.returns
returns c =
    let h = c.args.h in
    let e : c.from-ended.result ≡ bit h.ended = bit_is h.ended c.from-ended.ensures in
    let s : c.from-stopped.result ≡ bit h.stopped = bit_is h.stopped c.from-stopped.ensures in
    rw s at (rw e at c.put_header_parts.ensures)
