-- `last_value` meets its contract. Assumes nothing.
use Prim.Native.Nat.{◌+◌, ◌*◌}
use mathlib.Core.Path.{◌∙◌}
use native.Mathlib.Omega.{arith}
use Rattle.step_entries.proofs.LastLaws.{last_none, last-read}
use Rattle.step_entries.proofs.last_value.Goals as goal

pub returns-then-entries-eq0 : goal.returns-then-entries-eq0
returns-then-entries-eq0 c =
    let a = c.args in
    last_none a.state.now.store.now (64 + 16 * a.state.now.header.heap) a.state.now.header.entries c.if-entries-eq0.true

pub returns : goal.returns
returns c =
    let a = c.args in
    c.read.ensures ∙ last-read a.state.now.store.now (64 + 16 * a.state.now.header.heap) a.state.now.header.entries (omega (arith, c.if-entries-eq0.false))
