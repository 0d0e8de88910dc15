use mathlib.Core.Path.{sym, ◌∙◌}
use Prim.Native.Nat.{◌+◌, ◌*◌}
use native.Mathlib.Omega.{arith}
use borrow.Author.Tests.{lt-leb}
use Rattle.step_open.proofs.OpeningLaws.{room-left}
use Rattle.step_open.proofs.counts_inside.Goals as goal

pub returns-then-header-room : goal.returns-then-header-room
returns-then-header-room c = room-left c.args.len c.args.header.heap c.args.header.entries c.requires c.if-header-room.true

pub returns-else-header-room : goal.returns-else-header-room
returns-else-header-room c =
    let a = c.args in
    lt-leb _ _ c.if-header-room.false ∙ sym (lt-leb (64 + 16 * a.header.heap + 16 * a.header.entries) a.len (omega (arith, c.requires, c.if-header-room.false)))
