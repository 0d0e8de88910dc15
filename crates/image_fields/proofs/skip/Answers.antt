use Rattle.std.proofs.Common.{arith, ◌+◌, ◌<◌, length}
use borrow.Author.Tests.{lt-leb}
use Rattle.image_fields.proofs.Stops.{stop-number, chosen}
use Rattle.image_fields.proofs.skip.Goals as goal

pub returns-in_err-end : goal.returns-in_err-end
returns-in_err-end c =
    let a = c.args in
    let h : length a.bytes.now < a.at + a.w = omega (arith, c.in_err-end.ensures) in
    rw (stop-number a.bytes.now (λ i. omega (arith, c.type_inv.bytes i)) a.w a.at, lt-leb _ _ h) c.from_residual.ensures

pub returns : goal.returns
returns c =
    let a = c.args in
    rw (stop-number a.bytes.now (λ i. omega (arith, c.type_inv.bytes i)) a.w a.at, c.then_some.ensures, c.in_ok-end.ensures.1) (chosen _ _)
