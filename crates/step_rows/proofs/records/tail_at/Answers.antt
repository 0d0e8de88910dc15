-- `tail_at` meets its contract. Assumes nothing.
use native.Mathlib.Omega.{arith}
use Rattle.image_kinds.specs.Codes.{code_of}
use Rattle.step_rows.proofs.RecordRowLaws.{tail-stands, tail-inside}
use Rattle.step_rows.proofs.records.tail_at.Goals as goal

pub fixed-requires : goal.fixed-requires
fixed-requires c = omega (arith, c.args.node.now.image.ready.id)

pub overflow_add-result : goal.overflow_add-result
overflow_add-result c =
    let n = c.args.node.now in
    omega (arith, c.fixed.ensures, tail-inside n.image.frame n.image.bytes.now n.index (code_of n.kind) _ n.there c.offset.ensures)

pub returns : goal.returns
returns c =
    let n = c.args.node.now in
    rw c.fixed.ensures (tail-stands n.image.frame n.image.bytes.now n.index (code_of n.kind) _ n.there c.offset.ensures)
