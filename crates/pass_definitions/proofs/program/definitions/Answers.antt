-- `definitions` meets its contract. Assumes nothing.
use Prim.Native.Nat.{◌+◌, ◌-◌}
use mathlib.Core.Path.{◌≡◌, refl, ◌∙◌}
use native.Mathlib.Omega.{arith}
use Rattle.image_spec.specs.Shape.{flatten_defs}
use Rattle.scope_check.specs.Definitions.{defs_in}
use Rattle.scope_check.proofs.DefLaws.{DefNext, def-next}
use Rattle.scope_spec.specs.Pairs.{masks_of}
use Rattle.pass_work_spec.specs.Work.{work_defs}
use Rattle.pass_definitions.proofs.DefSteps.{DefsWriting, defs-begun, def-ahead, def-left, defs-done}
use Rattle.image_directory.specs.Images.{records_of}
use Rattle.image_write_directory.specs.Outputs.{so_far}
use Rattle.image_write_directory.proofs.EmitLaws.{keeps_same, keeps_then}
use Rattle.pass_walk.proofs.OutputLaws.{linearized-width}
use Rattle.pass_definitions.proofs.program.definitions.Goals as goal
use Rattle.pass_definitions.proofs.program.definitions.Goals.{In-loop}

-- the first of the definitions that are left
first : (c : In-loop) → let a = c.args in let o = a.output.now in let r = c.loop.output in let all = work_defs (defs_in a.defs (records_of a.source.now.image)) o.max_id in
    DefNext 64 (records_of a.source.now.image) (a.defs - c.loop.counter) c.loop.next
    (DefsWriting o.writer.id (masks_of a.source.now.rows.now) (flatten_defs all.0) all.1 o.writer.out.now r.writer.out.now o.lengths.now r.lengths.now (so_far o) (record { next = c.loop.next; progress = so_far r }))
first c = def-next c.loop.invariant.1 (omega (arith, c.loop-test.true))

pub loop-init : goal.loop-init
loop-init c =
    let o = c.args.output.now in
    let e : c.args.defs - 0 ≡ c.args.defs = omega arith in
    rw e (keeps_same o, record { rest = _; stand = c.requires.stand; holds = defs-begun o.writer.out.now o.lengths.now c.requires })

pub definition-next-requires : goal.definition-next-requires
definition-next-requires c = rw (c.loop.invariant.0.id) (def-ahead c.requires.sources (first (goal.at.definition-next-requires c).In-loop))

pub loop-preserved : goal.loop-preserved
loop-preserved c =
    let k = c.loop.invariant.0 in
    let d = c.definition-next.ensures in
    let e : c.args.defs - (c.loop.counter + 1) ≡ c.args.defs - c.loop.counter - 1 = omega arith in
    rw e (keeps_then k d.1, def-left c.requires.sources (first (goal.at.loop-preserved c).In-loop) (linearized-width k.id d.0))

pub returns : goal.returns
returns c = (defs-done c.loop.invariant.1 (omega (arith, c.loop-test.false)), c.loop.invariant.0)
