-- `definitions` meets its contract. Assumes nothing.
use Prim.Native.Nat.{◌-◌}
use mathlib.Core.Path.{◌≡◌}
use Rattle.image_spec.specs.Shape.{flatten_defs}
use Rattle.scope_check.specs.Definitions.{defs_in}
use Rattle.scope_check.proofs.DefLaws.{DefsLeft}
use Rattle.scope_spec.specs.Pairs.{masks_of}
use Rattle.pass_work_spec.specs.Work.{work_defs}
use Rattle.pass_definitions.proofs.DefSteps.{DefsWriting}
use Rattle.image_directory.specs.Images.{records_of}
use Rattle.image_write_directory.specs.Outputs.{so_far, Keeps}
use Rattle.pass_definitions.proofs.program.definitions.Given as goal

abbrev pub invariant-loop : goal.invariant-loop
invariant-loop l =
    let o = l.initial.output in
    let all = work_defs (defs_in l.defs (records_of l.source.image)) o.max_id in
    Keeps o l.output
    × DefsLeft 64 (records_of l.source.image) (l.defs - l.counter) l.next
    (DefsWriting o.writer.id (masks_of l.source.rows.now) (flatten_defs all.0) all.1 o.writer.out.now l.output.writer.out.now o.lengths.now l.output.lengths.now (so_far o) (record { next = l.next; progress = so_far l.output }))
