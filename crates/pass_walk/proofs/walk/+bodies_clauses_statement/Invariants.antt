-- The walk that linearizes: a statement, its clauses and its bodies call each other, and the remaining depth falls. At one depth clauses and
-- bodies are above their statements. Assumes nothing.
use Prim.Native.Nat.{◌+◌, ◌-◌, ◌*◌}
use mathlib.Core.List.{List}
use lib.ListN.{length}
use Rattle.image_spec.specs.Parse.{each}
use Rattle.image_spec.specs.Shape.{flatten, flatten_clauses}
use Rattle.image_directory.specs.Images.{records_of}
use Rattle.image_places_spec.specs.Places.{clauses_at, bodies_at}
use Rattle.image_places_spec.proofs.Steps.{ClausesLeft, BodiesLeft}
use Rattle.image_write_directory.specs.Outputs.{so_far, Keeps}
use Rattle.scope_spec.specs.Pairs.{masks_of}
use Rattle.pass_work_spec.specs.Work.{work_clauses}
use Rattle.pass_context.specs.Holding.{work_of}
use Rattle.pass_step_spec.specs.Steps.{work_bodies}
use Rattle.pass_walk.proofs.LoopSteps.{ClausesWriting, BodiesWriting}
use Rattle.pass_walk.proofs.walk.+bodies_clauses_statement.Given as goal

abbrev pub decreases-bodies : goal.decreases-bodies
decreases-bodies l = 2 * l.depth + 1

abbrev pub decreases-clauses : goal.decreases-clauses
decreases-clauses l = 2 * l.depth + 1

abbrev pub decreases-statement : goal.decreases-statement
decreases-statement l = 2 * l.depth

abbrev pub invariant-bodies-loop : goal.invariant-bodies-loop
invariant-bodies-loop l =
    let o = l.initial.output in
    let ts = bodies_at l.depth l.n (records_of l.source.image) l.i in
    let all = work_bodies ts (work_of l.here.context) l.here.in_scope o.max_id in
    let r = l.output in
    Keeps o l.output
    × BodiesLeft l.depth (records_of l.source.image) (l.i + length (each flatten ts)) (l.n - l.counter) l.next
    (BodiesWriting o.writer.id (masks_of l.source.rows.now) l.here.context l.here.in_scope (each flatten all.0) all.1 o.writer.out.now r.writer.out.now o.lengths.now r.lengths.now (so_far o) (record { next = l.next; progress = so_far r }))

abbrev pub invariant-clauses-loop : goal.invariant-clauses-loop
invariant-clauses-loop l =
    let o = l.initial.output in
    let cs = clauses_at l.depth l.n (records_of l.source.image) l.i in
    let all = work_clauses cs l.before (work_of l.here.context) l.here.in_scope o.max_id in
    let here = l.here in
    let r = l.output in
    let rows = masks_of l.source.rows.now in
    Keeps o l.output
    × ClausesLeft l.depth (records_of l.source.image) (l.i + length (flatten_clauses cs)) (l.n - l.counter) l.next
    (ClausesWriting o.writer.id rows l.before here.context here.in_scope (flatten_clauses all.0) all.1 o.writer.out.now r.writer.out.now o.lengths.now r.lengths.now (so_far o) (record { next = l.next; progress = so_far r }))
