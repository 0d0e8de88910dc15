use Rattle.std.proofs.Common.{◌≡◌, ◌+◌, ◌-◌, ◌*◌, length}
use Rattle.syntax.specs.Arrays.{set_of}
use Rattle.image_spec.specs.Parse.{each}
use Rattle.image_spec.specs.Shape.{flatten, flatten_clauses}
use Rattle.image_directory.specs.Images.{records_of}
use Rattle.image_places_spec.specs.Places.{clauses_at, bodies_at}
use Rattle.image_places_spec.proofs.Steps.{ClausesLeft, BodiesLeft}
use Rattle.scope_spec.specs.Marking.{mark_clauses, mark_bodies}
use Rattle.annotate.proofs.MarkSteps.{MarksClauses, MarksBodies}
use Rattle.annotate.proofs.walk.+bodies_clauses_statement.Given as goal

abbrev pub decreases-bodies : goal.decreases-bodies
decreases-bodies l = 2 * l.depth + 1

abbrev pub decreases-clauses : goal.decreases-clauses
decreases-clauses l = 2 * l.depth + 1

abbrev pub decreases-statement : goal.decreases-statement
decreases-statement l = 2 * l.depth

abbrev pub invariant-bodies-loop : goal.invariant-bodies-loop
invariant-bodies-loop l =
    let rs = records_of l.source.image in
    let ts = bodies_at l.depth l.n rs l.i in
    let whole = mark_bodies ts (set_of l.bound) l.initial.row in
    (length l.row ≡ length l.initial.row)
    × BodiesLeft l.depth rs (l.i + length (each flatten ts)) (l.n - l.counter) l.here (MarksBodies (set_of l.bound) whole l.row)

abbrev pub invariant-clauses-loop : goal.invariant-clauses-loop
invariant-clauses-loop l =
    let rs = records_of l.source.image in
    let cs = clauses_at l.depth l.n rs l.i in
    let whole = mark_clauses cs (set_of l.bound) l.initial.row in
    (length l.row ≡ length l.initial.row)
    × ClausesLeft l.depth rs (l.i + length (flatten_clauses cs)) (l.n - l.counter) l.here (MarksClauses (set_of l.bound) whole l.row)
