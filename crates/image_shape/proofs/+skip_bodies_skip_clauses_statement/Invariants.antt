use Rattle.std.proofs.Common.{◌≡◌, ◌+◌, ◌-◌, ◌*◌, ◌≤◌, length}
use Rattle.image_spec.specs.Parse.{times}
use Rattle.image_spec.specs.Shape.{stmt, clauses}
use Rattle.image_fields.specs.Found.{stop}
use Rattle.image_directory.specs.Slots.{records_in}
use Rattle.image_shape.proofs.+skip_bodies_skip_clauses_statement.Given as goal

abbrev pub decreases-skip_bodies : goal.decreases-skip_bodies
decreases-skip_bodies l = 2 * l.depth + 1

abbrev pub decreases-skip_clauses : goal.decreases-skip_clauses
decreases-skip_clauses l = 2 * l.depth + 1

abbrev pub decreases-statement : goal.decreases-statement
decreases-statement l = 2 * l.depth

abbrev pub invariant-skip_bodies-loop : goal.invariant-skip_bodies-loop
invariant-skip_bodies-loop l =
    (l.here ≤ length (records_in l.image.frame l.image.bytes.now))
    × (stop (times l.n (stmt l.depth)) (records_in l.image.frame l.image.bytes.now) l.at ≡ stop (times (l.n - l.counter) (stmt l.depth)) (records_in l.image.frame l.image.bytes.now) l.here)

abbrev pub invariant-skip_clauses-loop : goal.invariant-skip_clauses-loop
invariant-skip_clauses-loop l =
    (l.here ≤ length (records_in l.image.frame l.image.bytes.now))
    × (stop (clauses (stmt l.depth) l.n) (records_in l.image.frame l.image.bytes.now) l.at ≡ stop (clauses (stmt l.depth) (l.n - l.counter)) (records_in l.image.frame l.image.bytes.now) l.here)
