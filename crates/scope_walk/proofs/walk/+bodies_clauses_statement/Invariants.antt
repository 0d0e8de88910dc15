use Rattle.std.proofs.Common.{◌≡◌, ◌+◌, ◌-◌, ◌*◌, length}
use Rattle.std.proofs.lemmas.List.Edits.{sets}
use Rattle.model.specs.FreeVars.{free_vars_clauses}
use Rattle.image_spec.specs.Parse.{each, All}
use Rattle.image_spec.specs.Shape.{flatten, flatten_clauses}
use Rattle.image_directory.specs.Images.{records_of}
use Rattle.image_places_spec.specs.Places.{clauses_at, bodies_at}
use Rattle.image_places_spec.proofs.Steps.{ClausesLeft, BodiesLeft}
use Rattle.scope_spec.specs.Walk.{walk_clauses, walk_bodies}
use Rattle.scope_spec.specs.FreeRows.{mask_of, free_bodies, rows_clauses, rows_bodies}
use Rattle.scope_spec.specs.Pairs.{masks_of}
use Rattle.scope_places.specs.Scoping.{scope_of}
use Rattle.scope_walk.specs.Walks.{Restored}
use Rattle.scope_walk.specs.Masks.{Sourced, SourcedClauses}
use Rattle.scope_walk.proofs.WalkSteps.{WalksClauses, WalksBodies}
use Rattle.scope_walk.proofs.walk.+bodies_clauses_statement.Given as goal

abbrev pub decreases-bodies : goal.decreases-bodies
decreases-bodies l = 2 * l.depth + 1

abbrev pub decreases-clauses : goal.decreases-clauses
decreases-clauses l = 2 * l.depth + 1

abbrev pub decreases-statement : goal.decreases-statement
decreases-statement l = 2 * l.depth

abbrev pub invariant-bodies-loop : goal.invariant-bodies-loop
invariant-bodies-loop l =
    let Δ = scope_of l.initial.scope in
    let ts = bodies_at l.depth l.count (records_of l.walkable.image) l.i in
    let whole = walk_bodies ts l.walkable.max_id Δ l.initial.here.verdict in
    let stored = sets (masks_of l.initial.rows) (2 * l.i) (rows_bodies ts Δ) in
    Restored l.initial.scope l.scope
    × ((length l.rows ≡ length l.initial.rows)
    × BodiesLeft l.depth (records_of l.walkable.image) (l.i + length (each flatten ts)) (l.count - l.counter) l.here.next
    (WalksBodies (All (Sourced Δ) ts) l.walkable.max_id Δ whole (mask_of (free_bodies ts) Δ) stored (masks_of l.rows) l.here))

abbrev pub invariant-clauses-loop : goal.invariant-clauses-loop
invariant-clauses-loop l =
    let Δ = scope_of l.initial.scope in
    let cs = clauses_at l.depth l.count (records_of l.walkable.image) l.i in
    let whole = walk_clauses cs l.walkable.max_id Δ l.initial.here.verdict in
    let stored = sets (masks_of l.initial.rows) (2 * l.i) (rows_clauses cs Δ) in
    Restored l.initial.scope l.scope
    × ((length l.rows ≡ length l.initial.rows)
    × ClausesLeft l.depth (records_of l.walkable.image) (l.i + length (flatten_clauses cs)) (l.count - l.counter) l.here.next
    (WalksClauses (SourcedClauses Δ cs) l.walkable.max_id Δ whole (mask_of (free_vars_clauses cs) Δ) stored (masks_of l.rows) l.here))
