-- `walk_definitions` meets its contract. Assumes nothing.
use Prim.Native.Nat.{◌-◌}
use mathlib.Core.Path.{◌≡◌}
use lib.ListN.{length}
use lib.Seq.{sets}
use Rattle.image_directory.specs.Images.{records_of}
use Rattle.scope_spec.specs.Walk.{clean, walk_defs}
use Rattle.scope_spec.specs.FreeRows.{rows_defs}
use Rattle.scope_spec.specs.Pairs.{masks_of}
use Rattle.scope_check.specs.Definitions.{defs_in}
use Rattle.scope_walk.specs.Masks.{SourcedDefs}
use Rattle.scope_check.proofs.DefLaws.{DefsLeft}
use Rattle.scope_check.proofs.DefWalks.{WalksDefs}
use Rattle.scope_check.proofs.definitions.walk_definitions.Given as goal

-- (The scope's array is l.scope.0, and how many are in scope l.scope.1.0.)
abbrev pub invariant-loop : goal.invariant-loop
invariant-loop l =
    let rs = records_of l.walkable.image in
    let ds = defs_in l.definitions rs in
    let whole = walk_defs ds l.walkable.max_id clean in
    let stored = sets (masks_of l.initial.rows) 0 (rows_defs ds) in
    ((length l.scope.0.now ≡ 64) × (l.scope.1.0 ≡ 0))
    × ((length l.rows ≡ length l.initial.rows)
    × DefsLeft 64 rs (l.definitions - l.counter) l.here.next (WalksDefs (SourcedDefs ds) l.walkable.max_id whole stored (masks_of l.rows) l.here))
