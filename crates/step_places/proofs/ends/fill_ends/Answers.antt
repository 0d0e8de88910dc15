-- `fill_ends` meets its contract: the places from i on are filled. Assumes nothing.
use Prim.Native.Nat.{◌≤◌}
use mathlib.Core.Path.{refl}
use borrow.Author.Rules.{rules}
use native.Mathlib.Omega.{arith}
use Rattle.image_directory.specs.Slots.{records_in}
use Rattle.image_directory.proofs.Places.{records-length}
use Rattle.step_places.proofs.EndLaws.{Filled, filled_none, filled_more, filled_all}
use Rattle.step_places.proofs.ends.fill_ends.Goals as goal
use Rattle.step_places.proofs.ends.fill_ends.Goals.{At-loop-i}

-- i is at most the number of records, which is small
few : (c : At-loop-i) → (c.loop-i.i ≤ c.args.image.now.frame.count) × (c.loop-i.i ≤ 4000)
few c =
    let n = records-length c.args.image.now.frame c.args.image.now.bytes.now c.args.image.now.ready in
    (omega (arith, n, c.loop-i.invariant.within), omega (arith, n, c.loop-i.invariant.within, c.args.image.now.ready.few))

pub loop-i-init : goal.loop-i-init
loop-i-init c =
    filled_none _ (records-length c.args.image.now.frame c.args.image.now.bytes.now c.args.image.now.ready) c.requires

pub parts_of-follows-requires : goal.parts_of-follows-requires
parts_of-follows-requires c = omega (arith, (few (goal.at.parts_of-follows-requires c).At-loop-i).0, c.loop-i-test.true)

pub overflow_add-i : goal.overflow_add-i
overflow_add-i c = omega (arith, (few (goal.at.overflow_add-i c).At-loop-i).1)

pub overflow_cast-ends : goal.overflow_cast-ends
overflow_cast-ends c = record { fits = c.hop-end.ensures.small (c.hop-bodies.ensures.small (omega (arith, (few (goal.at.overflow_cast-ends c).At-loop-i).1))) }

pub offset_bounds-ends-i : goal.offset_bounds-ends-i
offset_bounds-ends-i c = omega (arith, (few (goal.at.offset_bounds-ends-i c).At-loop-i).1)

pub bounds-ends-i : goal.bounds-ends-i
bounds-ends-i c =
    omega (arith, c.loop-i.invariant.within, c.loop-i.invariant.room, c.loop-i-test.true)

pub loop-i-preserved : goal.loop-i-preserved
loop-i-preserved c =
    let p = c.parts_of-follows.ensures in
    filled_more c.loop-i.i _ _ _ _ _ c.loop-i-test.true p.clauses p.bodies c.hop-bodies.ensures c.hop-end.ensures refl c.loop-i.invariant

pub shape_of-ends : goal.shape_of-ends
shape_of-ends c = c.loop-i.invariant.same

pub returns : goal.returns
returns c = filled_all c.loop-i.i (omega (arith, c.loop-i-test.false)) c.loop-i.invariant
