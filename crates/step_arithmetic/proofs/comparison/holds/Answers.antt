use Rattle.std.proofs.Common.{not, refl, ap, w64}
use Rattle.model.specs.Integers.{holds}
use Rattle.std.proofs.lemmas.Int.{to_z-of_z}
use Rattle.step_arithmetic.proofs.Compares.{equal_is}
use Rattle.step_arithmetic.proofs.comparison.holds.Goals as goal

pub returns-in-Equal : goal.returns-in-Equal
unfolding holds
returns-in-Equal c = rw c.in-Equal.is (equal_is c.args.a c.args.b c.ranges.a c.ranges.b)

pub returns-in-NotEqual : goal.returns-in-NotEqual
unfolding holds
returns-in-NotEqual c = rw c.in-NotEqual.is (ap not (equal_is c.args.a c.args.b c.ranges.a c.ranges.b))

pub returns-in-Less : goal.returns-in-Less
unfolding holds
returns-in-Less c = rw (c.in-Less.is, to_z-of_z w64 c.args.a c.ranges.a, to_z-of_z w64 c.args.b c.ranges.b) refl

pub returns-in-LessOrEqual : goal.returns-in-LessOrEqual
unfolding holds
returns-in-LessOrEqual c = rw (c.in-LessOrEqual.is, to_z-of_z w64 c.args.a c.ranges.a, to_z-of_z w64 c.args.b c.ranges.b) refl

pub returns-in-Greater : goal.returns-in-Greater
unfolding holds
returns-in-Greater c = rw (c.in-Greater.is, to_z-of_z w64 c.args.a c.ranges.a, to_z-of_z w64 c.args.b c.ranges.b) refl

pub returns-in-GreaterOrEqual : goal.returns-in-GreaterOrEqual
unfolding holds
returns-in-GreaterOrEqual c = rw (c.in-GreaterOrEqual.is, to_z-of_z w64 c.args.a c.ranges.a, to_z-of_z w64 c.args.b c.ranges.b) refl
