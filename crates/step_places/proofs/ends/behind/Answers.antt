use native.Mathlib.Omega.{arith}
use Rattle.step_places.proofs.EndLaws.{behind-there, behind-past}
use Rattle.step_places.proofs.ends.behind.Goals as goal

pub returns-then-i-ends : goal.returns-then-i-ends
returns-then-i-ends c = let a = c.args in record { is = behind-there a.ends.now a.i c.if-i-ends.true; small = λ h. omega (arith, c.type_inv.ends a.i) }

pub returns-else-i-ends : goal.returns-else-i-ends
returns-else-i-ends c = let a = c.args in record { is = behind-past a.ends.now a.i c.if-i-ends.false; small = λ h. h }
