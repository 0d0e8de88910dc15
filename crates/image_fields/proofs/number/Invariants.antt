use Rattle.std.proofs.Common.{◌≡◌, ◌+◌, ◌-◌, drop}
use Rattle.image_spec.specs.Parse.{got, number}
use Rattle.image_fields.proofs.number.Given as goal

abbrev pub invariant-loop-i : goal.invariant-loop-i
invariant-loop-i l = number (l.w - l.i) (drop (l.at + l.i) l.bytes) ≡ got l.n (drop (l.at + l.w) l.bytes)
