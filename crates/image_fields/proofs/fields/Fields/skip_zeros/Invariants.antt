use Rattle.std.proofs.Common.{◌≡◌, ◌≤◌, ◌-◌, length}
use Rattle.image_spec.specs.Parse.{zeros}
use Rattle.image_fields.specs.Found.{stop}
use Rattle.image_fields.proofs.fields.Fields.skip_zeros.Given as goal

abbrev pub invariant-loop : goal.invariant-loop
invariant-loop l = (l.here ≤ length l.self.bytes.now) × (stop (zeros l.n) l.self.bytes.now l.at ≡ stop (zeros (l.n - l.counter)) l.self.bytes.now l.here)
