use Rattle.std.proofs.Common.{◌≡◌, ◌≤◌, ◌-◌, length}
use Rattle.image_spec.specs.Parse.{times}
use Rattle.image_spec.specs.Fields.{pair}
use Rattle.image_fields.specs.Found.{stop}
use Rattle.image_fields.proofs.fields.Fields.skip_pairs.Given as goal

abbrev pub invariant-loop : goal.invariant-loop
invariant-loop l = (l.here ≤ length l.self.bytes.now) × (stop (times l.n (pair l.self.id)) l.self.bytes.now l.at ≡ stop (times (l.n - l.counter) (pair l.self.id)) l.self.bytes.now l.here)
