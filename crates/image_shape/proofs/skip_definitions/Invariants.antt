use Rattle.std.proofs.Common.{◌≡◌, ◌-◌, ◌≤◌, length}
use Rattle.image_spec.specs.Parse.{times}
use Rattle.image_spec.specs.Shape.{one_def}
use Rattle.image_fields.specs.Found.{stop}
use Rattle.image_directory.specs.Slots.{records_in}
use Rattle.image_shape.proofs.skip_definitions.Given as goal

abbrev pub invariant-loop : goal.invariant-loop
invariant-loop l =
    (l.here ≤ length (records_in l.image.frame l.image.bytes.now))
    × (stop (times l.n one_def) (records_in l.image.frame l.image.bytes.now) 0 ≡ stop (times (l.n - l.counter) one_def) (records_in l.image.frame l.image.bytes.now) l.here)
