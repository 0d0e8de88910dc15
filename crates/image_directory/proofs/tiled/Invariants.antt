use Rattle.std.proofs.Common.{◌≡◌, ◌≤◌, ◌-◌, length}
use Rattle.image_spec.specs.Image.{tiled_from}
use Rattle.image_directory.proofs.tiled.Given as goal

abbrev pub invariant-loop : goal.invariant-loop
invariant-loop l = (l.here ≤ length l.image) × (tiled_from l.frame.place l.frame.count l.frame.from l.frame.start l.image ≡ tiled_from l.frame.place (l.frame.count - l.counter) l.at l.here l.image)
