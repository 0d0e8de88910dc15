use Rattle.std.proofs.Common.{◌≡◌, ◌-◌, true}
use Rattle.image_spec.specs.Image.{tiled_from}
use Rattle.image_directory.specs.Slots.{formed_from}
use Rattle.image_directory.proofs.all_formed.Given as goal

abbrev pub invariant-loop : goal.invariant-loop
invariant-loop l =
    (tiled_from l.frame.place (l.frame.count - l.counter) l.at l.here l.image ≡ true)
    × (formed_from l.frame.id l.frame.place l.frame.count l.frame.from l.frame.start l.image ≡ formed_from l.frame.id l.frame.place (l.frame.count - l.counter) l.at l.here l.image)
