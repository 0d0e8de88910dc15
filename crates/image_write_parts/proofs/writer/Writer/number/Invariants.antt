use Prim.Native.Nat.{◌+◌, ◌-◌}
use mathlib.Core.Path.{◌≡◌}
use lib.Seq.{sets}
use Rattle.image_spec.specs.Parse.{field}
use Rattle.image_write_parts.proofs.writer.Writer.number.Given as goal

-- what is left of the number goes from the writer's place on
abbrev pub invariant-loop : goal.invariant-loop
invariant-loop l =
    let s = l.initial.self in
    ((l.self.at ≡ s.at + l.counter) × (sets s.out.now s.at (field l.width l.n) ≡ sets l.self.out.now l.self.at (field (l.width - l.counter) l.rest)))
    × ((l.self.id ≡ s.id) × (l.self.out.ghost_name ≡ s.out.ghost_name))
