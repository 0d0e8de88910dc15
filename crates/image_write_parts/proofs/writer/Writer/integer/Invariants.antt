use Prim.Native.Nat.{◌+◌}
use mathlib.Core.Path.{◌≡◌}
use lib.ListN.{length, drop}
use lib.Seq.{sets}
use Rattle.image_write_parts.proofs.writer.Writer.integer.Given as goal

-- what is left of the bytes goes from the writer's place on
abbrev pub invariant-loop-b : goal.invariant-loop-b
invariant-loop-b l =
    let s = l.initial.self in
    ((l.self.at ≡ s.at + l.b-index) × (sets s.out.now s.at l.b-items ≡ sets l.self.out.now l.self.at (drop l.b-index l.b-items)))
    × ((l.self.id ≡ s.id) × (l.self.out.ghost_name ≡ s.out.ghost_name))
