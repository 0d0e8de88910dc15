use mathlib.Core.Path.{◌≡◌}
use Rattle.image_write_directory.proofs.DirectoryLaws.{DirectoryLeft}
use Rattle.image_write_directory.proofs.directory.put_directory.Given as goal

abbrev pub invariant-loop-size : goal.invariant-loop-size
invariant-loop-size l =
    let s = l.initial.writer in
    DirectoryLeft l.width l.lengths s.out.now s.at l.start l.writer.out.now l.place l.writer.at l.size-index
    × ((l.writer.id ≡ s.id) × (l.writer.out.ghost_name ≡ s.out.ghost_name))
