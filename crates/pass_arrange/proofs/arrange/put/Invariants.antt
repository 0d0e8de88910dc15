-- `put` meets its contract: as many pairs as the loop has seen stand behind the kind and the count. Assumes nothing.
use mathlib.Core.Path.{◌≡◌}
use mathlib.Core.List.{map}
use Rattle.syntax_substitution.specs.Pairs.{pair_of}
use Rattle.image_write_parts.proofs.Writing.{Written}
use Rattle.image_write_records.proofs.Writing.{stored_bytes}
use Rattle.pass_arrange.proofs.arrange.put.Given as goal

abbrev pub invariant-loop-pair : goal.invariant-loop-pair
invariant-loop-pair l =
    let s = l.initial.writer in
    let w = l.fn.writer.id in
    Written (stored_bytes w) 32 (map pair_of l.pair-items) s.out.now s.at l.writer.out.now l.writer.at l.pair-index
    × ((l.writer.id ≡ w) × (l.writer.out.ghost_name ≡ s.out.ghost_name))
