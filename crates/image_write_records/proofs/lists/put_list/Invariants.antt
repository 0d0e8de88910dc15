use mathlib.Core.Path.{◌≡◌}
use Rattle.syntax.specs.Arrays.{context_of}
use Rattle.image_spec.specs.Fields.{binding_bytes}
use Rattle.image_write_parts.proofs.Writing.{Written}
use Rattle.image_write_records.proofs.lists.put_list.Given as goal

-- as many bindings as the loop has seen stand behind the count
abbrev pub invariant-loop-b : goal.invariant-loop-b
invariant-loop-b l =
    let s = l.initial.writer in
    Written (binding_bytes s.id) 22 (context_of l.fn.context) s.out.now s.at l.writer.out.now l.writer.at l.b-index
    × ((l.writer.id ≡ s.id) × (l.writer.out.ghost_name ≡ s.out.ghost_name))
