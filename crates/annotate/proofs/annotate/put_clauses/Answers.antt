use mathlib.Core.Path.{sym, ap, ◌∙◌, subst}
use mathlib.Core.List.{List}
use Prim.Native.Nat.{ℕ}
use native.Mathlib.Omega.{arith}
use lib.ListN.{length}
use Rattle.syntax.specs.declared.names.VarId.{VarId}
use Rattle.image_directory.specs.Images.{records_of}
use Rattle.image_places_spec.specs.Places.{clauses_at}
use Rattle.image_write_parts.proofs.WriterLaws.{wrote_as}
use Rattle.scope_spec.specs.Calls.{set_bytes}
use Rattle.scope_spec.specs.Rooms.{RoomForClauses}
use Rattle.scope_spec.specs.Marking.{mark_clauses, marked_from}
use Rattle.annotate.proofs.AnnotateLaws.{row-after}
use Rattle.annotate.proofs.annotate.put_clauses.Goals as goal

pub clauses-next-requires : goal.clauses-next-requires
clauses-next-requires c =
    let a = c.args in
    let h = c.requires in
    let e = c.empty.ensures in
    (h.0, (record { count = e.count ∙ ap length (sym e.list); small = omega (arith, e.count) }, subst (λ (z : List VarId). RoomForClauses z (clauses_at 127 a.n (records_of a.source.now.image) a.i)) (sym e.list) h.1.0))

pub returns : goal.returns
returns c =
    let a = c.args in
    let m = c.clauses-next.ensures in
    let e = c.empty.ensures.list in
    let k = c.clear.ensures in
    let w = a.writer.now in
    record {
      next_is = m.next_is;
      wrote = wrote_as
          (ap (λ (z : List ℕ). set_bytes w.id (marked_from 0 z)) (row-after (mark_clauses (clauses_at 127 a.n (records_of a.source.now.image) a.i)) m.row_is e k))
          c.put_set.ensures;
    }
