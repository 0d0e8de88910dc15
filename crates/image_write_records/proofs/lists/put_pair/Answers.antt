-- `put_pair` meets its contract. Assumes nothing.
use Prim.Native.Nat.{ℕ}
use mathlib.Core.Path.{ap}
use native.Mathlib.Omega.{arith}
use Rattle.image_spec.specs.Fields.{identifier_bytes, binding_bytes}
use Rattle.image_spec.proofs.FieldLaws.{binding-length}
use Rattle.image_write_parts.proofs.WriterLaws.{wrote_as, wrote_next}
use Rattle.image_write_records.proofs.Writing.{stored_bytes}
use Rattle.image_write_records.proofs.lists.put_pair.Goals as goal

pub identifier-requires : goal.identifier-requires
identifier-requires c =
    let w = c.args.writer.now in
    omega (arith, w.narrow, binding-length w.id c.from-p.result.target)

pub returns : goal.returns
returns c =
    let w = c.args.writer.now in
    let p = c.from-p in
    wrote_as (ap (stored_bytes w.id) p.ensures)
    (wrote_next {xs = binding_bytes w.id p.result.target} (λ (k : ℕ). identifier_bytes k p.result.source) c.binding.ensures c.identifier.ensures)
