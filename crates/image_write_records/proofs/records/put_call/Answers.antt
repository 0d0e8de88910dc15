-- `put_call` meets its contract. Assumes nothing.
use mathlib.Core.List.{◌∷◌}
use native.Mathlib.Omega.{arith}
use Rattle.image_spec.specs.Fields.{identifier_bytes}
use Rattle.image_spec.specs.Records.{record_bytes}
use Rattle.image_spec.proofs.FieldLaws.{identifier-length}
use Rattle.image_write_parts.proofs.WriterLaws.{wrote_then}
use Rattle.image_write_records.proofs.records.put_call.Goals as goal

pub byte-requires : goal.byte-requires
byte-requires c = omega (arith, identifier-length)

pub returns : goal.returns
unfolding record_bytes
returns c =
    let a = c.args in
    wrote_then {xs = 3 ∷ identifier_bytes a.writer.now.id a.label} c.put_named.ensures c.byte.ensures
