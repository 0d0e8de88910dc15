use native.Mathlib.Omega.{arith}
use Rattle.image_spec.proofs.FieldLaws.{field-length}
use Rattle.image_write_parts.proofs.WriterLaws.{wrote_then}
use Rattle.image_write_directory.proofs.directory.put_header.Goals as goal

pub number-requires-4 : goal.number-requires-4
number-requires-4 c = omega (arith, field-length c.args.layout.id c.args.max_id)

pub returns : goal.returns
returns c = wrote_then c.number.ensures (wrote_then c.number-2.ensures (wrote_then c.number-3.ensures c.number-4.ensures))
