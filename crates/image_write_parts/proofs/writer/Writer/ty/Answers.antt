use Rattle.image_write_parts.proofs.Putting.{zero_type}
use Rattle.image_write_parts.proofs.writer.Writer.ty.Goals as goal

pub returns-in-I64 : goal.returns-in-I64
returns-in-I64 c = rw (c.in-I64.is, ← zero_type c.args.self.now.id) c.number.ensures
