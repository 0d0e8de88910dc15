-- `skip_content_of` meets its contract. Assumes nothing.
use Rattle.std.proofs.Common.{sym}
use Rattle.image_kinds.proofs.RecordStops.{content-none}
use Rattle.image_kinds.proofs.form.skip_content_of.Goals as goal

pub returns-in-Err : goal.returns-in-Err
returns-in-Err c = let f = c.args.fields.now in sym (content-none f.id c.args.code f.bytes.now 1 c.in-Err.ensures.1)
