use Rattle.image_read_parts.proofs.StandingLaws.{identifier-reads}
use Rattle.image_read_parts.proofs.identifier_at.Goals as goal

pub returns : goal.returns
returns c = identifier-reads c.args.fields.now.id c.number.ensures c.number-2.ensures
