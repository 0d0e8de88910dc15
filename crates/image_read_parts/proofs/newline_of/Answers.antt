use Rattle.image_read_parts.proofs.StandingLaws.{newline-code}
use Rattle.image_read_parts.proofs.newline_of.Goals as goal

pub returns : goal.returns
returns c = newline-code c.args.b
