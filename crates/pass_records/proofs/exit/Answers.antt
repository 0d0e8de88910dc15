use mathlib.Core.Path.{sym, ap, ◌∙◌}
use Rattle.image_spec.specs.Records.{exit}
use Rattle.image_read_parts.proofs.Indexing.{at-kind}
use Rattle.pass_records.proofs.ListPlaces.{at-made}
use Rattle.pass_records.proofs.exit.Goals as goal

pub returns : goal.returns
returns c = at-made 13 (at-kind c.args.node.now c.requires) ∙ sym (ap exit c.first.ensures)
