use Rattle.std.proofs.Common.{arith}
use Rattle.std.proofs.lemmas.Grind.{common_steps}
use Rattle.image_fields.proofs.FieldStops.{stop-identifier}
use Rattle.image_fields.proofs.fields.Fields.skip_identifier.Goals as goal

pub returns-in_err-id : goal.returns-in_err-id
returns-in_err-id c = grind (arith, common_steps, stop-identifier)

pub returns : goal.returns
returns c = grind (arith, common_steps, stop-identifier)
