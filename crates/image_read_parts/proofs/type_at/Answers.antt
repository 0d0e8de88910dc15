use Rattle.image_read_parts.proofs.StandingLaws.{type_i64, type_decl}
use Rattle.image_read_parts.proofs.type_at.Goals as goal

pub returns-then-fields-at-eq0 : goal.returns-then-fields-at-eq0
returns-then-fields-at-eq0 c = type_i64 c.args.fields.now.id c.if-fields-at-eq0.true

pub returns : goal.returns
returns c = type_decl c.args.fields.now.id c.if-fields-at-eq0.false c.identifier_at-x.ensures
