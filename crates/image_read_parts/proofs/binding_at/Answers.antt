use Rattle.syntax.specs.declared.context.Chirality.TheVariants.{Ext}
use Rattle.syntax.specs.Codes.{chiralities}
use Rattle.image_read_parts.proofs.StandingLaws.{binding-reads, decoded_or}
use Rattle.image_read_parts.proofs.binding_at.Goals as goal

pub returns : goal.returns
returns c =
    let chi = rw (← c.unwrap_or-chi.ensures) at (decoded_or chiralities _ c.try_from.result Ext c.try_from.ensures) in
    binding-reads c.args.fields.now.id c.identifier_at-var.ensures chi c.type_at-ty.ensures
