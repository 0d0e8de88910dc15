use mathlib.Core.Path.{sym, ap, ◌∙◌}
use native.Mathlib.Omega.{arith}
use lib.IntN.{ℤ}
use mir.Syntax.{w64}
use mir.Val.{of_z, to_z}
use mir.ValLaws.{to_z-of_z}
use Rattle.image_spec.specs.Records.{literal}
use Rattle.image_read_parts.specs.Indexed.{record_of}
use Rattle.image_read_parts.proofs.Indexing.{at-kind}
use Rattle.pass_records.proofs.FieldPlaces.{LiteralThere, literal-there}
use Rattle.pass_records.proofs.literal.Goals as goal
use Rattle.pass_records.proofs.literal.Goals.{After-offset-start}

-- where the parts stand
there : (c : After-offset-start) → let f = c.fields-fields.result in let r = record_of c.args.node.now.image c.args.node.now.index in LiteralThere f.id f.bytes.now c.offset-start.result r
there c = rw (c.fields-fields.ensures.id, c.fields-fields.ensures.bytes) (literal-there _ _ _ _ (at-kind c.args.node.now c.requires).kind c.offset-start.ensures)

pub overflow_add-start : goal.overflow_add-start
overflow_add-start c = omega (arith, (there (goal.at.overflow_add-start c).After-offset-start).inside)

pub integer_at-lit-requires : goal.integer_at-lit-requires
integer_at-lit-requires c = omega (arith, (there (goal.at.integer_at-lit-requires c).After-offset-start).inside)

pub overflow_add-start-2 : goal.overflow_add-start-2
overflow_add-start-2 c = omega (arith, (there (goal.at.overflow_add-start-2 c).After-offset-start).inside)

pub identifier_at-var-requires : goal.identifier_at-var-requires
identifier_at-var-requires c = record { width = rw c.fields-fields.ensures.id c.args.node.now.image.ready.id.1; inside = omega (arith, (there (goal.at.identifier_at-var-requires c).After-offset-start).inside) }

pub returns : goal.returns
returns c =
    let t = there (goal.at.returns c).After-offset-start in
    let z = ap (λ (x : ℤ). to_z w64 (of_z w64 x)) (c.integer_at-lit.ensures.is _ t.lit-at) ∙ to_z-of_z w64 t.lit t.lit-at.fits in
    let v = c.identifier_at-var.ensures.is _ t.var-at in
    t.is ∙ sym (λ i. literal (z i) (v i))
