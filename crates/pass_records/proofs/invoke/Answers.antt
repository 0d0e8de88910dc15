use Prim.Native.Nat.{◌+◌}
use mathlib.Core.Path.{sym, ap, ◌∙◌}
use native.Mathlib.Omega.{arith}
use Rattle.image_spec.specs.Records.{invoke}
use Rattle.scope_spec.specs.Flat.{small_record_lem}
use Rattle.image_read_parts.specs.Indexed.{record_of}
use Rattle.image_read_parts.proofs.Indexing.{at-kind}
use Rattle.pass_records.proofs.ListPlaces.{list_at, unpacked, TaggedThere, invoke-there}
use Rattle.pass_records.proofs.invoke.Goals as goal
use Rattle.pass_records.proofs.invoke.Goals.{After-offset-start}

-- where the parts stand
there : (c : After-offset-start) → let f = c.fields-fields.result in let r = record_of c.args.node.now.image c.args.node.now.index in
    TaggedThere f.id f.bytes.now c.offset-start.result r (λ v t g Γ. invoke v g t Γ) (5 + (f.id + f.id)) (3 + f.id)
there c = rw (c.fields-fields.ensures.id, c.fields-fields.ensures.bytes) (invoke-there _ _ _ _ (at-kind c.args.node.now c.requires.0).kind c.offset-start.ensures)

pub overflow_add-start : goal.overflow_add-start
overflow_add-start c = omega (arith, (there (goal.at.overflow_add-start c).After-offset-start).inside)

pub identifier_at-var-requires : goal.identifier_at-var-requires
identifier_at-var-requires c = record { width = rw c.fields-fields.ensures.id c.args.node.now.image.ready.id.1; inside = omega (arith, (there (goal.at.identifier_at-var-requires c).After-offset-start).inside) }

pub overflow_add-start-2 : goal.overflow_add-start-2
overflow_add-start-2 c = omega (arith, (there (goal.at.overflow_add-start-2 c).After-offset-start).inside)

pub identifier_at-tag-requires : goal.identifier_at-tag-requires
identifier_at-tag-requires c = record { width = rw c.fields-fields.ensures.id c.args.node.now.image.ready.id.1; inside = omega (arith, (there (goal.at.identifier_at-tag-requires c).After-offset-start).inside) }

pub overflow_add-start-3 : goal.overflow_add-start-3
overflow_add-start-3 c = omega (arith, (there (goal.at.overflow_add-start-3 c).After-offset-start).inside)

pub type_at-ty-requires : goal.type_at-ty-requires
type_at-ty-requires c = record { width = rw c.fields-fields.ensures.id c.args.node.now.image.ready.id.1; inside = omega (arith, (there (goal.at.type_at-ty-requires c).After-offset-start).inside) }

pub overflow_add-start-4 : goal.overflow_add-start-4
overflow_add-start-4 c = omega (arith, (there (goal.at.overflow_add-start-4 c).After-offset-start).inside)

pub list-args-requires : goal.list-args-requires
list-args-requires c =
    let t = there (goal.at.list-args-requires c).After-offset-start in
    list_at (rw c.fields-fields.ensures.id c.args.node.now.image.ready.id.1) t.args_at (sym (ap small_record_lem t.is) ∙ c.requires.1)

pub returns : goal.returns
returns c =
    let t = there (goal.at.returns c).After-offset-start in
    let h = c.list-args.ensures.is t.args t.args_at in
    let v = c.identifier_at-var.ensures.is _ t.var-at in
    let y = c.type_at-ty.ensures.is _ t.ty_at in
    let g = c.identifier_at-tag.ensures.is _ t.tag_at in
    unpacked h (t.is ∙ sym (λ i. invoke (v i) (g i) (y i) (h.list i)))
