use Prim.Native.Nat.{◌+◌}
use mathlib.Core.Option.{none}
use mathlib.Core.Path.{sym, ◌∙◌}
use native.Mathlib.Omega.{arith}
use Rattle.image_spec.specs.Records.{create}
use Rattle.image_read_parts.specs.Indexed.{record_of}
use Rattle.image_read_parts.proofs.Indexing.{at-kind}
use Rattle.pass_records.proofs.FieldPlaces.{HeadThere, create-there}
use Rattle.pass_records.proofs.create.Goals as goal
use Rattle.pass_records.proofs.create.Goals.{After-offset-start}

-- where the parts stand
there : (c : After-offset-start) → let f = c.fields-fields.result in let r = record_of c.args.node.now.image c.args.node.now.index in HeadThere f.id f.bytes.now c.offset-start.result r (λ v t n. create v t none n) (7 + (f.id + f.id))
there c = rw (c.fields-fields.ensures.id, c.fields-fields.ensures.bytes) (create-there _ _ _ _ (at-kind c.args.node.now c.requires.0).kind c.requires.1 c.offset-start.ensures)

pub overflow_add-start : goal.overflow_add-start
overflow_add-start c = omega (arith, (there (goal.at.overflow_add-start c).After-offset-start).inside)

pub identifier_at-var-requires : goal.identifier_at-var-requires
identifier_at-var-requires c = record { width = rw c.fields-fields.ensures.id c.args.node.now.image.ready.id.1; inside = omega (arith, (there (goal.at.identifier_at-var-requires c).After-offset-start).inside) }

pub overflow_add-start-2 : goal.overflow_add-start-2
overflow_add-start-2 c = omega (arith, (there (goal.at.overflow_add-start-2 c).After-offset-start).inside)

pub type_at-ty-requires : goal.type_at-ty-requires
type_at-ty-requires c = record { width = rw c.fields-fields.ensures.id c.args.node.now.image.ready.id.1; inside = omega (arith, (there (goal.at.type_at-ty-requires c).After-offset-start).inside) }

pub overflow_add-clauses-3 : goal.overflow_add-clauses-3
overflow_add-clauses-3 c = omega (arith, (there (goal.at.overflow_add-clauses-3 c).After-offset-start).inside)

pub bounds-fields-start : goal.bounds-fields-start
bounds-fields-start c = omega (arith, (there (goal.at.bounds-fields-start c).After-offset-start).inside)

pub returns : goal.returns
returns c =
    let t = there (goal.at.returns c).After-offset-start in
    let v = c.identifier_at-var.ensures.is _ t.var-at in
    let y = c.type_at-ty.ensures.is _ t.ty_at in
    t.is ∙ sym (λ i. create (v i) (y i) none (t.clauses-at i))
