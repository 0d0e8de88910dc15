use Rattle.std.specs.Prelude.{Ok}
use mathlib.Core.Path.{◌≡◌, sym, ◌∙◌}
use native.Mathlib.Omega.{arith}
use Rattle.image_spec.specs.Fields.{operator_code_lem}
use Rattle.syntax.specs.Codes.{operators}
use Rattle.image_spec.specs.Records.{op}
use Rattle.image_spec.proofs.FieldLaws.{operator_exact}
use Rattle.image_read_parts.specs.Indexed.{record_of}
use Rattle.image_read_parts.proofs.Indexing.{at-kind}
use Rattle.pass_records.proofs.FieldPlaces.{code-decodes, OpThere, op-there}
use Rattle.pass_records.proofs.op.Goals as goal
use Rattle.pass_records.proofs.op.Goals.{After-offset-start, After-try_from}

-- where the parts stand
there : (c : After-offset-start) → let f = c.fields-fields.result in let r = record_of c.args.node.now.image c.args.node.now.index in OpThere f.id f.bytes.now c.offset-start.result r
there c = rw (c.fields-fields.ensures.id, c.fields-fields.ensures.bytes) (op-there _ _ _ _ (at-kind c.args.node.now c.requires).kind c.offset-start.ensures)

-- the byte is the code of what stands there
coded : (c : After-try_from) → let f = c.fields-fields.result in let r = record_of c.args.node.now.image c.args.node.now.index in (t : OpThere f.id f.bytes.now c.offset-start.result r) → c.try_from.result ≡ Ok t.operator
coded c t = code-decodes operator_code_lem operators t.operator c.try_from.result operator_exact c.try_from.ensures t.operator-at

pub overflow_add-start : goal.overflow_add-start
overflow_add-start c = omega (arith, (there (goal.at.overflow_add-start c).After-offset-start).inside)

pub identifier_at-fst-requires : goal.identifier_at-fst-requires
identifier_at-fst-requires c = record { width = rw c.fields-fields.ensures.id c.args.node.now.image.ready.id.1; inside = omega (arith, (there (goal.at.identifier_at-fst-requires c).After-offset-start).inside) }

pub overflow_add-start-2 : goal.overflow_add-start-2
overflow_add-start-2 c = omega (arith, (there (goal.at.overflow_add-start-2 c).After-offset-start).inside)

pub bounds-fields-start : goal.bounds-fields-start
bounds-fields-start c = omega (arith, (there (goal.at.bounds-fields-start c).After-offset-start).inside)

pub overflow_add-start-3 : goal.overflow_add-start-3
overflow_add-start-3 c = omega (arith, (there (goal.at.overflow_add-start-3 c).After-offset-start).inside)

pub identifier_at-snd-requires : goal.identifier_at-snd-requires
identifier_at-snd-requires c = record { width = rw c.fields-fields.ensures.id c.args.node.now.image.ready.id.1; inside = omega (arith, (there (goal.at.identifier_at-snd-requires c).After-offset-start).inside) }

pub overflow_add-start-4 : goal.overflow_add-start-4
overflow_add-start-4 c = omega (arith, (there (goal.at.overflow_add-start-4 c).After-offset-start).inside)

pub identifier_at-var-requires : goal.identifier_at-var-requires
identifier_at-var-requires c = record { width = rw c.fields-fields.ensures.id c.args.node.now.image.ready.id.1; inside = omega (arith, (there (goal.at.identifier_at-var-requires c).After-offset-start).inside) }

pub unwrap-op-requires : goal.unwrap-op-requires
unwrap-op-requires c = rw (coded (goal.at.unwrap-op-requires c).After-try_from (there (goal.at.unwrap-op-requires c).After-offset-start))

pub returns : goal.returns
returns c =
    let t = there (goal.at.returns c).After-offset-start in
    let f = c.identifier_at-fst.ensures.is _ t.fst-at in
    let e = coded (goal.at.returns c).After-try_from t in
    let u = c.unwrap-op.ensures in
    let a : c.unwrap-op.result ≡ t.operator = cc (e, u) in
    let j = c.identifier_at-snd.ensures.is _ t.snd-at in
    let v = c.identifier_at-var.ensures.is _ t.var-at in
    t.is ∙ sym (λ i. op (f i) (a i) (j i) (v i))
