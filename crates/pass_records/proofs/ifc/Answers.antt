use Rattle.std.specs.Prelude.{Ok}
use mathlib.Core.Path.{◌≡◌, sym, ap, ◌∙◌}
use native.Mathlib.Omega.{arith}
use Rattle.image_spec.specs.Fields.{sort_code_lem}
use Rattle.syntax.specs.Codes.{sorts}
use Rattle.image_spec.specs.Records.{ifc}
use Rattle.image_spec.proofs.FieldLaws.{sort_exact}
use Rattle.image_read_parts.specs.Indexed.{record_of}
use Rattle.image_read_parts.proofs.Indexing.{at-kind}
use Rattle.image_read_nodes.specs.Nodes.{second_of}
use Rattle.pass_records.proofs.FieldPlaces.{code-decodes, IfCThere, ifc-there}
use Rattle.pass_records.proofs.ifc.Goals as goal
use Rattle.pass_records.proofs.ifc.Goals.{After-offset-start, After-try_from}

-- where the parts stand
there : (c : After-offset-start) → let f = c.fields-fields.result in let r = record_of c.args.node.now.image c.args.node.now.index in IfCThere f.id f.bytes.now c.offset-start.result r
there c = rw (c.fields-fields.ensures.id, c.fields-fields.ensures.bytes) (ifc-there _ _ _ _ (at-kind c.args.node.now c.requires).kind c.offset-start.ensures)

-- the byte is the code of what stands there
coded : (c : After-try_from) → let f = c.fields-fields.result in let r = record_of c.args.node.now.image c.args.node.now.index in (t : IfCThere f.id f.bytes.now c.offset-start.result r) → c.try_from.result ≡ Ok t.sort
coded c t = code-decodes sort_code_lem sorts t.sort c.try_from.result sort_exact c.try_from.ensures t.sort-at

pub overflow_add-start : goal.overflow_add-start
overflow_add-start c = omega (arith, (there (goal.at.overflow_add-start c).After-offset-start).inside)

pub bounds-fields-start : goal.bounds-fields-start
bounds-fields-start c = omega (arith, (there (goal.at.bounds-fields-start c).After-offset-start).inside)

pub overflow_add-start-2 : goal.overflow_add-start-2
overflow_add-start-2 c = omega (arith, (there (goal.at.overflow_add-start-2 c).After-offset-start).inside)

pub identifier_at-fst-requires : goal.identifier_at-fst-requires
identifier_at-fst-requires c = record { width = rw c.fields-fields.ensures.id c.args.node.now.image.ready.id.1; inside = omega (arith, (there (goal.at.identifier_at-fst-requires c).After-offset-start).inside) }

pub unwrap-sort-requires : goal.unwrap-sort-requires
unwrap-sort-requires c = rw (coded (goal.at.unwrap-sort-requires c).After-try_from (there (goal.at.unwrap-sort-requires c).After-offset-start))

pub returns : goal.returns
returns c =
    let t = there (goal.at.returns c).After-offset-start in
    let e = coded (goal.at.returns c).After-try_from t in
    let u = c.unwrap-sort.ensures in
    let q : c.unwrap-sort.result ≡ t.sort = cc (e, u) in
    let f = c.identifier_at-fst.ensures.is _ t.fst-at in
    let j = c.second-snd.ensures ∙ ap second_of t.is in
    t.is ∙ sym (λ i. ifc (q i) (f i) (j i))
