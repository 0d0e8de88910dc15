-- `linearize` of a Create meets its contract. Assumes nothing.
use Prim.Native.Nat.{◌+◌, ◌≤◌}
use mathlib.Core.Path.{◌≡◌, refl}
use native.Mathlib.Omega.{arith}
use Rattle.syntax.specs.Arrays.{context_of, set_of}
use Rattle.syntax.proofs.Counts.{context-count}
use Rattle.image_read_parts.specs.Recorded.{record_in}
use Rattle.model.proofs.Widths.{unless-length}
use Rattle.pass_step.proofs.StepLaws.{kept-room}
use Rattle.pass_step.proofs.FreshLaws.{fresh-count}
use Rattle.pass_step.proofs.OpenLaws.{held-count, ids-count}
use Rattle.pass_step.proofs.WriteLaws.{recorded, keeps_drawn}
use Rattle.pass_statement_create.proofs.CreateLaws.{respelled-few, create-steps}
use Rattle.pass_statement_create.proofs.create.linearize.Goals as goal
use Rattle.pass_statement_create.proofs.create.linearize.Goals.{After-filter_by_set-context_next, After-freshen_unless-freshened}

-- how many entries the next has
entries_few : (c : After-filter_by_set-context_next) → c.filter_by_set-context_next.result.len + 1 ≤ 64
entries_few c = kept-room c.requires.1.0 c.args.free_vars.next c.filter_by_set-context_next.ensures

-- as many names as entries
names_count : (c : After-freshen_unless-freshened) → c.freshen_unless-freshened.result.context.len ≡ c.filter_by_set-context_next.result.len
names_count c =
    let n = c.context-next in
    let a = c.args in
    omega (
      arith,
      c.freshen_unless-freshened.ensures.holds.count,
      unless-length a.opened.now.right (context_of n.result) (set_of c.ids.result) a.output.now.max_id,
      context-count n.result,
      held-count c.filter_by_set-context_next.result n.ensures,
    )

pub freshen_unless-freshened-requires : goal.freshen_unless-freshened-requires
freshen_unless-freshened-requires c =
    let captured = c.args.opened.now.context in
    (omega (arith, ids-count captured c.ids.ensures, captured.fits), c.requires.1.1.1.max_id)

pub arrange-requires : goal.arrange-requires
arrange-requires c = (fresh-count _ c.context-next.result _ _ c.freshen_unless-freshened.ensures, c.requires.1.1.1)

pub put_create-requires : goal.put_create-requires
put_create-requires c =
    omega (arith, c.requires.1.1.1.at, c.arrange.ensures.0.near)

pub renamed-requires : goal.renamed-requires
renamed-requires c = names_count (goal.at.renamed-requires c).After-freshen_unless-freshened

pub with-requires : goal.with-requires
with-requires c =
    let few = respelled-few c.args.opened.now.right c.filter_by_set-context_next.result c.renamed.result _ c.renamed.ensures in
    (omega (arith, few, entries_few (goal.at.with-requires c).After-filter_by_set-context_next), omega (arith, c.requires.1.0.places))

pub returns : goal.returns
returns c =
    let l = c.create-statement in
    let a = c.args in
    let k = c.arrange.ensures in
    let z = recorded _ k.1 c.put_create.ensures c.note.ensures in (
      create-steps {record' = record_in a.source.now.node} l.result.var l.result.ty _ l.result.clauses l.ensures c.requires.1.1.0 c.filter_by_set-context_next.ensures c.context-next.ensures c.context.ensures
          c.ids.ensures c.freshen_unless-freshened.ensures k.0 z.puts z.noted c.renamed.ensures c.with.ensures.0 c.with.ensures.1 refl,
      keeps_drawn z.keeps,
    )
