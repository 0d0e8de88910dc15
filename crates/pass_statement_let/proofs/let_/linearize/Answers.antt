-- `linearize` of a Let meets its contract. Assumes nothing.
use Prim.Native.Nat.{◌+◌, ◌≤◌}
use mathlib.Core.Path.{◌≡◌, refl, sym, ◌∙◌}
use mathlib.Core.List.{◌++◌}
use native.Mathlib.Omega.{arith}
use borrow.Author.Tests.{ne_eqb}
use lib.ListN.{length, length-append}
use Rattle.syntax.specs.Context.{same_context}
use Rattle.syntax.specs.Arrays.{context_of}
use Rattle.syntax.proofs.Counts.{context-count}
use Rattle.image_read_parts.specs.Recorded.{record_in}
use Rattle.pass_work_spec.specs.Work.{bindings}
use Rattle.pass_context.specs.Holding.{work_of}
use Rattle.pass_step.proofs.StepLaws.{kept-room}
use Rattle.pass_step.proofs.FreshLaws.{fresh-count}
use Rattle.pass_step.proofs.OpenLaws.{bindings-count, ids-count, other_length}
use Rattle.pass_step.proofs.WriteLaws.{recorded, keeps_drawn}
use Rattle.pass_statement_let.proofs.LetLaws.{let_steps}
use Rattle.pass_statement_let.proofs.let_.linearize.Goals as goal
use Rattle.pass_statement_let.proofs.let_.linearize.Goals.{After-filter_by_set-new_context, Joined-here-new_context, then-here-new_context, else-here-new_context}

-- what is retained has room for the var
room : (c : After-filter_by_set-new_context) → c.filter_by_set-new_context.result.len + 1 ≤ 64
room c = kept-room c.requires.1.0 c.args.free_vars_next c.filter_by_set-new_context.ensures

-- the context is compared with what is wanted, unless the counts tell them apart
right_is : (c : Joined-here-new_context) → c.if-here-new_context.right ≡ same_context (bindings (work_of c.args.here.now.context)) (bindings (work_of c.filter_by_set-new_context.result) ++ context_of c.used_all-args.result)
right_is c =
    let A = bindings (work_of c.filter_by_set-new_context.result) in
    let B = context_of c.used_all-args.result in
    let n : length (A ++ B) ≡ c.filter_by_set-new_context.result.len + c.used_all-args.result.len = omega (arith, length-append A B, bindings-count c.filter_by_set-new_context.result, context-count c.used_all-args.result) in
    elim c.if-here-new_context.branch [
      | then-here-new_context w ↦ cc (w.right-is, w.same-right.ensures, w.context.ensures.list)
      | else-here-new_context w ↦ w.right-is ∙ ne_eqb _ _ w.if-here-new_context.false ∙ sym (other_length c.args.here.now.context (A ++ B) n w.if-here-new_context.false)
    ]

pub overflow_add-new_context : goal.overflow_add-new_context
overflow_add-new_context c =
    record { fits = omega (arith, c.filter_by_set-new_context.result.fits, c.used_all-args.result.fits) }

pub freshen_unless-fresh-requires : goal.freshen_unless-fresh-requires
freshen_unless-fresh-requires c =
    let new = c.filter_by_set-new_context.result in
    (omega (arith, ids-count new c.ids.ensures, new.fits), c.requires.1.1.max_id)

pub arrange-requires : goal.arrange-requires
arrange-requires c =
    let h = c.requires in
    (fresh-count _ c.used_all-args.result _ _ c.freshen_unless-fresh.ensures, h.1.1)

pub put_let-requires : goal.put_let-requires
put_let-requires c =
    omega (arith, c.requires.1.1.at, c.arrange.ensures.0.near)

pub with-requires : goal.with-requires
with-requires c = (omega (arith, room (goal.at.with-requires c).After-filter_by_set-new_context), omega (arith, c.requires.1.0.places))

pub returns : goal.returns
returns c =
    let a = c.args in
    let s = c.let_record-statement in
    let l = s.result in
    let e = c.freshen_unless-fresh in
    let k = c.arrange.ensures in
    let z = recorded _ k.1 c.put_let.ensures c.note.ensures in (
      let_steps {record' = record_in a.source.now.node} l.var l.ty l.tag (context_of l.args) (work_of a.here.now.context) a.here.now.in_scope e.result s.ensures.is c.filter_by_set-new_context.ensures
          c.used_all-args.ensures c.ids.ensures (right_is (goal.at.returns c).Joined-here-new_context) e.ensures k.0 z.puts z.noted c.with.ensures.0 c.with.ensures.1 refl,
      keeps_drawn z.keeps,
    )
