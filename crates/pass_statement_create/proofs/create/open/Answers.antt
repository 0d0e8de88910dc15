-- `open` of a Create meets its contract. Assumes nothing.
use Prim.Native.Nat.{◌+◌, ◌*◌, ◌≤◌}
use mathlib.Core.Path.{◌≡◌, sym, ◌∙◌}
use mathlib.Core.List.{◌++◌}
use native.Mathlib.Omega.{arith}
use borrow.Author.Tests.{ne_eqb}
use lib.ListN.{length-append}
use Rattle.syntax.specs.Context.{same_context}
use Rattle.image_read_parts.proofs.Indexing.{at-kind}
use Rattle.pass_work_spec.specs.Work.{bindings}
use Rattle.pass_context.specs.Holding.{work_of}
use Rattle.pass_entries.proofs.MaskLaws.{mask_fewer}
use Rattle.pass_context.proofs.Counts.{work-count}
use Rattle.pass_step.proofs.OpenLaws.{bindings-count, other_length}
use Rattle.pass_statement_create.proofs.CreateLaws.{bindings-most, is_create_lem, create-opens}
use Rattle.pass_statement_create.proofs.create.open.Goals as goal
use Rattle.pass_statement_create.proofs.create.open.Goals.{After-environment-closure_environment, Joined-context-kept, then-context-kept, else-context-kept}

-- how many bytes the list of the environment has
env_most : (c : After-environment-closure_environment) → c.environment-closure_environment.result.len * (6 + (c.args.output.now.writer.id + c.args.output.now.writer.id)) ≤ 1408
env_most c = bindings-most _ c.args.output.now.writer.id c.environment-closure_environment.result.fits (omega (arith, c.args.output.now.writer.narrow))

-- the context is right, by the lengths first
right_is : (c : Joined-context-kept) → c.if-context-kept.right ≡ same_context (bindings (work_of c.args.context.now)) (bindings (work_of c.filter_by_set-context_next.result) ++ bindings (work_of c.environment-closure_environment.result))
right_is c =
    let old = c.args.context.now in
    let next = c.filter_by_set-context_next in
    let env = c.environment-closure_environment in
    let A = bindings (work_of next.result) in
    let B = bindings (work_of env.result) in
    elim c.if-context-kept.branch [
      | then-context-kept w ↦ cc (w.right-is, w.same-right.ensures, w.context.ensures.list, w.context-then-context-kept.ensures.list)
      | else-context-kept w ↦ w.right-is ∙ ne_eqb _ _ w.if-context-kept.false ∙ sym (other_length old (A ++ B) (omega (arith, length-append A B, bindings-count next.result, bindings-count env.result)) w.if-context-kept.false)
    ]

pub environment-closure_environment-requires : goal.environment-closure_environment-requires
environment-closure_environment-requires c =
    let a = c.args in
    omega (arith, c.filter_by_set-context_next.ensures.count, mask_fewer a.free_vars.next (work_of a.context.now), work-count a.context.now)

pub overflow_add-kept : goal.overflow_add-kept
overflow_add-kept c =
    record { fits = omega (arith, c.filter_by_set-context_next.result.fits, c.environment-closure_environment.result.fits) }

pub overflow_mul-own : goal.overflow_mul-own
overflow_mul-own c = record { fits = omega (arith, env_most (goal.at.overflow_mul-own c).After-environment-closure_environment) }

pub overflow_add-own-3 : goal.overflow_add-own-3
overflow_add-own-3 c = record { fits = omega (arith, env_most (goal.at.overflow_add-own-3 c).After-environment-closure_environment) }

pub overflow_add-own-4 : goal.overflow_add-own-4
overflow_add-own-4 c =
    record { fits = omega (arith, env_most (goal.at.overflow_add-own-4 c).After-environment-closure_environment, c.fixed.ensures, c.args.output.now.writer.narrow) }

pub reserve-requires : goal.reserve-requires
reserve-requires c =
    let h = c.requires in
    let env = env_most (goal.at.reserve-requires c).After-environment-closure_environment in
    (omega (arith, c.filter_by_set-context_next.result.fits, c.environment-closure_environment.result.fits), (omega (arith, env, c.fixed.ensures, c.args.output.now.writer.narrow), h.1))

pub returns : goal.returns
returns c =
    let i = is_create_lem _ (at-kind c.args.source.now.node c.requires.0).kind in
    let r = c.reserve.ensures in (
      create-opens i.var i.ty i.environment i.clauses i.is c.filter_by_set-context_next.ensures c.environment-closure_environment.ensures (right_is (goal.at.returns c).Joined-context-kept) c.fixed.ensures r.0,
      r.1,
    )
