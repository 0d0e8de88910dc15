-- `linearize` meets its contract: the mask with the inputs is what the filter keeps by, and the rest is as for a Literal. Assumes nothing.
use Prim.Native.Nat.{◌+◌, ◌≤◌}
use native.Mathlib.Omega.{arith}
use Rattle.pass_entries.specs.Masks.{in_mask}
use Rattle.pass_step.proofs.StepLaws.{kept-room}
use Rattle.pass_step.proofs.RightLaws.{kept-right}
use Rattle.pass_step.proofs.WriteLaws.{recorded}
use Rattle.pass_step.proofs.BindLaws.{binds-steps}
use Rattle.pass_statement_op.proofs.OpLaws.{op-steps}
use Rattle.pass_statement_op.proofs.op.linearize.Goals as goal
use Rattle.pass_statement_op.proofs.op.linearize.Goals.{After-filter_by_set-new_context}

-- what is retained has room for the var
room : (c : After-filter_by_set-new_context) → c.filter_by_set-new_context.result.len + 1 ≤ 64
room c = kept-room c.requires.1.1.0 c.with_places-free_vars.result c.filter_by_set-new_context.ensures

pub with-requires : goal.with-requires
with-requires c = (omega (arith, room (goal.at.with-requires c).After-filter_by_set-new_context), omega (arith, c.requires.1.1.0.places))

pub returns : goal.returns
returns c =
    let kept = c.filter_by_set-new_context.ensures in
    let o = c.op-statement.result in
    let right = kept-right (in_mask c.with_places-free_vars.result) c.args.here.now.context kept in
    let k = c.arrange_kept.ensures in
    let z = recorded _ k.1 c.put_op.ensures c.note.ensures in (
      op-steps o.fst o.op o.snd o.var c.requires.1.0 c.op-statement.ensures c.with_places-free_vars.ensures c.used-fst.ensures c.used-snd.ensures
          (binds-steps _ _ _ _ kept right k.0 z.puts z.noted c.with.ensures.0 c.with.ensures.1),
      z.keeps,
    )
