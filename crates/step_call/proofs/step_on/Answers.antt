-- `step_on` meets its contract. Assumes nothing.
use Prim.Native.Nat.{◌^◌, ◌<◌}
use native.Mathlib.Omega.{arith}
use lib.ListN.{length}
use Rattle.step_call.proofs.OnLaws.{carried, none_steps, opened-holds, forged_steps, opened-lives, ran-steps}
use borrow.Author.Rules.{rules}
use mathlib.Core.Path.{◌≡◌}
use Rattle.std.specs.Prelude.{Err}
use Rattle.step_rule.specs.Rules.{machine_for}
use Rattle.step_answer_spec.specs.declared.Failure.TheVariants.{NoState}
use Rattle.step_call.proofs.step_on.Goals as goal
use Rattle.step_call.proofs.step_on.Goals.{Start}

-- a slice has fewer than 2 ^ 64 bytes
short : (s : Start) → length s.args.store.now < 2 ^ 64
short s = omega (arith, s.well_formed)

pub returns-in_err-header : goal.returns-in_err-header
returns-in_err-header c =
    let a = c.args in
    let e : c.from_residual.result ≡ Err NoState = search rules in
    rw e (record { steps = none_steps c.open_store.ensures (search rules) (machine_for a.machine) a.steps a.events.now })

pub invariant_of-state : goal.invariant_of-state
invariant_of-state c = record {
  holds = (opened-holds c.open_store.ensures (search rules) c.args.opened.now.image.ready c.requires).1;
}

pub is_forged-requires : goal.is_forged-requires
is_forged-requires c =
    (opened-holds c.open_store.ensures {h = c.in_ok-header.header} (search rules) c.args.opened.now.image.ready c.requires).0

pub returns-then-is_forged : goal.returns-then-is_forged
returns-then-is_forged c =
    record { steps = forged_steps c.open_store.ensures (search rules) c.is_forged.ensures c.if-is_forged.true c.args.steps c.args.events.now }

pub run-requires : goal.run-requires
run-requires c = (
  opened-lives c.open_store.ensures (search rules) c.is_forged.ensures c.if-is_forged.false (short (goal.at.run-requires c).Start) c.requires,
  c.is_sure-sure.ensures,
)

pub returns : goal.returns
returns c =
    carried c.run.new.work.store.now c.run.new.work.events.now (search rules) (search rules)
    (record { steps = ran-steps c.open_store.ensures (search rules) c.is_forged.ensures c.if-is_forged.false (short (goal.at.returns c).Start) c.run.ensures.0 c.answer.ensures })
