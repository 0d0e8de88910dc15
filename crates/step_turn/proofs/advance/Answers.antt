-- `advance` meets its contract. Assumes nothing.
use Rattle.std.specs.Prelude.{Err}
use mathlib.Core.Path.{◌≡◌}
use borrow.Author.Rules.{rules}
use Rattle.step_settle.proofs.Reading.{reads-holds, reads-inside}
use Rattle.step_turn.proofs.RestLaws.{ended-rests, stopped-rests, asked-stopped, asked-holds, asked-step}
use Rattle.step_turn.proofs.SureLaws.{asked_sure}
use Rattle.step_turn.proofs.advance.Goals as goal
use Rattle.step_turn.proofs.advance.Goals.{then-work-via-then-work, then-work-via-else-work+then-work-2}

pub returns-then-work : goal.returns-then-work
returns-then-work c = (
  elim c.then-work.branch [
    | then-work-via-then-work w ↦ ended-rests w.if-work.true
    | then-work-via-else-work+then-work-2 w ↦ stopped-rests w.if-work-2.true
  ],
  search rules,
)

pub parts_of-follows-requires : goal.parts_of-follows-requires
parts_of-follows-requires c =
    let p = c.requires in
    let v = p.1.0.living in
    reads-inside v.reads c.args.stepper.now.image.ready v.program

pub statement-requires : goal.statement-requires
statement-requires c =
    let p = c.requires in
    record { record' = c.parts_of-follows.ensures.at; fit = record { holds = reads-holds p.1.0.living.reads; place = p.0 } }

pub returns-in_err-step : goal.returns-in_err-step
returns-in_err-step c = (
  let e : c.from_residual.result ≡ Err c.in_err-step.field-0.0 = search rules in
      rw e (asked-stopped c.if-work.false c.if-work-2.false c.statement.ensures.0 c.in_err-step.was),
  search rules,
)

pub settle-requires : goal.settle-requires
settle-requires c =
    let p = c.requires in
    let h = asked-holds c.if-work.false c.if-work-2.false c.statement.ensures.0 c.in_ok-step.was c.args.stepper.now.image.ready p.1.0 in
    let f = asked_sure c.if-work.false c.if-work-2.false c.statement.ensures.0 c.in_ok-step.was p.1.0 p.1.1 in
    (h.0, (h.1, f))

pub returns : goal.returns
returns c = (asked-step c.if-work.false c.if-work-2.false c.statement.ensures.0 c.in_ok-step.was c.settle.ensures, search rules)
