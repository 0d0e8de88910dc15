-- `step` meets its contract. Assumes nothing.
use mathlib.Core.Path.{◌≡◌, ap, ◌∙◌}
use Rattle.std.proofs.Common.{rules, Result, Err}
use Rattle.image_spec.specs.Reading.{Reading}
use Rattle.step_spec.specs.Located.{Machine}
use Rattle.step_spec.specs.Calls.{stepping, step_call_lem}
use Rattle.step_answer_spec.specs.declared.Shown.{Shown}
use Rattle.step_answer_spec.specs.declared.Failure.{Failure}
use Rattle.step_answer_spec.specs.declared.Failure.TheVariants.{Refused}
use Rattle.step_answer_spec.specs.Saying.{result_of}
use Rattle.step_answer_spec.proofs.AnswerLaws.{accepted, answers-accepted, answers-refused}
use Rattle.step_call.proofs.step.Goals as goal

pub step_on-requires : goal.step_on-requires
step_on-requires c = accepted c.requires c.in_ok-opened.ensures

pub returns-in_err-opened : goal.returns-in_err-opened
unfolding step_call_lem
returns-in_err-opened c =
    let a = c.args in
    let e : c.from_residual.result ≡ Err (Refused c.in_err-opened.field-0.0) = search rules in
    ap (λ (r : Result Shown Failure). result_of r a.store.now a.events.now) e
    ∙ answers-refused c.requires (λ (M : Machine) (r : Reading). stepping M r a.steps a.store.now a.events.now) c.in_err-opened.ensures

pub returns : goal.returns
unfolding step_call_lem
returns c =
    answers-accepted c.requires (λ (M : Machine) (r : Reading). stepping M r c.args.steps c.args.store.now c.args.events.now) c.in_ok-opened.ensures c.step_on.ensures.steps
