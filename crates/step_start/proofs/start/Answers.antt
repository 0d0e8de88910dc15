-- `start` meets its contract. Assumes nothing.
use mathlib.Core.List.{[]}
use mathlib.Core.Path.{◌≡◌, ap, ◌∙◌}
use Rattle.std.proofs.Common.{rules, Result, Err}
use Rattle.image_spec.specs.Reading.{Reading}
use Rattle.step_spec.specs.Located.{Machine}
use Rattle.step_spec.specs.Calls.{starting, start_call}
use Rattle.step_answer_spec.specs.declared.Shown.{Shown}
use Rattle.step_answer_spec.specs.declared.Failure.{Failure}
use Rattle.step_answer_spec.specs.declared.Failure.TheVariants.{Refused}
use Rattle.step_answer_spec.specs.Saying.{result_of}
use Rattle.step_answer_spec.proofs.AnswerLaws.{accepted, answers-accepted, answers-refused}
use Rattle.step_start.proofs.start.Goals as goal

pub start_on-requires : goal.start_on-requires
start_on-requires c = accepted c.requires c.in_ok-opened.ensures

pub returns-in_err-opened : goal.returns-in_err-opened
unfolding start_call
returns-in_err-opened c =
    let a = c.args in
    let e : c.from_residual.result ≡ Err (Refused c.in_err-opened.field-0.0) = search rules in
    ap (λ (r : Result Shown Failure). result_of r a.store.now []) e
    ∙ answers-refused c.requires (λ (M : Machine) (r : Reading). starting M r a.definition a.values.now a.store.now) c.in_err-opened.ensures

pub returns : goal.returns
unfolding start_call
returns c =
    answers-accepted c.requires (λ (M : Machine) (r : Reading). starting M r c.args.definition c.args.values.now c.args.store.now) c.in_ok-opened.ensures c.start_on.ensures.starts
