use Rattle.std.proofs.Common.{◌≡◌, ◌-◌, arith, sym, ap, ◌∙◌, [], Some, None, option_and_then}
use Rattle.image_spec.specs.Parse.{times}
use Rattle.image_spec.specs.Shape.{stmt, definition_head, one_def, max_depth}
use Rattle.image_fields.specs.Found.{stop}
use Rattle.image_fields.proofs.Stops.{stop_none, stop-within, turn-goes, turn-stops}
use Rattle.image_directory.specs.Slots.{records_in}
use Rattle.image_shape.proofs.Steps.{definition-more}
use Rattle.image_shape.proofs.skip_definitions.Goals as goal

pub returns-in_err-body : goal.returns-in_err-body
returns-in_err-body c =
    let a = c.args in
    let rs = records_in a.image.now.frame a.image.now.bytes.now in
    let l = c.loop in
    let e : option_and_then (stop (stmt max_depth) rs) (stop definition_head rs l.here) ≡ None = ap (option_and_then (stop (stmt max_depth) rs)) (sym c.head.ensures ∙ c.in_err-body.was) in
    cc (
      turn-stops (λ n. stop (times n one_def) rs) (λ at. option_and_then (stop (stmt max_depth) rs) (stop definition_head rs at)) (λ n. definition-more n rs) _
          a.n l.counter l.here (omega arith) l.invariant.1 e,
      c.from_residual.ensures,
    )

pub returns-in_err-here : goal.returns-in_err-here
returns-in_err-here c =
    let a = c.args in
    let rs = records_in a.image.now.frame a.image.now.bytes.now in
    let l = c.loop in
    let e : option_and_then (stop (stmt max_depth) rs) (stop definition_head rs l.here) ≡ None =
    ap (option_and_then (stop (stmt max_depth) rs)) (sym c.head.ensures ∙ c.in_ok-body.was) ∙ (sym c.statement.ensures ∙ c.in_err-here.was) in
    cc (
      turn-stops (λ n. stop (times n one_def) rs) (λ at. option_and_then (stop (stmt max_depth) rs) (stop definition_head rs at)) (λ n. definition-more n rs) _
          a.n l.counter l.here (omega arith) l.invariant.1 e,
      c.from_residual-in_err-here.ensures,
    )

pub loop-preserved : goal.loop-preserved
loop-preserved c =
    let a = c.args in
    let rs = records_in a.image.now.frame a.image.now.bytes.now in
    let l = c.loop in
    let s = sym c.statement.ensures ∙ c.in_ok-here.was in
    let e : option_and_then (stop (stmt max_depth) rs) (stop definition_head rs l.here) ≡ Some c.in_ok-here.here =
    ap (option_and_then (stop (stmt max_depth) rs)) (sym c.head.ensures ∙ c.in_ok-body.was) ∙ s in (
      stop-within (stmt max_depth) rs _ _ s,
      turn-goes (λ n. stop (times n one_def) rs) (λ at. option_and_then (stop (stmt max_depth) rs) (stop definition_head rs at)) (λ n. definition-more n rs) _
          a.n l.counter l.here _ (omega arith) l.invariant.1 e,
    )

pub returns : goal.returns
returns c =
    let a = c.args in
    let rs = records_in a.image.now.frame a.image.now.bytes.now in
    let l = c.loop in
    let z : a.n - l.counter ≡ 0 = omega arith in
    sym (l.invariant.1 ∙ (ap (λ n. stop (times n one_def) rs l.here) z ∙ stop_none [] rs l.here l.invariant.0))
