use Rattle.std.proofs.Common.{◌≡◌, ◌-◌, arith, sym, ap, ◌∙◌}
use Rattle.image_spec.specs.Parse.{code, zeros}
use Rattle.image_fields.specs.Found.{stop}
use Rattle.image_fields.proofs.Stops.{stop-zeros, stop_none, stop-within, turn-goes, turn-stops}
use Rattle.image_fields.proofs.fields.Fields.skip_zeros.Goals as goal

pub returns-in_err-here : goal.returns-in_err-here
returns-in_err-here c =
    let s = c.args.self.now.bytes.now in
    let l = c.loop in
    cc (turn-stops (λ n. stop (zeros n) s) (stop (code 0) s) (λ n. stop-zeros n s) _ c.args.n l.counter l.here (omega arith) l.invariant.1 (sym c.skip_code.ensures ∙ c.in_err-here.was), c.from_residual.ensures)

pub loop-preserved : goal.loop-preserved
loop-preserved c =
    let s = c.args.self.now.bytes.now in
    let l = c.loop in
    let e = sym c.skip_code.ensures ∙ c.in_ok-here.was in (
      stop-within (code 0) s l.here _ e,
      turn-goes (λ n. stop (zeros n) s) (stop (code 0) s) (λ n. stop-zeros n s) _ c.args.n l.counter l.here _ (omega arith) l.invariant.1 e,
    )

pub returns : goal.returns
returns c =
    let s = c.args.self.now.bytes.now in
    let l = c.loop in
    let z : c.args.n - l.counter ≡ 0 = omega arith in
    sym (l.invariant.1 ∙ (ap (λ n. stop (zeros n) s l.here) z ∙ stop_none tt s l.here l.invariant.0))
