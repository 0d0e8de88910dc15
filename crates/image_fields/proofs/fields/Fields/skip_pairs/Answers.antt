use Rattle.std.proofs.Common.{◌≡◌, ◌-◌, arith, sym, ap, ◌∙◌, [], Some, None}
use Rattle.image_spec.specs.Parse.{times}
use Rattle.image_spec.specs.Fields.{pair}
use Rattle.image_spec.proofs.FieldLaws.{pair_exact}
use Rattle.image_fields.specs.Found.{stop}
use Rattle.image_fields.proofs.Stops.{stop-times, stop_none, stop-within, turn-goes, turn-stops}
use Rattle.image_fields.proofs.FieldStops.{stop-pair}
use Rattle.image_fields.proofs.fields.Fields.skip_pairs.Goals as goal

pub returns-in_err-old : goal.returns-in_err-old
returns-in_err-old c =
    let a = c.args in
    let f = a.self.now in
    let s = f.bytes.now in
    let l = c.loop in
    let e : stop (pair f.id) s l.here ≡ None = rw (stop-pair f.id s l.here, ← c.skip_binding.ensures) (rw c.in_err-old.was) in
    cc (turn-stops (λ n. stop (times n (pair f.id)) s) (stop (pair f.id) s) (λ n. stop-times (pair_exact f.id) n s) _ a.n l.counter l.here (omega arith) l.invariant.1 e, c.from_residual.ensures)

pub returns-in_err-here : goal.returns-in_err-here
returns-in_err-here c =
    let a = c.args in
    let f = a.self.now in
    let s = f.bytes.now in
    let l = c.loop in
    let e : stop (pair f.id) s l.here ≡ None = rw (stop-pair f.id s l.here, ← c.skip_binding.ensures, c.in_ok-old.was, ← c.skip_identifier.ensures) c.in_err-here.was in
    cc (turn-stops (λ n. stop (times n (pair f.id)) s) (stop (pair f.id) s) (λ n. stop-times (pair_exact f.id) n s) _ a.n l.counter l.here (omega arith) l.invariant.1 e, c.from_residual-in_err-here.ensures)

pub loop-preserved : goal.loop-preserved
loop-preserved c =
    let a = c.args in
    let f = a.self.now in
    let s = f.bytes.now in
    let l = c.loop in
    let e : stop (pair f.id) s l.here ≡ Some c.in_ok-here.here = rw (stop-pair f.id s l.here, ← c.skip_binding.ensures, c.in_ok-old.was, ← c.skip_identifier.ensures) c.in_ok-here.was in (
      stop-within (pair f.id) s l.here _ e,
      turn-goes (λ n. stop (times n (pair f.id)) s) (stop (pair f.id) s) (λ n. stop-times (pair_exact f.id) n s) _ a.n l.counter l.here _ (omega arith) l.invariant.1 e,
    )

pub returns : goal.returns
returns c =
    let a = c.args in
    let f = a.self.now in
    let s = f.bytes.now in
    let l = c.loop in
    let z : a.n - l.counter ≡ 0 = omega arith in
    sym (l.invariant.1 ∙ (ap (λ n. stop (times n (pair f.id)) s l.here) z ∙ stop_none [] s l.here l.invariant.0))
