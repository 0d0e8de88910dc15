use Rattle.std.proofs.Common.{◌≡◌, ◌-◌, arith, sym, ap, ◌∙◌, [], Some, None, option_and_then}
use Rattle.image_spec.specs.Parse.{times}
use Rattle.image_spec.specs.Shape.{stmt, clauses, clause_head}
use Rattle.image_spec.proofs.ShapeLaws.{stmt_exact}
use Rattle.image_fields.specs.Found.{stop}
use Rattle.image_fields.proofs.Stops.{stop-times, stop_none, stop-within, turn-goes, turn-stops}
use Rattle.image_directory.specs.Slots.{records_in}
use Rattle.image_shape.proofs.Steps.{clauses-more, stmt_zero, parts-follow, parts-missing, clauses_none}
use Rattle.image_shape.proofs.+skip_bodies_skip_clauses_statement.Goals as goal

pub skip_bodies-returns-in_err-here : goal.skip_bodies-returns-in_err-here
skip_bodies-returns-in_err-here t c =
    let a = c.args in
    let rs = records_in a.image.now.frame a.image.now.bytes.now in
    let l = c.loop in
    let e = sym c.statement.ensures ∙ c.in_err-here.was in
    cc (turn-stops (λ n. stop (times n (stmt a.depth)) rs) (stop (stmt a.depth) rs) (λ n. stop-times (stmt_exact a.depth) n rs) _ a.n l.counter l.here (omega arith) l.invariant.1 e, c.from_residual.ensures)

pub skip_bodies-loop-preserved : goal.skip_bodies-loop-preserved
skip_bodies-loop-preserved t c =
    let a = c.args in
    let rs = records_in a.image.now.frame a.image.now.bytes.now in
    let l = c.loop in
    let e = sym c.statement.ensures ∙ c.in_ok-here.was in (
      stop-within (stmt a.depth) rs l.here _ e,
      turn-goes (λ n. stop (times n (stmt a.depth)) rs) (stop (stmt a.depth) rs) (λ n. stop-times (stmt_exact a.depth) n rs) _ a.n l.counter l.here _ (omega arith) l.invariant.1 e,
    )

pub skip_bodies-returns : goal.skip_bodies-returns
skip_bodies-returns t c =
    let a = c.args in
    let rs = records_in a.image.now.frame a.image.now.bytes.now in
    let l = c.loop in
    let z : a.n - l.counter ≡ 0 = omega arith in
    sym (l.invariant.1 ∙ (ap (λ n. stop (times n (stmt a.depth)) rs l.here) z ∙ stop_none [] rs l.here l.invariant.0))

pub skip_clauses-returns-in_err-body : goal.skip_clauses-returns-in_err-body
skip_clauses-returns-in_err-body t c =
    let a = c.args in
    let rs = records_in a.image.now.frame a.image.now.bytes.now in
    let l = c.loop in
    let e : option_and_then (stop (stmt a.depth) rs) (stop clause_head rs l.here) ≡ None = ap (option_and_then (stop (stmt a.depth) rs)) (sym c.head.ensures ∙ c.in_err-body.was) in
    cc (
      turn-stops (λ n. stop (clauses (stmt a.depth) n) rs) (λ at. option_and_then (stop (stmt a.depth) rs) (stop clause_head rs at)) (clauses-more a.depth (stmt a.depth) (stmt_exact a.depth) rs) _
          a.n l.counter l.here (omega arith) l.invariant.1 e,
      c.from_residual.ensures,
    )

pub skip_clauses-returns-in_err-here : goal.skip_clauses-returns-in_err-here
skip_clauses-returns-in_err-here t c =
    let a = c.args in
    let rs = records_in a.image.now.frame a.image.now.bytes.now in
    let l = c.loop in
    let e : option_and_then (stop (stmt a.depth) rs) (stop clause_head rs l.here) ≡ None =
    ap (option_and_then (stop (stmt a.depth) rs)) (sym c.head.ensures ∙ c.in_ok-body.was) ∙ (sym c.statement.ensures ∙ c.in_err-here.was) in
    cc (
      turn-stops (λ n. stop (clauses (stmt a.depth) n) rs) (λ at. option_and_then (stop (stmt a.depth) rs) (stop clause_head rs at)) (clauses-more a.depth (stmt a.depth) (stmt_exact a.depth) rs) _
          a.n l.counter l.here (omega arith) l.invariant.1 e,
      c.from_residual-in_err-here.ensures,
    )

pub skip_clauses-loop-preserved : goal.skip_clauses-loop-preserved
skip_clauses-loop-preserved t c =
    let a = c.args in
    let rs = records_in a.image.now.frame a.image.now.bytes.now in
    let l = c.loop in
    let s = sym c.statement.ensures ∙ c.in_ok-here.was in
    let e : option_and_then (stop (stmt a.depth) rs) (stop clause_head rs l.here) ≡ Some c.in_ok-here.here =
    ap (option_and_then (stop (stmt a.depth) rs)) (sym c.head.ensures ∙ c.in_ok-body.was) ∙ s in (
      stop-within (stmt a.depth) rs _ _ s,
      turn-goes (λ n. stop (clauses (stmt a.depth) n) rs) (λ at. option_and_then (stop (stmt a.depth) rs) (stop clause_head rs at)) (clauses-more a.depth (stmt a.depth) (stmt_exact a.depth) rs) _
          a.n l.counter l.here _ (omega arith) l.invariant.1 e,
    )

pub skip_clauses-returns : goal.skip_clauses-returns
skip_clauses-returns t c =
    let a = c.args in
    let rs = records_in a.image.now.frame a.image.now.bytes.now in
    let l = c.loop in
    let z : a.n - l.counter ≡ 0 = omega arith in
    sym (l.invariant.1 ∙ (ap (λ n. stop (clauses (stmt a.depth) n) rs l.here) z ∙ clauses_none (stmt a.depth) rs l.here l.invariant.0))

pub statement-returns-then-depth-eq0 : goal.statement-returns-then-depth-eq0
statement-returns-then-depth-eq0 t c = sym (stmt_zero _ _ _ c.if-depth-eq0.true)

pub statement-returns-in_err-parts : goal.statement-returns-in_err-parts
statement-returns-in_err-parts t c =
    let a = c.args in
    cc (parts-missing (records_in a.image.now.frame a.image.now.bytes.now) a.depth a.at (sym c.statement_parts.ensures ∙ c.in_err-parts.was), c.from_residual.ensures)

pub statement-skip_clauses-requires : goal.statement-skip_clauses-requires
statement-skip_clauses-requires t c =
    let a = c.args in
    let h = parts-follow (records_in a.image.now.frame a.image.now.bytes.now) a.depth a.at _ c.if-depth-eq0.false (sym c.statement_parts.ensures ∙ c.in_ok-parts.was) in
    (omega (arith, c.if-depth-eq0.false), h.0)

pub statement-returns-in_err-bodies : goal.statement-returns-in_err-bodies
statement-returns-in_err-bodies t c =
    let a = c.args in
    let h = parts-follow (records_in a.image.now.frame a.image.now.bytes.now) a.depth a.at _ c.if-depth-eq0.false (sym c.statement_parts.ensures ∙ c.in_ok-parts.was) in
    rw (h.1, ← c.skip_clauses.ensures, c.in_err-bodies.was) c.from_residual-in_err-bodies.ensures

pub statement-skip_bodies-requires : goal.statement-skip_bodies-requires
statement-skip_bodies-requires t c =
    let a = c.args in
    let rs = records_in a.image.now.frame a.image.now.bytes.now in
    (omega (arith, c.if-depth-eq0.false), stop-within _ rs _ _ (sym c.skip_clauses.ensures ∙ c.in_ok-bodies.was))

pub statement-returns : goal.statement-returns
statement-returns t c =
    let a = c.args in
    let h = parts-follow (records_in a.image.now.frame a.image.now.bytes.now) a.depth a.at _ c.if-depth-eq0.false (sym c.statement_parts.ensures ∙ c.in_ok-parts.was) in
    rw (h.1, ← c.skip_clauses.ensures, c.in_ok-bodies.was) c.skip_bodies.ensures
