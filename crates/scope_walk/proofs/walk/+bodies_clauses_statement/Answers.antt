-- The walk of a body meets its contract: statements, clauses and bodies call each other, and the remaining depth falls. Assumes nothing.
use mathlib.Core.Path.{refl, sym, ap, ◌∙◌}
use native.Mathlib.Omega.{arith}
use Rattle.image_directory.specs.Images.{records_of}
use Rattle.image_directory.proofs.Places.{records-length}
use Rattle.image_places_spec.proofs.PlaceLaws.{stmt-parts}
use Rattle.image_places_spec.proofs.Steps.{head-inside, clause-next, body-next}
use Rattle.scope_spec.specs.Pairs.{masks_of}
use Rattle.scope_places.specs.Scoping.{scope_of}
use Rattle.scope_places.specs.declared.scoping.Using.{Using}
use Rattle.scope_places.proofs.EnterLaws.{scope-count}
use Rattle.image_read_nodes.proofs.StepLaws.{above_at, below_at, clause-kind}
use Rattle.scope_walk.proofs.ScopeLaws.{restored-same, restored-ids, restored_then, set-back}
use Rattle.scope_walk.proofs.MaskSteps.{clauses-sourced, bodies-sourced, masked_stmt, clauses-begun, bodies-begun}
use Rattle.scope_walk.proofs.WalkSteps.{walked, bound-here, recount-clauses, clause-walked, walked-clauses, recount-bodies, body-walked}
use Rattle.scope_walk.proofs.walk.+bodies_clauses_statement.Goals as goal

pub bodies-loop-init : goal.bodies-loop-init
bodies-loop-init t c =
    (restored-same _, (refl, recount-bodies {left = c.args.count} (omega arith) record { rest = _; stand = c.requires; size = refl; holds = record { same = refl; masks = bodies-begun _ (masks_of c.args.rows.now) refl } }))

pub bodies-statement-b-requires : goal.bodies-statement-b-requires
bodies-statement-b-requires t c = (omega (arith, c.decreases), (body-next c.loop.invariant.1.1 (omega arith)).body)

pub bodies-loop-preserved : goal.bodies-loop-preserved
bodies-loop-preserved t c =
    let l = c.loop.invariant in
    let w = c.statement-b in
    let x = body-next l.1.1 (omega arith) in (
      restored_then l.0 w.ensures.1.0,
      (w.auto.rows ∙ l.1.0, recount-bodies (omega arith) (body-walked x w.result (restored-ids l.0) w.ensures.0 w.ensures.1.1 refl refl refl)),
    )

pub clauses-loop-init : goal.clauses-loop-init
clauses-loop-init t c =
    (restored-same _, (refl, recount-clauses {left = c.args.count} (omega arith) record { rest = _; stand = c.requires; size = refl; holds = record { same = refl; masks = clauses-begun (masks_of c.args.rows.now) refl } }))

pub clauses-invariant_of-node : goal.clauses-invariant_of-node
clauses-invariant_of-node t c =
    let m = c.args.walkable.now.image in
    let x = clause-next c.loop.invariant.1.1 (omega arith) in
    record { there = record { inside = omega (arith, x.inside, records-length m.frame m.bytes.now m.ready); kind = clause-kind x } }

pub clauses-statement-b-requires : goal.clauses-statement-b-requires
clauses-statement-b-requires t c = (omega (arith, c.decreases), (clause-next c.loop.invariant.1.1 (omega arith)).body)

pub clauses-loop-preserved : goal.clauses-loop-preserved
clauses-loop-preserved t c =
    let l = c.loop.invariant in
    let e = c.enter_list-bound in
    let entered = rw c.list_at.ensures at e.ensures in
    let w = c.statement-b in
    let p = c.put_row in
    let x = clause-next l.1.1 (omega arith) in (
      record { kept = set-back l.0 entered w.ensures.1.0; n = refl; same = w.ensures.1.0.same ∙ (entered.same ∙ l.0.same) },
      (
        p.auto.rows ∙ (w.auto.rows ∙ l.1.0),
        recount-clauses (omega arith) (clause-walked x e.new.scope e.result w.result (restored-ids l.0) entered.is w.ensures.0 w.ensures.1.1 (sym (scope-count c.args.scope.now.fits)) p.ensures c.join-free.ensures refl refl),
      ),
    )

pub clauses-returns : goal.clauses-returns
clauses-returns t c =
    let l = c.loop.invariant in
    let w = walked-clauses l.1.1 (omega arith) in
    (w.0, (l.0, w.1))

pub statement-parts_of-f-requires : goal.statement-parts_of-f-requires
statement-parts_of-f-requires t c =
    let a = c.args in
    let m = a.walkable.now.image in
    omega (arith, head-inside a.depth (records_of m) a.i c.requires, records-length m.frame m.bytes.now m.ready)

pub statement-overflow_sub-depth : goal.statement-overflow_sub-depth
statement-overflow_sub-depth t c = omega (arith, (stmt-parts c.requires).positive)

pub statement-clauses-c-requires : goal.statement-clauses-c-requires
statement-clauses-c-requires t c =
    let a = c.args in
    let x = above_at a.depth (records_of a.walkable.now.image) a.i c.requires _ c.parts_of-f.ensures.clauses in
    (omega (arith, x.positive, c.decreases), x.clauses)

pub statement-overflow_sub-depth-2 : goal.statement-overflow_sub-depth-2
statement-overflow_sub-depth-2 t c = omega (arith, (stmt-parts c.requires).positive)

pub statement-bodies-b-requires : goal.statement-bodies-b-requires
statement-bodies-b-requires t c =
    let a = c.args in
    let f = c.parts_of-f.ensures in
    let b = below_at a.depth (records_of a.walkable.now.image) a.i c.requires _ _ _ f.clauses f.bodies c.clauses-c.ensures.0.next in
    (omega (arith, b.positive, c.decreases), b.bodies)

pub statement-returns : goal.statement-returns
statement-returns t c =
    let a = c.args in
    let f = c.parts_of-f.ensures in
    let u = rw c.view.ensures at c.use_node-own.ensures in
    let k = c.clauses-c.ensures in
    let e = c.enter_node-bound in
    let w = c.bodies-b.ensures in
    let m = a.walkable.now.max_id in
    let rs = records_of a.walkable.now.image in
    let x = above_at a.depth rs a.i c.requires _ f.clauses in
    let b = below_at a.depth rs a.i c.requires _ _ _ f.clauses f.bodies k.0.next in
    let Δ = scope_of a.scope.now in (
      walked b m Δ a.v e.new.scope e.result (ap (λ (z : Using). z.verdict) u) k.0.verdict (restored-ids k.1.0) e.ensures.is w.0 refl refl,
      (
        record { kept = set-back k.1.0 e.ensures w.1.0; n = refl; same = w.1.0.same ∙ (e.ensures.same ∙ k.1.0.same) },
        λ q.
            let z = bound-here b Δ q m c.clauses-c.result.verdict e.new.scope e.result (restored-ids k.1.0) e.ensures.is in
            masked_stmt b Δ q z (masks_of a.rows.now) (sym (scope-count a.scope.now.fits)) (ap (λ (y : Using). y.mask) u) (k.1.1 (clauses-sourced x q)) (w.1.1 (bodies-sourced b Δ q z)) c.put_row.ensures c.join-free.ensures,
      ),
    )
