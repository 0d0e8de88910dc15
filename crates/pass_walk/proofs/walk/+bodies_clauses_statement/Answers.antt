-- The walk that linearizes meets its contract: a statement, its clauses and its bodies call each other, and the remaining depth falls. Assumes nothing.
use Prim.Native.Nat.{ℕ, ◌+◌, ◌-◌, ◌<◌}
use mathlib.Core.Path.{◌≡◌, refl, sym, ap, ◌∙◌, subst}
use native.Mathlib.Omega.{arith}
use mathlib.Core.Logic.{inr}
use mathlib.Core.List.{List}
use lib.ListN.{length, get_or}
use Rattle.image_places_spec.proofs.Steps.{body-next, clause-next}
use Rattle.image_spec.specs.Records.{Record}
use Rattle.image_spec.specs.Kinds.{bodies}
use Rattle.image_kinds.specs.Codes.{code_of}
use Rattle.image_directory.specs.declared.Frame.{Frame}
use Rattle.image_places_spec.specs.Views.{binders}
use Rattle.image_write_directory.proofs.EmitLaws.{keeps_then}
use Rattle.scope_spec.proofs.PairLaws.{no_masks}
use Rattle.pass_records.proofs.ListPlaces.{at-made}
use Rattle.pass_step.specs.Stepping.{SourceAt}
use Rattle.pass_step.proofs.StepLaws.{source_as}
use Rattle.pass_dispatch.specs.Choices.{HasClauses, Settles}
use Rattle.pass_dispatch.proofs.DispatchLaws.{leaves_as}
use Rattle.pass_walk.proofs.LoopSteps.{first_body, body-done, bodies-done, clause-source, clause-workable, clause-room, clause-body, clause-done, clauses-done, one-body, one-body-done}
use Rattle.pass_walk.proofs.SourceLaws.{source-at, has-clauses, a-create, a-switch, no-create}
use Rattle.pass_walk.proofs.LeaveLaws.{leaves_stay, switch-opened}
use Rattle.pass_walk.proofs.OutputLaws.{step-width, steps-width, leaves-width, linearized-width, linearized-behind, opened-since}
use Rattle.pass_walk.proofs.StatementLaws.{no-bodies, deep, below, room_open, workable_for, say_clauses, say_next, inside, straight, one-body-here, settling-here, in_places, row_inside}
use Rattle.pass_walk.proofs.WalkSteps.{begun, room-drawn, clauses-ahead, reached-opened, bodies-ahead, statement-done, statement-ended, next-straight, reached-straight}
use Rattle.pass_walk.proofs.walk.+bodies_clauses_statement.Goals as goal

-- of the two kinds, not a Create
switch-at : {g : Frame} {s : List ℕ} {i k : ℕ} → HasClauses k → (k ≡ 6 → ⊥) → SourceAt g s i k → SourceAt g s i 5
switch-at {k = k} b n a = source_as 5 (omega (arith, b.0, b.1, n)) a

pub bodies-statement-next-requires : goal.bodies-statement-next-requires
bodies-statement-next-requires t c =
    let h = c.requires in
    let left : 0 < c.args.n - c.loop.counter = omega arith in
    let x = body-next c.loop.invariant.1 left in
    (omega arith, rw (c.loop.invariant.0.id) (first_body h.sources x))

pub bodies-loop-preserved : goal.bodies-loop-preserved
bodies-loop-preserved t c =
    let w = c.statement-next.ensures in
    let l = c.loop.invariant in
    let left : 0 < c.args.n - c.loop.counter = omega arith in
    let x = body-next l.1 left in
    let fewer : c.args.n - (c.loop.counter + 1) ≡ c.args.n - c.loop.counter - 1 = omega arith in
    rw fewer (keeps_then l.0 w.1, body-done c.requires.sources x (linearized-width l.0.id w.0))

pub bodies-returns : goal.bodies-returns
bodies-returns t c = (bodies-done c.loop.invariant.1 (omega arith), c.loop.invariant.0)

pub clauses-invariant_of-node : goal.clauses-invariant_of-node
clauses-invariant_of-node t c =
    let h = c.requires in
    let left : 0 < c.args.n - c.loop.counter = omega arith in
    record { there = (clause-source h.sources (clause-next c.loop.invariant.1 left) c.args.source.now.image.ready).at }

pub clauses-invariant_of-enter : goal.clauses-invariant_of-enter
clauses-invariant_of-enter t c =
    let h = c.requires in
    let left : 0 < c.args.n - c.loop.counter = omega arith in
    let a = clause-source h.sources (clause-next c.loop.invariant.1 left) c.args.source.now.image.ready in
    record { source = record { small = a.small; plain = a.plain } }

pub clauses-enter-entered-requires : goal.clauses-enter-entered-requires
clauses-enter-entered-requires t c =
    let h = c.requires in
    let left : 0 < c.args.n - c.loop.counter = omega arith in
    let x = clause-next c.loop.invariant.1 left in
    (inr refl, (clause-workable h.sources x, clause-room h.sources x))

pub clauses-statement-next-requires : goal.clauses-statement-next-requires
clauses-statement-next-requires t c =
    let l = c.loop.invariant in
    let e = c.enter-entered.ensures in
    let left : 0 < c.args.n - c.loop.counter = omega arith in
    let x = clause-next l.1 left in
    (omega arith, rw (e.1.id ∙ l.0.id) (clause-body c.requires.sources x (step-width l.0.id e.0)))

pub clauses-loop-preserved : goal.clauses-loop-preserved
clauses-loop-preserved t c =
    let w = c.statement-next.ensures in
    let e = c.enter-entered.ensures in
    let l = c.loop.invariant in
    let left : 0 < c.args.n - c.loop.counter = omega arith in
    let x = clause-next l.1 left in
    let fewer : c.args.n - (c.loop.counter + 1) ≡ c.args.n - c.loop.counter - 1 = omega arith in
    rw fewer (keeps_then l.0 (keeps_then e.1 w.1), clause-done c.requires.sources x (step-width l.0.id e.0) (linearized-width (e.1.id ∙ l.0.id) w.0))

pub clauses-returns : goal.clauses-returns
clauses-returns t c = (clauses-done c.loop.invariant.1 (omega arith), c.loop.invariant.0)

pub statement-parts_of-parts-requires : goal.statement-parts_of-parts-requires
statement-parts_of-parts-requires t c = inside c.requires c.args.source.now.image.ready

pub statement-bounds-source-i : goal.statement-bounds-source-i
statement-bounds-source-i t c = row_inside c.args.source.now.rows.now c.requires

pub statement-invariant_of-record : goal.statement-invariant_of-record
statement-invariant_of-record t c =
    let a = source-at c.args.source.now.image.ready c.requires.sources c.parts_of-parts.ensures.at in
    record { source = record { small = a.small; plain = a.plain } }

pub statement-invariant_of-record-then-proceeds : goal.statement-invariant_of-record-then-proceeds
statement-invariant_of-record-then-proceeds t c =
    let a = source-at c.args.source.now.image.ready c.requires.sources c.parts_of-parts.ensures.at in
    record { source = record { small = a.small; plain = a.plain } }

pub statement-invariant_of-record-2 : goal.statement-invariant_of-record-2
statement-invariant_of-record-2 t c =
    let a = source-at c.args.source.now.image.ready c.requires.sources c.parts_of-parts.ensures.at in
    record { source = record { small = a.small; plain = a.plain } }

pub statement-open-opened-requires : goal.statement-open-opened-requires
statement-open-opened-requires t c =
    let h = c.requires in
    let k = has-clauses (code_of c.parts_of-parts.result.kind) (sym c.has_clauses.ensures ∙ c.if-has_clauses.true) in
    (k, room_open h)

pub statement-overflow_sub-depth : goal.statement-overflow_sub-depth
statement-overflow_sub-depth t c = omega (arith, deep c.requires c.parts_of-parts.ensures)

pub statement-clauses-next-requires : goal.statement-clauses-next-requires
statement-clauses-next-requires t c =
    let h = c.requires in
    let f = c.parts_of-parts.ensures in
    let o = c.open-opened.ensures in
    (omega (arith, deep h f), rw (o.1.keeps.id) (clauses-ahead h (begun h f c.eq-before.ensures (say_clauses c.args.source.now.rows.now h) (say_next c.args.source.now.rows.now h) o.0)))

pub statement-linearize-stepped-requires : goal.statement-linearize-stepped-requires
statement-linearize-stepped-requires t c =
    let h = c.requires in
    let f = c.parts_of-parts.ensures in
    let o = c.open-opened.ensures in
    let b = begun h f c.eq-before.ensures (say_clauses c.args.source.now.rows.now h) (say_next c.args.source.now.rows.now h) o.0 in
    let z = linearized-behind o.1 c.clauses-next.ensures in
    let a = source_as 6 (ap code_of (a-create c.parts_of-parts.result.kind c.eq-before.ensures c.if-before.true)) (source-at c.args.source.now.image.ready h.sources f.at) in
    (a-create c.parts_of-parts.result.kind c.eq-before.ensures c.if-before.true, (workable_for h (ap (λ (r : Record). length (binders r)) (at-made 6 a.at)), (opened-since _ o.0, room-drawn h b z refl)))

pub statement-overflow_sub-depth-then-before : goal.statement-overflow_sub-depth-then-before
statement-overflow_sub-depth-then-before t c = omega (arith, deep c.requires c.parts_of-parts.ensures)

pub statement-statement-requires : goal.statement-statement-requires
statement-statement-requires t c =
    let h = c.requires in
    let f = c.parts_of-parts.ensures in
    let o = c.open-opened.ensures in
    let b = begun h f c.eq-before.ensures (say_clauses c.args.source.now.rows.now h) (say_next c.args.source.now.rows.now h) o.0 in
    let z = linearized-behind o.1 c.clauses-next.ensures in
    let same = c.clauses-next.ensures.1.id ∙ o.1.keeps.id in
    let s = c.linearize-stepped.ensures in
    let a = source_as 6 (ap code_of (a-create c.parts_of-parts.result.kind c.eq-before.ensures c.if-before.true)) (source-at c.args.source.now.image.ready h.sources f.at) in
    let r = reached-opened h b z refl ((steps-width same s.0).steps _ _ (say_clauses c.args.source.now.rows.now h) (say_next c.args.source.now.rows.now h)) refl in
    let n = bodies-ahead h (below h f z.next_is) r in
    (omega (arith, deep h f), rw (s.1.id ∙ same) (one-body (f.bodies ∙ ap bodies a.at.kind) n))

pub statement-returns-then-before : goal.statement-returns-then-before
statement-returns-then-before t c =
    let h = c.requires in
    let f = c.parts_of-parts.ensures in
    let o = c.open-opened.ensures in
    let b = begun h f c.eq-before.ensures (say_clauses c.args.source.now.rows.now h) (say_next c.args.source.now.rows.now h) o.0 in
    let y = c.clauses-next.ensures in
    let z = linearized-behind o.1 y in
    let same = y.1.id ∙ o.1.keeps.id in
    let s = c.linearize-stepped.ensures in
    let w = c.statement.ensures in
    let a = source_as 6 (ap code_of (a-create c.parts_of-parts.result.kind c.eq-before.ensures c.if-before.true)) (source-at c.args.source.now.image.ready h.sources f.at) in
    let r = reached-opened h b z refl ((steps-width same s.0).steps _ _ (say_clauses c.args.source.now.rows.now h) (say_next c.args.source.now.rows.now h)) refl in
    let e = f.bodies ∙ ap bodies a.at.kind in
    let n = bodies-ahead h (below h f z.next_is) r in (
      statement-done h (below h f z.next_is) r (one-body-done e n (linearized-width (s.1.id ∙ same) w.0)),
      record { id = w.1.id ∙ s.1.id ∙ same; out = w.1.out ∙ s.1.out ∙ y.1.out ∙ o.1.keeps.out; lengths = w.1.lengths ∙ s.1.lengths ∙ y.1.lengths ∙ o.1.keeps.lengths },
    )

pub statement-linearize-requires : goal.statement-linearize-requires
statement-linearize-requires t c =
    let h = c.requires in
    let f = c.parts_of-parts.ensures in
    let o = c.open-opened.ensures in
    let b = begun h f c.eq-before.ensures (say_clauses c.args.source.now.rows.now h) (say_next c.args.source.now.rows.now h) o.0 in
    let k = has-clauses (code_of c.parts_of-parts.result.kind) (sym c.has_clauses.ensures ∙ c.if-has_clauses.true) in
    let n = no-create c.parts_of-parts.result.kind c.eq-before.ensures c.if-before.false in
    let a = switch-at k n (source-at c.args.source.now.image.ready h.sources f.at) in
    let z = linearized-behind o.1 c.clauses-next.ensures in
    (a-switch c.parts_of-parts.result.kind k n, (workable_for h (ap (λ (r : Record). length (binders r)) (at-made 5 a.at)), (switch-opened _ a.at (say_next c.args.source.now.rows.now h) (opened-since _ o.0), room-drawn h b z refl)))

pub statement-returns-then-has_clauses : goal.statement-returns-then-has_clauses
statement-returns-then-has_clauses t c =
    let h = c.requires in
    let f = c.parts_of-parts.ensures in
    let o = c.open-opened.ensures in
    let b = begun h f c.eq-before.ensures (say_clauses c.args.source.now.rows.now h) (say_next c.args.source.now.rows.now h) o.0 in
    let y = c.clauses-next.ensures in
    let z = linearized-behind o.1 y in
    let same = y.1.id ∙ o.1.keeps.id in
    let s = c.linearize.ensures in
    let k = has-clauses (code_of c.parts_of-parts.result.kind) (sym c.has_clauses.ensures ∙ c.if-has_clauses.true) in
    let n = no-create c.parts_of-parts.result.kind c.eq-before.ensures c.if-before.false in
    let a = switch-at k n (source-at c.args.source.now.image.ready h.sources f.at) in
    let l = leaves_stay c.args.here.now.context (ap binders (at-made 5 a.at)) (λ q. omega (arith, q, a.at.kind)) (leaves_as 5 refl a (leaves-width same s.0)) in
    let r = reached-opened h b z refl (l.steps _ _ (say_clauses c.args.source.now.rows.now h) (say_next c.args.source.now.rows.now h)) refl in (
      statement-ended h (below h f z.next_is) r (no-bodies (f.bodies ∙ ap bodies a.at.kind) _ _ _),
      record { id = s.1.id ∙ same; out = s.1.out ∙ y.1.out ∙ o.1.keeps.out; lengths = s.1.lengths ∙ y.1.lengths ∙ o.1.keeps.lengths },
    )

pub statement-proceed-stepped-requires : goal.statement-proceed-stepped-requires
statement-proceed-stepped-requires t c =
    let h = c.requires in
    (sym c.proceeds.ensures ∙ c.if-proceeds.true, (in_places h, (workable_for h refl, room_open h)))

pub statement-overflow_sub-depth-then-proceeds : goal.statement-overflow_sub-depth-then-proceeds
statement-overflow_sub-depth-then-proceeds t c = omega (arith, deep c.requires c.parts_of-parts.ensures)

pub statement-statement-requires-then-proceeds : goal.statement-statement-requires-then-proceeds
statement-statement-requires-then-proceeds t c =
    let h = c.requires in
    let f = c.parts_of-parts.ensures in
    let s = c.proceed-stepped.ensures in
    let e = straight h f.at.kind (sym c.has_clauses.ensures ∙ c.if-has_clauses.false) in
    let x = one-body-here h f.at.kind (sym c.proceeds.ensures ∙ c.if-proceeds.true) in
    let r = reached-straight h e (s.0.steps _ _ (say_clauses c.args.source.now.rows.now h) (say_next c.args.source.now.rows.now h)) in
    let n = bodies-ahead h (below h f (next-straight h f.clauses e)) r in
    (omega (arith, deep h f), rw (s.1.id) (one-body (f.bodies ∙ x) n))

pub statement-returns-then-proceeds : goal.statement-returns-then-proceeds
statement-returns-then-proceeds t c =
    let h = c.requires in
    let f = c.parts_of-parts.ensures in
    let s = c.proceed-stepped.ensures in
    let w = c.statement-then-proceeds.ensures in
    let e = straight h f.at.kind (sym c.has_clauses.ensures ∙ c.if-has_clauses.false) in
    let x = one-body-here h f.at.kind (sym c.proceeds.ensures ∙ c.if-proceeds.true) in
    let r = reached-straight h e (s.0.steps _ _ (say_clauses c.args.source.now.rows.now h) (say_next c.args.source.now.rows.now h)) in
    let b = below h f (next-straight h f.clauses e) in
    let n = bodies-ahead h b r in
    (statement-done h b r (one-body-done (f.bodies ∙ x) n (linearized-width s.1.id w.0)), keeps_then s.1 w.1)

pub statement-settle-requires : goal.statement-settle-requires
statement-settle-requires t c =
    let h = c.requires in
    let f = c.parts_of-parts.ensures in
    let x = settling-here h f.at.kind (sym c.has_clauses.ensures ∙ c.if-has_clauses.false) (sym c.proceeds.ensures ∙ c.if-proceeds.false) in
    (subst Settles f.at.kind x.settles, (workable_for h (ap length x.none), room_open h))

pub statement-returns-then-parts-eq0 : goal.statement-returns-then-parts-eq0
statement-returns-then-parts-eq0 t c =
    let h = c.requires in
    let f = c.parts_of-parts.ensures in
    let row = get_or c.args.source.now.rows.now c.args.i no_masks in
    let s = c.settle.ensures row.clauses row.next in
    let e = straight h f.at.kind (sym c.has_clauses.ensures ∙ c.if-has_clauses.false) in
    let x = settling-here h f.at.kind (sym c.has_clauses.ensures ∙ c.if-has_clauses.false) (sym c.proceeds.ensures ∙ c.if-proceeds.false) in
    let l = leaves_stay c.args.here.now.context x.none x.other s.0 in
    let r = reached-straight h e (l.steps _ _ (say_clauses c.args.source.now.rows.now h) (say_next c.args.source.now.rows.now h)) in
    (statement-ended h (below h f (next-straight h f.clauses e)) r (no-bodies c.if-parts-eq0.true _ _ _), s.1)

pub statement-overflow_sub-depth-2 : goal.statement-overflow_sub-depth-2
statement-overflow_sub-depth-2 t c = omega (arith, deep c.requires c.parts_of-parts.ensures)

pub statement-bodies-requires : goal.statement-bodies-requires
statement-bodies-requires t c =
    let h = c.requires in
    let f = c.parts_of-parts.ensures in
    let row = get_or c.args.source.now.rows.now c.args.i no_masks in
    let s = c.settle.ensures row.clauses row.next in
    let e = straight h f.at.kind (sym c.has_clauses.ensures ∙ c.if-has_clauses.false) in
    let x = settling-here h f.at.kind (sym c.has_clauses.ensures ∙ c.if-has_clauses.false) (sym c.proceeds.ensures ∙ c.if-proceeds.false) in
    let l = leaves_stay c.args.here.now.context x.none x.other s.0 in
    let r = reached-straight h e (l.steps _ _ (say_clauses c.args.source.now.rows.now h) (say_next c.args.source.now.rows.now h)) in
    (omega (arith, deep h f), rw (s.1.id) (bodies-ahead h (below h f (next-straight h f.clauses e)) r))

pub statement-returns : goal.statement-returns
statement-returns t c =
    let h = c.requires in
    let f = c.parts_of-parts.ensures in
    let row = get_or c.args.source.now.rows.now c.args.i no_masks in
    let s = c.settle.ensures row.clauses row.next in
    let w = c.bodies.ensures in
    let e = straight h f.at.kind (sym c.has_clauses.ensures ∙ c.if-has_clauses.false) in
    let x = settling-here h f.at.kind (sym c.has_clauses.ensures ∙ c.if-has_clauses.false) (sym c.proceeds.ensures ∙ c.if-proceeds.false) in
    let l = leaves_stay c.args.here.now.context x.none x.other s.0 in
    let r = reached-straight h e (l.steps _ _ (say_clauses c.args.source.now.rows.now h) (say_next c.args.source.now.rows.now h)) in
    (statement-done h (below h f (next-straight h f.clauses e)) r (linearized-width s.1.id w.0), keeps_then s.1 w.1)
