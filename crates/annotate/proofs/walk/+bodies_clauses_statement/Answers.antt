use Prim.Native.Nat.{◌+◌, ◌-◌}
use mathlib.Core.Path.{◌≡◌, refl, ap, ◌∙◌}
use mathlib.Core.List.{List}
use native.Mathlib.Omega.{arith}
use borrow.Author.Rules.{rules}
use Rattle.syntax.specs.Arrays.{set_of}
use Rattle.syntax.specs.declared.names.VarId.{VarId}
use Rattle.image_directory.specs.Images.{records_of}
use Rattle.image_directory.proofs.Places.{records-length}
use Rattle.image_places_spec.proofs.PlaceLaws.{stmt-parts}
use Rattle.image_places_spec.proofs.Steps.{head-inside, clause-next, body-next}
use Rattle.scope_spec.specs.Flat.{small_record_lem}
use Rattle.scope_spec.specs.Marking.{mark_all_lem}
use Rattle.image_read_nodes.proofs.StepLaws.{above_at, below_at, clause-kind}
use Rattle.annotate_uses.proofs.BindLaws.{binders-room, clause-bound}
use Rattle.scope_records.proofs.FlatLaws.{record_at_lem}
use Rattle.annotate.proofs.MarkSteps.{clauses-room, bodies-room, marked-stmt, clause-room, clause-marked, marked-clauses, body-marked, marked-bodies}
use Rattle.annotate.proofs.walk.+bodies_clauses_statement.Goals as goal

pub bodies-loop-init : goal.bodies-loop-init
bodies-loop-init t c =
    let h = c.requires in
    let e : c.args.n - 0 ≡ c.args.n = omega arith in
    rw e (refl, record { rest = _; stand = h.0; size = refl; holds = record { room = h.1.1; same = refl } })

pub bodies-statement-here-requires : goal.bodies-statement-here-requires
bodies-statement-here-requires t c =
    let h = c.requires in
    let x = body-next c.loop.invariant.1 (omega (arith, c.loop-test.true)) in
    (omega arith, (x.body, (h.1.0, x.holds.room.0)))

pub bodies-loop-preserved : goal.bodies-loop-preserved
bodies-loop-preserved t c =
    let e : c.args.n - (c.loop.counter + 1) ≡ c.args.n - c.loop.counter - 1 = omega arith in
    rw e (search rules, body-marked (body-next c.loop.invariant.1 (omega (arith, c.loop-test.true))) _ _ c.statement-here.ensures)

pub bodies-returns : goal.bodies-returns
bodies-returns t c = marked-bodies c.loop.invariant.1 (omega (arith, c.loop-test.false))

pub clauses-loop-init : goal.clauses-loop-init
clauses-loop-init t c =
    let h = c.requires in
    let e : c.args.n - 0 ≡ c.args.n = omega arith in
    rw e (refl, record { rest = _; stand = h.0; size = refl; holds = record { room = h.1.1; same = refl } })

pub clauses-invariant_of-node : goal.clauses-invariant_of-node
clauses-invariant_of-node t c =
    let m = c.args.source.now.image in
    let x = clause-next c.loop.invariant.1 (omega (arith, c.loop-test.true)) in
    record { there = record { inside = omega (arith, x.inside, records-length m.frame m.bytes.now m.ready); kind = clause-kind x } }

pub clauses-bind-inner-requires : goal.clauses-bind-inner-requires
clauses-bind-inner-requires t c =
    let h = c.requires in
    let x = clause-next c.loop.invariant.1 (omega (arith, c.loop-test.true)) in
    (h.1.0, clause-bound x (set_of c.args.bound) x.holds.room)

pub clauses-overflow_add-here : goal.clauses-overflow_add-here
clauses-overflow_add-here t c =
    let m = c.args.source.now.image in
    let x = clause-next c.loop.invariant.1 (omega (arith, c.loop-test.true)) in
    omega (arith, x.inside, records-length m.frame m.bytes.now m.ready, m.ready.few)

pub clauses-statement-here-requires : goal.clauses-statement-here-requires
clauses-statement-here-requires t c =
    let x = clause-next c.loop.invariant.1 (omega (arith, c.loop-test.true)) in
    (omega arith, (x.body, (c.bind-inner.ensures.scope, clause-room x _ c.bind-inner.ensures)))

pub clauses-loop-preserved : goal.clauses-loop-preserved
clauses-loop-preserved t c =
    let e : c.args.n - (c.loop.counter + 1) ≡ c.args.n - c.loop.counter - 1 = omega arith in
    rw e (search rules, clause-marked (clause-next c.loop.invariant.1 (omega (arith, c.loop-test.true))) _ _ _ c.bind-inner.ensures c.statement-here.ensures)

pub clauses-returns : goal.clauses-returns
clauses-returns t c = marked-clauses c.loop.invariant.1 (omega (arith, c.loop-test.false))

pub statement-parts_of-f-requires : goal.statement-parts_of-f-requires
statement-parts_of-f-requires t c =
    let a = c.args in
    let h = c.requires in
    let rs = records_of a.source.now.image in
    omega (arith, head-inside a.depth rs a.i h.0, records-length a.source.now.image.frame a.source.now.image.bytes.now a.source.now.image.ready)

pub statement-uses-used-requires : goal.statement-uses-used-requires
statement-uses-used-requires t c =
    let a = c.args in
    let h = c.requires in
    let rs = records_of a.source.now.image in
    let f = c.parts_of-f.ensures in
    (record_at_lem small_record_lem rs a.i a.source.now.small.small (head-inside a.depth rs a.i h.0))

pub statement-overflow_sub-depth : goal.statement-overflow_sub-depth
statement-overflow_sub-depth t c = omega (arith, (stmt-parts c.requires.0).positive)

pub statement-clauses-next-requires : goal.statement-clauses-next-requires
statement-clauses-next-requires t c =
    let a = c.args in
    let h = c.requires in
    let rs = records_of a.source.now.image in
    let f = c.parts_of-f.ensures in
    let m = above_at a.depth rs a.i h.0 _ f.clauses in
    (omega (arith, (stmt-parts h.0).positive), (m.clauses, (h.1.0, clauses-room m h.1.1)))

pub statement-bind-inner-requires : goal.statement-bind-inner-requires
statement-bind-inner-requires t c =
    let a = c.args in
    let h = c.requires in
    let rs = records_of a.source.now.image in
    let f = c.parts_of-f.ensures in
    (h.1.0, binders-room a.depth rs a.i (set_of a.bound) h.0 h.1.1)

pub statement-overflow_sub-depth-2 : goal.statement-overflow_sub-depth-2
statement-overflow_sub-depth-2 t c = omega (arith, (stmt-parts c.requires.0).positive)

pub statement-bodies-requires : goal.statement-bodies-requires
statement-bodies-requires t c =
    let a = c.args in
    let h = c.requires in
    let rs = records_of a.source.now.image in
    let f = c.parts_of-f.ensures in
    let b = below_at a.depth rs a.i h.0 _ _ _ f.clauses f.bodies c.clauses-next.ensures.next_is in
    let x = c.bind-inner.ensures in
    (omega (arith, (stmt-parts h.0).positive, c.decreases), (b.bodies, (x.scope, bodies-room b (set_of a.bound) x h.1.1)))

pub statement-returns : goal.statement-returns
statement-returns t c =
    let a = c.args in
    let h = c.requires in
    let rs = records_of a.source.now.image in
    let f = c.parts_of-f.ensures in
    let b = below_at a.depth rs a.i h.0 _ _ _ f.clauses f.bodies c.clauses-next.ensures.next_is in
    let m = c.mark_all.ensures ∙ ap (λ (xs : List VarId). mark_all_lem (set_of a.bound) xs a.row.now) c.uses-used.ensures.list in
    marked-stmt b (set_of a.bound) c.bind-inner.ensures a.row.now m c.clauses-next.ensures.row_is c.bodies.ensures
