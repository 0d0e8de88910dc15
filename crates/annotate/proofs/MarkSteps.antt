-- The steps of the walk of annotation: a statement by its record, its clauses and its bodies (`marked-stmt`); and what the walk of the
-- clauses and of the bodies that are left will mark. Assumes nothing.
use Prim.Native.Nat.{ℕ, ◌+◌, ◌-◌}
use mathlib.Core.Path.{◌≡◌, sym, ap, ◌∙◌, subst}
use mathlib.Core.List.{List, ◌++◌}
use lib.ListN.{length, drop}
use Rattle.syntax.specs.Arrays.{set_of}
use Rattle.syntax.specs.declared.names.VarId.{VarId}
use Rattle.syntax.specs.declared.sets.IdSet.{IdSet}
use Rattle.model.specs.Syntax.{Stmt, Clauses}
use Rattle.image_spec.specs.Parse.{each, All}
use Rattle.image_spec.specs.Records.{Record}
use Rattle.image_spec.specs.Shape.{flatten}
use Rattle.image_read_parts.specs.Standing.{head_of}
use Rattle.image_places_spec.specs.Views.{binders, uses_of}
use Rattle.image_places_spec.specs.Places.{stmt_at}
use Rattle.image_places_spec.proofs.Steps.{Above, Below, by-view, ClausesLeft, ClauseNext, clause-turn, clauses-end, BodiesLeft, BodyNext, body-turn, bodies-end}
use Rattle.scope_spec.specs.Marking.{mark_all_lem, mark_stmt, mark_clauses, mark_bodies}
use Rattle.scope_spec.specs.Rooms.{RoomFor, RoomForClauses}
use Rattle.scope_spec.proofs.MarkViews.{mark-view}
use Rattle.scope_spec.proofs.RoomLaws.{room-clauses, room-bodies, room-clause}
use Rattle.annotate_uses.specs.Sources.{BoundBy}
use Rattle.annotate_uses.proofs.BindLaws.{clause-binds}
use Rattle.annotate.specs.Marks.{MarkedTo}

-- ── a statement ──

-- there is room in its clauses
pub clauses-room : {d : ℕ} {rs : List Record} {i n : ℕ} {t : Stmt} {cs : Clauses} {B : List VarId} → Above d rs i n t cs → RoomFor B t → RoomForClauses B cs
clauses-room {t = t} {B = B} a k = subst (RoomForClauses B) (sym a.are_clauses) (room-clauses B t k)

module _ {d : ℕ} {rs : List Record} {i n m next : ℕ} {t : Stmt} {r : Record} {cs : Clauses} {ts : List Stmt} (b : Below d rs i n m next t r cs ts) (B : List VarId) {x : IdSet} (e : BoundBy x (B ++ binders r)) where
  -- .. and in its bodies
  pub bodies-room : RoomFor B t → All (RoomFor (set_of x)) ts
  bodies-room k = subst (λ (z : List VarId). All (RoomFor z) ts) (sym e.is) (by-view b (λ r cs ts. All (RoomFor (B ++ binders r)) ts) (room-bodies B t k))

  -- a statement whose parts were walked
  pub marked-stmt : (row : List ℕ) {row₁ row₂ row₃ : List ℕ} {last : ℕ} → row₁ ≡ mark_all_lem B (uses_of r) row → row₂ ≡ mark_clauses cs B row₁
      → MarkedTo last row₃ (next + length (each flatten ts)) (mark_bodies ts (set_of x) row₂)
      → MarkedTo last row₃ (i + length (flatten t)) (mark_stmt t B row)
  marked-stmt row {row₁} {row₂} p q y = record {
    next_is = y.next_is ∙ sym b.size;
    row_is = y.row_is ∙ (ap (λ (z : List VarId). mark_bodies ts z row₂) e.is
        ∙ (ap (mark_bodies ts (B ++ binders r)) (q ∙ ap (mark_clauses cs B) p)
        ∙ sym (by-view b (λ r cs ts. mark_stmt t B row ≡ mark_bodies ts (B ++ binders r) (mark_clauses cs B (mark_all_lem B (uses_of r) row))) (mark-view t B row))));
  }

-- ── what is left of clauses ──

-- there is room in these clauses, and with their marks the row is whole
pub record MarksClauses (B : List VarId) (whole row : List ℕ) (cs : Clauses) : Type 0 where
  pub room : RoomForClauses B cs
  pub same : whole ≡ mark_clauses cs B row

module _ {d : ℕ} {rs : List Record} {B : List VarId} {place : ℕ} {whole : List ℕ} {left here : ℕ} {row : List ℕ} (n : ClauseNext d rs place left here (MarksClauses B whole row)) where
  pub clause-room : (x : IdSet) → BoundBy x (B ++ binders (head_of (drop here rs))) → RoomFor (set_of x) (stmt_at d rs (here + 1))
  clause-room x e = subst (λ (w : List VarId). RoomFor w (stmt_at d rs (here + 1))) (sym (e.is ∙ clause-binds n B)) (room-clause B n.name n.context (stmt_at d rs (here + 1)) n.rest n.holds.room).0

  pub clause-marked : (x : IdSet) (next : ℕ) (row' : List ℕ) → BoundBy x (B ++ binders (head_of (drop here rs)))
      → MarkedTo next row' (here + 1 + length (flatten (stmt_at d rs (here + 1)))) (mark_stmt (stmt_at d rs (here + 1)) (set_of x) row)
      → ClausesLeft d rs place (left - 1) next (MarksClauses B whole row')
  unfolding mark_stmt
  clause-marked x next row' e m = clause-turn n m.next_is (record {
    room = (room-clause B n.name n.context (stmt_at d rs (here + 1)) n.rest n.holds.room).1;
    same = n.holds.same ∙ ap (mark_clauses n.rest B) (sym (m.row_is ∙ ap (λ (w : List VarId). mark_stmt (stmt_at d rs (here + 1)) w row) (e.is ∙ clause-binds n B)));
  })

pub marked-clauses : {d : ℕ} {rs : List Record} {B : List VarId} {place : ℕ} {whole : List ℕ} {left here : ℕ} {row : List ℕ}
    → ClausesLeft d rs place left here (MarksClauses B whole row) → left ≡ 0 → MarkedTo here row place whole
unfolding mark_stmt
marked-clauses l h = let e = clauses-end l h in record { next_is = e.0; row_is = sym e.1.same }

-- ── what is left of bodies ──

pub record MarksBodies (B : List VarId) (whole row : List ℕ) (ts : List Stmt) : Type 0 where
  pub room : All (RoomFor B) ts
  pub same : whole ≡ mark_bodies ts B row

module _ {d : ℕ} {rs : List Record} {B : List VarId} {place : ℕ} {whole : List ℕ} {left here : ℕ} {row : List ℕ} where
  pub body-marked : BodyNext d rs place left here (MarksBodies B whole row) → (next : ℕ) (row' : List ℕ)
      → MarkedTo next row' (here + length (flatten (stmt_at d rs here))) (mark_stmt (stmt_at d rs here) B row)
      → BodiesLeft d rs place (left - 1) next (MarksBodies B whole row')
  body-marked n next row' m = body-turn n m.next_is (record { room = n.holds.room.1; same = n.holds.same ∙ ap (mark_bodies n.rest B) (sym m.row_is) })

  pub marked-bodies : BodiesLeft d rs place left here (MarksBodies B whole row) → left ≡ 0 → MarkedTo here row place whole
  marked-bodies l h = let e = bodies-end l h in record { next_is = e.0; row_is = sym e.1.same }
