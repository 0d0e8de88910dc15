-- A scope with what is bound; and there is room for what a statement's record and a clause bind, where the limit on the scope was asked.
-- Assumes nothing.
use Prim.Native.Nat.{ℕ, ◌+◌, ◌≤◌}
use mathlib.Core.Path.{◌≡◌, sym, ap, subst}
use mathlib.Core.List.{List, ◌++◌}
use lib.ListN.{length, drop}
use Rattle.syntax.specs.Context.{ids}
use Rattle.syntax.specs.declared.names.VarId.{VarId}
use Rattle.model.specs.Syntax.{Clauses, clause}
use Rattle.image_spec.specs.Records.{Record}
use Rattle.image_read_parts.specs.Standing.{head_of}
use Rattle.image_places_spec.specs.Views.{binders}
use Rattle.image_places_spec.specs.Places.{stmt_at, StmtStands}
use Rattle.image_places_spec.proofs.Steps.{ClauseNext}
use Rattle.scope_spec.specs.Rooms.{RoomFor, RoomForClauses}
use Rattle.scope_spec.proofs.RoomLaws.{room-here, room-clause, room-binders}
use Rattle.image_read_nodes.proofs.StepLaws.{head_is}

-- ── room for what a record binds ──

pub binders-room : (d : ℕ) (rs : List Record) (i : ℕ) (B : List VarId) → StmtStands d rs i (stmt_at d rs i) → RoomFor B (stmt_at d rs i) → length (B ++ binders (head_of (drop i rs))) ≤ 64
binders-room d rs i B h k = subst (λ (r : Record). length (B ++ binders r) ≤ 64) (sym (head_is d rs i h)) (room-binders B (stmt_at d rs i) k)

module _ {d : ℕ} {rs : List Record} {place left here : ℕ} {P : Clauses → Type 0} (n : ClauseNext d rs place left here P) (B : List VarId) where
  -- the first clause binds its parameters
  pub clause-binds : B ++ binders (head_of (drop here rs)) ≡ B ++ ids n.context
  clause-binds = ap (λ (l : List Record). B ++ binders (head_of l)) n.head

  pub clause-bound : RoomForClauses B (clause n.name n.context (stmt_at d rs (here + 1)) n.rest) → length (B ++ binders (head_of (drop here rs))) ≤ 64
  clause-bound k = subst (λ (y : List VarId). length y ≤ 64) (sym clause-binds)
      (room-here (B ++ ids n.context) (stmt_at d rs (here + 1)) (room-clause B n.name n.context (stmt_at d rs (here + 1)) n.rest k).0)
