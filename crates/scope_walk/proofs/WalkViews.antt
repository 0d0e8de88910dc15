-- The scope check's walk of a statement by its record, its clauses and its bodies. Assumes nothing.
use Prim.Native.Nat.{ℕ}
use mathlib.Core.Path.{◌≡◌, refl}
use mathlib.Core.List.{List}
use Rattle.syntax.specs.declared.names.VarId.{VarId}
use Rattle.model.specs.Syntax.{Stmt, Substitute, Call, Let, Switch, Create, Invoke, Literal, Op, IfC, PrintI64, Exit, Clauses}
use Rattle.image_spec.specs.Records.{Record}
use Rattle.image_places_spec.specs.Views.{record_of, clauses_in, bodies_of, binders, uses_of}
use Rattle.scope_spec.specs.declared.Verdict.{Verdict}
use Rattle.scope_spec.specs.Walk.{Scoped, use_all, enter_all, walk_stmt, walk_clauses, walk_bodies}

-- ── a statement ──

-- the scope and the verdict behind a statement's clauses
abbrev pub after_clauses : (r : Record) (cs : Clauses) (M : ℕ) → List VarId → Verdict → Scoped
after_clauses r cs M Δ v = enter_all M (binders r) (record { scope = Δ; verdict = walk_clauses cs M Δ (use_all Δ (uses_of r) v) })

-- a statement uses what its record uses, walks its clauses, binds what its record binds and walks its bodies
pub walk_view : (t : Stmt) (M : ℕ) (Δ : List VarId) (v : Verdict)
    → walk_stmt t M Δ v ≡ walk_bodies (bodies_of t) M (after_clauses (record_of t) (clauses_in t) M Δ v).scope (after_clauses (record_of t) (clauses_in t) M Δ v).verdict
unfolding walk_stmt
walk_view (Substitute ps next) M Δ v = refl
walk_view (Call label args) M Δ v = refl
walk_view (Let var ty tag args next) M Δ v = refl
walk_view (Switch var ty cs) M Δ v = refl
walk_view (Create var ty env cs next) M Δ v = refl
walk_view (Invoke var tag ty args) M Δ v = refl
walk_view (Literal lit var next) M Δ v = refl
walk_view (Op fst op snd var next) M Δ v = refl
walk_view (IfC sort fst snd thenc elsec) M Δ v = refl
walk_view (PrintI64 newline var next) M Δ v = refl
walk_view (Exit var) M Δ v = refl
