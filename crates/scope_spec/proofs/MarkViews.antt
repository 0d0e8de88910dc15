-- The marks of a statement and of a clause as every walk over records finds them; and that what passed question 7 has room for what is
-- bound inside. Assumes nothing.
use Prim.Native.Nat.{ℕ}
use mathlib.Core.Path.{◌≡◌, refl}
use mathlib.Core.List.{List, ◌++◌, append-nil}
use Rattle.syntax.specs.declared.names.VarId.{VarId}
use Rattle.model.specs.Syntax.{Stmt, Substitute, Call, Let, Switch, Create, Invoke, Literal, Op, IfC, PrintI64, Exit}
use Rattle.image_places_spec.specs.Views.{record_of, clauses_in, bodies_of, binders, uses_of}
use Rattle.scope_spec.specs.Marking.{mark_all_lem, mark_stmt, mark_clauses, mark_bodies}

pub mark-view : (t : Stmt) (B : List VarId) (row : List ℕ)
    → mark_stmt t B row ≡ mark_bodies (bodies_of t) (B ++ binders (record_of t)) (mark_clauses (clauses_in t) B (mark_all_lem B (uses_of (record_of t)) row))
unfolding mark_stmt
mark-view (Substitute ps next) B row = rw append-nil
mark-view (Call label args) B row = refl
mark-view (Let var ty tag args next) B row = refl
mark-view (Switch var ty cs) B row = refl
mark-view (Create var ty env cs next) B row = refl
mark-view (Invoke var tag ty args) B row = refl
mark-view (Literal lit var next) B row = refl
mark-view (Op fst op snd var next) B row = refl
mark-view (IfC sort fst snd thenc elsec) B row = rw append-nil
mark-view (PrintI64 newline var next) B row = rw append-nil
mark-view (Exit var) B row = refl
