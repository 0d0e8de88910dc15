-- The pass over contexts at work, as a walk over records sees it: `work_view` of a statement, `bodies-view` of bodies, `clause-view` of a clause,
-- `defs-view` of a definition. Assumes nothing.
use Prim.Native.Nat.{ℕ, suc, ◌+◌}
use mathlib.Core.Path.{◌≡◌, refl, ap}
use mathlib.Core.Bool.{Bool, true, false, cond}
use mathlib.Core.List.{List, [], ◌∷◌, ◌++◌, append-nil}
use lib.ListN.{length}
use Rattle.syntax.specs.Context.{Context, vars}
use Rattle.syntax.specs.declared.names.VarId.{VarId}
use Rattle.syntax.specs.declared.names.Identifier.{Identifier}
use Rattle.model.specs.Syntax.{Stmt, Substitute, Call, Let, Switch, Create, Invoke, Literal, Op, IfC, PrintI64, Exit, Clauses, end, clause, Def}
use Rattle.model.specs.Sizes.{count_clauses}
use Rattle.model.specs.FreeVars.{free_vars, free_vars_clauses}
use Rattle.model.specs.Lists.{zip}
use Rattle.model.specs.Rules.{arrange}
use Rattle.image_spec.specs.Parse.{each}
use Rattle.image_spec.specs.Records.{Record, definition, substitute, clause'}
use Rattle.image_spec.specs.Shape.{flatten, flatten_clauses, flatten_defs}
use Rattle.image_places_spec.specs.Views.{record_of, clauses_in, bodies_of}
use Rattle.scope_spec.specs.FreeRows.{free_bodies}
use Rattle.scope_spec.proofs.FreeViews.{Plain}
use Rattle.pass_work_spec.specs.Work.{Work, owns, kept, moved_behind, work_stmt, work_clauses, work_defs, work_call, work_let, work_switch, work_create}
use Rattle.pass_work_spec.specs.Work.{work_invoke, work_literal, work_op, work_if_c, work_print_i64, work_exit, work_clause}
use Rattle.pass_step_spec.specs.Steps.{Step, arranged, environment, step_of, step_call_lem, step_let, step_switch, step_create, step_invoke, step_literal}
use Rattle.pass_step_spec.specs.Steps.{step_op, step_if_c, step_print_i64, step_exit, clause_context, params_first, work_bodies}

-- ── a statement ──

-- the records of what is arranged: the Substitute if there is one, the statement's own record, and what follows that
arrange-flat : (right : Bool) (T wanted : Context) (t : Stmt) (r : Record) (rs : List Record) → flatten t ≡ r ∷ rs → flatten (arrange right T wanted t) ≡ (arranged right T wanted ++ (r ∷ [])) ++ rs
unfolding arrange arranged flatten
arrange-flat true T wanted t r rs e = e
arrange-flat false T wanted t r rs e = ap (λ (l : List Record). substitute (zip T (vars wanted)) ∷ l) e

-- the number of clauses stays
pub same_count : (cs : Clauses) (before : Bool) (W : Work) (n m : ℕ) → count_clauses (work_clauses cs before W n m).0 ≡ count_clauses cs
unfolding work_stmt work_clause
same_count end before W n m = refl
same_count (clause xtor context body rest) before W n m = ap suc (same_count rest before W n _)

-- the variables free in a statement's clauses, and in its bodies: what its annotations say
abbrev pub free_in_clauses : Stmt → List VarId
free_in_clauses t = free_vars_clauses (clauses_in t)

abbrev pub free_in_bodies : Stmt → List VarId
free_in_bodies t = free_bodies (bodies_of t)

module _ (t : Stmt) (W : Work) (n m : ℕ) where
  -- its clauses, then its step, then its bodies
  abbrev pub clauses_done : Clauses × ℕ
  clauses_done = work_clauses (clauses_in t) (params_first (record_of t)) (clause_context (record_of t) (free_in_clauses t) (free_in_bodies t) W) n m

  abbrev pub step_done : Step
  step_done = step_of (record_of t) (free_in_clauses t) (free_in_bodies t) W n clauses_done.1

  abbrev pub bodies_done : List Stmt × ℕ
  bodies_done = work_bodies (bodies_of t) step_done.context step_done.in_scope_lem step_done.max_id

  -- these are the statement linearized, and the max_id after it
  pub record WorkView : Type 0 where
    pub flat : flatten (work_stmt t W n m).0 ≡ step_done.front ++ (flatten_clauses clauses_done.0 ++ each flatten bodies_done.0)
    pub max : (work_stmt t W n m).1 ≡ bodies_done.1

pub work_view : (t : Stmt) → Plain t → (W : Work) (n m : ℕ) → WorkView t W n m
unfolding work_stmt work_bodies work_call work_let work_switch work_create work_invoke work_literal work_op work_if_c work_print_i64 work_exit
    environment step_call_lem step_let step_switch step_create step_invoke step_literal step_op step_if_c step_print_i64 step_exit flatten
work_view (Substitute ps next) p W n m = absurd p
work_view (Call label args) p W n m = record { flat = arrange-flat _ _ _ (Call label []) _ [] refl; max = refl }
work_view (Let var ty tag args next) p W n m = record { flat = rw (append-nil (free_vars next), append-nil) (arrange-flat _ _ _ _ _ _ refl); max = rw (append-nil (free_vars next)) }
work_view (Switch var ty cs) p W n m = record { flat = rw append-nil (arrange-flat _ _ _ _ _ _ (rw (same_count cs false (kept (free_vars_clauses cs) W) n m))); max = refl }
work_view (Create var ty env cs next) p W n m =
    let others = moved_behind (length (kept (free_vars next) W)) W in
    record {
      flat = rw (append-nil (free_vars next), append-nil) (arrange-flat _ _ _ _ _ _ (rw (same_count cs true (kept (free_vars_clauses cs) others) n m)));
      max = rw (append-nil (free_vars next));
    }
work_view (Invoke var tag ty args) p W n m = record { flat = arrange-flat _ _ _ (Invoke _ tag ty []) _ [] refl; max = refl }
work_view (Literal lit var next) p W n m = record { flat = rw (append-nil (free_vars next), append-nil) (arrange-flat _ _ _ _ _ _ refl); max = rw (append-nil (free_vars next)) }
work_view (Op fst op snd var next) p W n m = record { flat = rw (append-nil (free_vars next), append-nil) (arrange-flat _ _ _ _ _ _ refl); max = rw (append-nil (free_vars next)) }
work_view (IfC sort fst snd thenc elsec) p W n m = record { flat = rw append-nil; max = refl }
work_view (PrintI64 newline var next) p W n m = record { flat = rw (append-nil (free_vars next), append-nil) (arrange-flat _ _ _ _ _ _ refl); max = rw (append-nil (free_vars next)) }
work_view (Exit var) p W n m = record { flat = refl; max = refl }

-- ── bodies, a clause, a definition ──

pub record BodiesView (t : Stmt) (ts : List Stmt) (W : Work) (n m : ℕ) : Type 0 where
  pub flat : each flatten (work_bodies (t ∷ ts) W n m).0 ≡ flatten (work_stmt t W n m).0 ++ each flatten (work_bodies ts W n (work_stmt t W n m).1).0
  pub max : (work_bodies (t ∷ ts) W n m).1 ≡ (work_bodies ts W n (work_stmt t W n m).1).1

pub bodies-view : (t : Stmt) (ts : List Stmt) (W : Work) (n m : ℕ) → BodiesView t ts W n m
unfolding work_bodies
bodies-view t ts W n m = record { flat = refl; max = refl }

module _ (xtor : Identifier) (context : Context) (body : Stmt) (rest : Clauses) (before : Bool) (W : Work) (n m : ℕ) where
  -- the body of a clause, in the context with the clause's parameters; then the clauses after it
  abbrev pub body_done : Stmt × ℕ
  body_done = work_stmt body (cond before (owns n context ++ W) (W ++ owns n context)) (n + length context) m

  abbrev pub rest_done : Clauses × ℕ
  rest_done = work_clauses rest before W n body_done.1

  pub record ClauseView : Type 0 where
    pub flat : flatten_clauses (work_clauses (clause xtor context body rest) before W n m).0 ≡ clause' xtor context ∷ (flatten body_done.0 ++ flatten_clauses rest_done.0)
    pub max : (work_clauses (clause xtor context body rest) before W n m).1 ≡ rest_done.1

  pub clause-view : ClauseView
  unfolding work_stmt work_clause flatten
  clause-view = record { flat = refl; max = refl }

module _ (d : Def) (ds : List Def) (m : ℕ) where
  abbrev pub def_done : Stmt × ℕ
  def_done = work_stmt d.body (owns 0 d.context) (length d.context) m

  abbrev pub defs_done : List Def × ℕ
  defs_done = work_defs ds def_done.1

  pub record DefsView : Type 0 where
    pub flat : flatten_defs (work_defs (d ∷ ds) m).0 ≡ definition d.name d.context ∷ (flatten def_done.0 ++ flatten_defs defs_done.0)
    pub max : (work_defs (d ∷ ds) m).1 ≡ defs_done.1

  pub defs-view : DefsView
  unfolding work_defs flatten_defs
  defs-view = record { flat = refl; max = refl }
