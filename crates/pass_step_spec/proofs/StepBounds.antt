-- How far a step goes: what it wants and the contexts that it gives are short (`wanted-short`, `clauses-fewer`, `bodies-longer`), max_id never falls (`step_rises`,
-- `bodies_rise`, `defs_rise`), and where the context fits at a statement and below it, those that it gives fit there (`fit-view`). Assumes nothing.
use Prim.Native.Nat.{ℕ, ◌+◌, ◌≤◌}
use native.Mathlib.Nat.{le_refl, le_trans}
use native.Mathlib.Omega.{arith}
use mathlib.Core.List.{List, [], ◌∷◌, ◌++◌, append-nil}
use lib.ListN.{length, length-append, length-map}
use Rattle.syntax.specs.Context.{ids, same_context}
use Rattle.syntax.specs.declared.names.VarId.{VarId}
use Rattle.syntax.specs.declared.context.Chirality.TheVariants.{Prd, Cns, Ext}
use Rattle.syntax.specs.declared.types.Ty.TheVariants.{I64}
use Rattle.model.specs.Syntax.{Stmt, Substitute, Call, Let, Switch, Create, Invoke, Literal, Op, IfC, PrintI64, Exit, Def}
use Rattle.model.specs.Sizes.{count}
use Rattle.model.specs.FreeVars.{free_vars}
use Rattle.model.specs.Rules.{bind, freshen_unless_lem}
use Rattle.model.proofs.Grows.{freshen_unless-grows, fresh_var_unless-grows}
use Rattle.image_spec.specs.Parse.{All}
use Rattle.image_spec.specs.Fields.{max_count}
use Rattle.image_spec.specs.Records.{Record, definition, substitute, call, let', switch, create, invoke, literal, op, ifc, clause', print, exit}
use Rattle.image_places_spec.specs.Views.{record_of, clauses_in, bodies_of, binders}
use Rattle.scope_spec.proofs.FreeViews.{Plain}
use Rattle.pass_work_spec.specs.declared.Entry.{Entry}
use Rattle.pass_work_spec.specs.Work.{Work, bindings, own, used, used_binding_lem, used_all_lem, kept, respelled_unless, owns, work_defs}
use Rattle.pass_work_spec.specs.Placed.{Fits, AllFit, AllFitClauses}
use Rattle.pass_work_spec.proofs.Lengths.{kept-fewer, env_fewer, unless-fewer}
use Rattle.pass_work_spec.proofs.Bounds.{work_rises}
use Rattle.pass_step_spec.specs.Steps.{environment, step_of, step_call_lem, step_let, step_switch, step_create, step_invoke, step_literal, step_op, step_if_c}
use Rattle.pass_step_spec.specs.Steps.{step_print_i64, step_exit, step_other, clause_context, params_first, work_bodies}
use Rattle.pass_step_spec.specs.Fronts.{wanted}
use Rattle.pass_step_spec.proofs.WorkViews.{free_in_clauses, free_in_bodies, def_done}

-- ── counts ──

pub environment-fewer : (fc fn : List VarId) (W : Work) → length (environment fc fn W) ≤ length W
unfolding environment
environment-fewer fc fn W = env_fewer fc (length (kept fn W)) W

-- document 01, question 7: with counts at most 32 and 64 variables in scope, a Substitute has at most 128 pairs
pub wanted-short : (t : Stmt) (fc fn : List VarId) (W : Work) → count t ≤ 32 → length W ≤ 64 → length (wanted (record_of t) fc fn W) ≤ max_count
unfolding wanted
wanted-short (Substitute ps next) fc fn W h k = omega (arith, length-map W (λ (e : Entry). e.binding))
wanted-short (Call label args) fc fn W h k = omega (arith, length-map args (used_binding_lem W))
wanted-short (Let var ty tag args next) fc fn W h k =
    omega (arith, length-append (bindings (kept fn W)) (used_all_lem W args), length-map (kept fn W) (λ (e : Entry). e.binding), kept-fewer fn W, length-map args (used_binding_lem W))
wanted-short (Switch var ty cs) fc fn W h k =
    omega (arith, length-append (bindings (kept fc W)) (bind (used W var) Prd ty ∷ []), length-map (kept fc W) (λ (e : Entry). e.binding), kept-fewer fc W)
wanted-short (Create var ty env cs next) fc fn W h k =
    omega (
      arith,
      length-append (bindings (kept fn W)) (bindings (environment fc fn W)),
      length-map (kept fn W) (λ (e : Entry). e.binding),
      kept-fewer fn W,
      length-map (environment fc fn W) (λ (e : Entry). e.binding),
      environment-fewer fc fn W,
    )
wanted-short (Invoke var tag ty args) fc fn W h k =
    omega (arith, length-append (used_all_lem W args) (bind (used W var) Cns ty ∷ []), length-map args (used_binding_lem W))
wanted-short (Literal lit var next) fc fn W h k = omega (arith, length-map (kept fn W) (λ (e : Entry). e.binding), kept-fewer fn W)
wanted-short (Op fst o snd var next) fc fn W h k =
    let s = fst.id ∷ snd.id ∷ fn in
    omega (arith, length-map (kept s W) (λ (e : Entry). e.binding), kept-fewer s W)
wanted-short (IfC sort fst snd thenc elsec) fc fn W h k = omega (arith, length-map W (λ (e : Entry). e.binding))
wanted-short (PrintI64 newline var next) fc fn W h k =
    let s = var.id ∷ fn in
    omega (arith, length-map (kept s W) (λ (e : Entry). e.binding), kept-fewer s W)
wanted-short (Exit var) fc fn W h k = omega (arith, length-map W (λ (e : Entry). e.binding))

-- the contexts for the clauses and for the bodies are no longer than the context and what the record binds
pub clauses-fewer : (r : Record) (fc fn : List VarId) (W : Work) → length (clause_context r fc fn W) ≤ length W
clauses-fewer (definition x Γ) fc fn W = omega arith
clauses-fewer (substitute ps) fc fn W = omega arith
clauses-fewer (call label args) fc fn W = omega arith
clauses-fewer (let' var ty tag args) fc fn W = omega arith
clauses-fewer (switch var ty clauses) fc fn W = kept-fewer fc W
clauses-fewer (create var ty env clauses) fc fn W = environment-fewer fc fn W
clauses-fewer (invoke var tag ty args) fc fn W = omega arith
clauses-fewer (literal lit var) fc fn W = omega arith
clauses-fewer (op fst o snd var) fc fn W = omega arith
clauses-fewer (ifc sort fst snd) fc fn W = omega arith
clauses-fewer (clause' x Γ) fc fn W = omega arith
clauses-fewer (print newline var) fc fn W = omega arith
clauses-fewer (exit var) fc fn W = omega arith

pub bodies-longer : (r : Record) (fc fn : List VarId) (W : Work) (n m : ℕ) → length (step_of r fc fn W n m).context ≤ length (binders r) + length W
unfolding step_call_lem step_let step_switch step_create step_invoke step_literal step_op step_if_c step_print_i64 step_exit step_other
bodies-longer (definition x Γ) fc fn W n m = omega arith
bodies-longer (substitute ps) fc fn W n m = omega arith
bodies-longer (call label args) fc fn W n m = omega arith
bodies-longer (let' var ty tag args) fc fn W n m = omega (arith, length-append (kept fn W) (own n (bind var Prd ty) ∷ []), kept-fewer fn W)
bodies-longer (switch var ty clauses) fc fn W n m = omega arith
bodies-longer (create var ty env₀ clauses) fc fn W n m =
    let env = bindings (environment fc fn W) in
    let right = same_context (bindings W) (bindings (kept fn W) ++ env) in
    let T = (freshen_unless_lem right (bindings (kept fn W)) (ids env) m).0 in
    omega (arith, length-append (respelled_unless right (kept fn W) T) (own n (bind var Cns ty) ∷ []), unless-fewer right (kept fn W) T, kept-fewer fn W)
bodies-longer (invoke var tag ty args) fc fn W n m = omega arith
bodies-longer (literal lit var) fc fn W n m = omega (arith, length-append (kept fn W) (own n (bind var Ext I64) ∷ []), kept-fewer fn W)
bodies-longer (op fst o snd var) fc fn W n m =
    let s = fst.id ∷ snd.id ∷ fn in
    omega (arith, length-append (kept s W) (own n (bind var Ext I64) ∷ []), kept-fewer s W)
bodies-longer (ifc sort fst snd) fc fn W n m = omega arith
bodies-longer (clause' x Γ) fc fn W n m = omega arith
bodies-longer (print newline var) fc fn W n m = omega (arith, kept-fewer (var.id ∷ fn) W)
bodies-longer (exit var) fc fn W n m = omega arith

-- ── max_id ──

pub step_rises : (r : Record) (fc fn : List VarId) (W : Work) (n m : ℕ) → m ≤ (step_of r fc fn W n m).max_id
unfolding step_call_lem step_let step_switch step_create step_invoke step_literal step_op step_if_c step_print_i64 step_exit step_other
step_rises (definition x Γ) fc fn W n m = le_refl m
step_rises (substitute ps) fc fn W n m = le_refl m
step_rises (call label args) fc fn W n m = freshen_unless-grows _ _ _ m
step_rises (let' var ty tag args) fc fn W n m = freshen_unless-grows _ _ _ m
step_rises (switch var ty clauses) fc fn W n m = fresh_var_unless-grows _ _ _ m
step_rises (create var ty env clauses) fc fn W n m = freshen_unless-grows _ _ _ m
step_rises (invoke var tag ty args) fc fn W n m = freshen_unless-grows _ _ _ m
step_rises (literal lit var) fc fn W n m = le_refl m
step_rises (op fst o snd var) fc fn W n m = le_refl m
step_rises (ifc sort fst snd) fc fn W n m = le_refl m
step_rises (clause' x Γ) fc fn W n m = le_refl m
step_rises (print newline var) fc fn W n m = le_refl m
step_rises (exit var) fc fn W n m = le_refl m

pub bodies_rise : (ts : List Stmt) (W : Work) (n m : ℕ) → m ≤ (work_bodies ts W n m).1
unfolding work_bodies
bodies_rise [] W n m = le_refl m
bodies_rise (t ∷ ts) W n m = le_trans (work_rises t W n m) (bodies_rise ts W n _)

pub defs_rise : (ds : List Def) (m : ℕ) → m ≤ (work_defs ds m).1
unfolding work_defs
defs_rise [] m = le_refl m
defs_rise (d ∷ ds) m = le_trans (work_rises d.body (owns 0 d.context) (length d.context) m) (defs_rise ds (def_done d ds m).1)

-- ── room ──

-- where the context at work fits at a statement and below it: there, at its clauses and at its bodies
pub record FitView (t : Stmt) (Δ : List VarId) (W : Work) (n : ℕ) : Type 0 where
  pub here : Fits Δ W n
  pub clauses : AllFitClauses (clauses_in t) (params_first (record_of t)) Δ (clause_context (record_of t) (free_in_clauses t) (free_in_bodies t) W) n
  pub bodies : (m : ℕ)
      → (let s = step_of (record_of t) (free_in_clauses t) (free_in_bodies t) W n m in All (λ (b : Stmt). AllFit b (Δ ++ binders (record_of t)) s.context s.in_scope_lem) (bodies_of t))

pub fit-view : (t : Stmt) → Plain t → (Δ : List VarId) (W : Work) (n : ℕ) → AllFit t Δ W n → FitView t Δ W n
unfolding AllFit environment step_call_lem step_let step_switch step_create step_invoke step_literal step_op step_if_c step_print_i64 step_exit
fit-view (Substitute ps next) p Δ W n a = absurd p
fit-view (Call label args) p Δ W n a = record { here = a; clauses = a; bodies = λ m. tt }
fit-view (Let var ty tag args next) p Δ W n a = record { here = a.0; clauses = a.0; bodies = λ m. rw (append-nil (free_vars next)) (a.1, tt) }
fit-view (Switch var ty cs) p Δ W n a = record { here = a.0; clauses = a.1; bodies = λ m. tt }
fit-view (Create var ty env cs next) p Δ W n a = record { here = a.0; clauses = rw (append-nil (free_vars next)) a.1; bodies = λ m. rw (append-nil (free_vars next)) (a.2 _ _, tt) }
fit-view (Invoke var tag ty args) p Δ W n a = record { here = a; clauses = a; bodies = λ m. tt }
fit-view (Literal lit var next) p Δ W n a = record { here = a.0; clauses = a.0; bodies = λ m. rw (append-nil (free_vars next)) (a.1, tt) }
fit-view (Op fst o snd var next) p Δ W n a = record { here = a.0; clauses = a.0; bodies = λ m. rw (append-nil (free_vars next)) (a.1, tt) }
fit-view (IfC sort fst snd thenc elsec) p Δ W n a = record { here = a.0; clauses = a.0; bodies = λ m. rw (append-nil Δ) (a.1, (a.2, tt)) }
fit-view (PrintI64 newline var next) p Δ W n a = record { here = a.0; clauses = a.0; bodies = λ m. rw (append-nil (free_vars next), append-nil Δ) (a.1, tt) }
fit-view (Exit var) p Δ W n a = record { here = a; clauses = a; bodies = λ m. tt }
