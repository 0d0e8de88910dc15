-- One statement of the pass over contexts at work (pass_work_spec/specs/Work.antt), from its record alone. Every statement goes the same way:
--   1. its record and its annotations give the context for its clauses: `clause_context`;
--   2. its clauses are linearized there;
--   3. with the max_id after them comes its step: the records that stand before its clauses in the output, and the context, the count of
--      variables in scope and the max_id for its bodies: `step_of`;
--   4. its bodies are linearized there, one after the other: `work_bodies`.
-- (proofs/WorkViews.antt: this is the pass.) The sizes of what a step writes are in Fronts.antt.
use Rattle.std.specs.Prelude.{ℕ, ◌+◌, Bool, true, false, List, [], ◌∷◌, ◌++◌, ℤ, length}
use Rattle.std.proofs.Math.Option.{Option, some}
use Rattle.syntax.specs.Context.{Context, id_of, ids, vars, same_context}
use Rattle.syntax.specs.declared.names.VarId.{VarId}
use Rattle.syntax.specs.declared.names.Identifier.{Identifier}
use Rattle.syntax.specs.declared.context.Chirality.TheVariants.{Prd, Cns, Ext}
use Rattle.syntax.specs.declared.types.Ty.{Ty}
use Rattle.syntax.specs.declared.types.Ty.TheVariants.{I64}
use Rattle.syntax.specs.declared.op.BinOp.{BinOp}
use Rattle.syntax.specs.declared.ifc.IfSort.{IfSort}
use Rattle.model.specs.Syntax.{Stmt}
use Rattle.model.specs.Lists.{zip}
use Rattle.model.specs.Rules.{bind, freshen_unless_lem, fresh_var_unless}
use Rattle.image_spec.specs.Records.{Record, definition, substitute, call, let', switch, create, invoke, literal, op, ifc, clause', print, exit}
use Rattle.pass_work_spec.specs.Work.{Work, bindings, own, used, used_option, used_all_lem, kept, moved_behind, respelled_unless, work_stmt}

-- document 01, "The Rust": a Substitute comes exactly where the context differs from the wanted list
unfoldable pub arranged : (right : Bool) → (targets wanted : Context) → List Record
arranged true targets wanted = []
arranged false targets wanted = substitute (zip targets (vars wanted)) ∷ []

-- what a statement's record comes to, once its clauses are done
pub record Step : Type 0 where
  -- the records that stand before the clauses in the output
  pub front : List Record
  -- the context, the count of variables in scope and the max_id for the bodies
  pub context : Work
  pub in_scope_lem : ℕ
  pub max_id : ℕ

-- Create's environment. document 01, "The Rust": from the context with its first j bindings moved behind the rest, j being the next context's length
unfoldable pub environment : (freeClauses freeNext : List VarId) → Work → Work
environment freeClauses freeNext W = kept freeClauses (moved_behind (length (kept freeNext W)) W)

-- ── the steps, one for each statement. m is the max_id after the clauses ──

-- call.rs
unfoldable pub step_call_lem : (label : Identifier) (args : Context) → Work → (n m : ℕ) → Step
step_call_lem label args W n m =
    let args' = used_all_lem W args in
    let right = same_context (bindings W) args' in
    let (freshened, m₁) = freshen_unless_lem right args' [] m in
    record { front = arranged right freshened args' ++ (call label [] ∷ []); context = W; in_scope_lem = n; max_id = m₁ }

-- let.rs
unfoldable pub step_let : (var : Identifier) (ty : Ty) (tag : Identifier) (args : Context) (freeNext : List VarId) → Work → (n m : ℕ) → Step
step_let var ty tag args freeNext W n m =
    let new = kept freeNext W in
    let args' = used_all_lem W args in
    let right = same_context (bindings W) (bindings new ++ args') in
    let (freshened, m₁) = freshen_unless_lem right args' (ids (bindings new)) m in
    record {
      front = arranged right (bindings new ++ freshened) (bindings new ++ args') ++ (let' var ty tag freshened ∷ []);
      context = new ++ (own n (bind var Prd ty) ∷ []);
      in_scope_lem = n + 1;
      max_id = m₁;
    }

-- switch.rs
unfoldable pub step_switch : (var : Identifier) (ty : Ty) (clauses : ℕ) (freeClauses : List VarId) → Work → (n m : ℕ) → Step
step_switch var ty clauses freeClauses W n m =
    let xtor = bind (used W var) Prd ty in
    let new = kept freeClauses W in
    let right = same_context (bindings W) (bindings new ++ (xtor ∷ [])) in
    let (xtor', m₁) = fresh_var_unless right xtor (ids (bindings new)) m in
    record {
      front = arranged right (bindings new ++ (xtor' ∷ [])) (bindings new ++ (xtor ∷ [])) ++ (switch xtor'.var ty clauses ∷ []);
      context = W;
      in_scope_lem = n;
      max_id = m₁;
    }

-- create.rs
unfoldable pub step_create : (var : Identifier) (ty : Ty) (clauses : ℕ) (freeClauses freeNext : List VarId) → Work → (n m : ℕ) → Step
step_create var ty clauses freeClauses freeNext W n m =
    let contextNext = kept freeNext W in
    let env = environment freeClauses freeNext W in
    let right = same_context (bindings W) (bindings contextNext ++ bindings env) in
    let (freshened, m₁) = freshen_unless_lem right (bindings contextNext) (ids (bindings env)) m in
    record {
      front = arranged right (freshened ++ bindings env) (bindings contextNext ++ bindings env) ++ (create var ty (some (bindings env)) clauses ∷ []);
      context = respelled_unless right contextNext freshened ++ (own n (bind var Cns ty) ∷ []);
      in_scope_lem = n + 1;
      max_id = m₁;
    }

-- invoke.rs
unfoldable pub step_invoke : (var tag : Identifier) (ty : Ty) (args : Context) → Work → (n m : ℕ) → Step
step_invoke var tag ty args W n m =
    let closure = bind (used W var) Cns ty in
    let args' = used_all_lem W args in
    let right = same_context (bindings W) (args' ++ (closure ∷ [])) in
    let (freshened, m₁) = freshen_unless_lem right args' (id_of closure ∷ []) m in
    record {
      front = arranged right (freshened ++ (closure ∷ [])) (args' ++ (closure ∷ [])) ++ (invoke closure.var tag ty [] ∷ []);
      context = W;
      in_scope_lem = n;
      max_id = m₁;
    }

-- literal.rs
unfoldable pub step_literal : (lit : ℤ) (var : Identifier) (freeNext : List VarId) → Work → (n m : ℕ) → Step
step_literal lit var freeNext W n m =
    let new = kept freeNext W in
    record {
      front = arranged (same_context (bindings W) (bindings new)) (bindings new) (bindings new) ++ (literal lit var ∷ []);
      context = new ++ (own n (bind var Ext I64) ∷ []);
      in_scope_lem = n + 1;
      max_id = m;
    }

-- op.rs
unfoldable pub step_op : (fst : Identifier) (op : BinOp) (snd var : Identifier) (freeNext : List VarId) → Work → (n m : ℕ) → Step
step_op fst o snd var freeNext W n m =
    let new = kept (fst.id ∷ snd.id ∷ freeNext) W in
    record {
      front = arranged (same_context (bindings W) (bindings new)) (bindings new) (bindings new) ++ (op (used W fst) o (used W snd) var ∷ []);
      context = new ++ (own n (bind var Ext I64) ∷ []);
      in_scope_lem = n + 1;
      max_id = m;
    }

-- ifc.rs: nothing is arranged
unfoldable pub step_if_c : (sort : IfSort) (fst : Identifier) (snd : Option Identifier) → Work → (n m : ℕ) → Step
step_if_c sort fst snd W n m = record { front = ifc sort (used W fst) (used_option W snd) ∷ []; context = W; in_scope_lem = n; max_id = m }

-- print.rs
unfoldable pub step_print_i64 : (newline : Bool) (var : Identifier) (freeNext : List VarId) → Work → (n m : ℕ) → Step
step_print_i64 newline var freeNext W n m =
    let new = kept (var.id ∷ freeNext) W in
    record {
      front = arranged (same_context (bindings W) (bindings new)) (bindings new) (bindings new) ++ (print newline (used W var) ∷ []);
      context = new;
      in_scope_lem = n;
      max_id = m;
    }

-- mod.rs: exit statements need not be changed
unfoldable pub step_exit : (var : Identifier) → Work → (n m : ℕ) → Step
step_exit var W n m = record { front = exit (used W var) ∷ []; context = W; in_scope_lem = n; max_id = m }

-- any other record is written as it is
unfoldable pub step_other : Record → Work → (n m : ℕ) → Step
step_other r W n m = record { front = r ∷ []; context = W; in_scope_lem = n; max_id = m }

-- ── by the record ──

abbrev pub step_of : Record → (freeClauses freeNext : List VarId) → Work → (n m : ℕ) → Step
step_of (definition x Γ) fc fn = step_other (definition x Γ)
step_of (substitute ps) fc fn = step_other (substitute ps)
step_of (call label args) fc fn = step_call_lem label args
step_of (let' var ty tag args) fc fn = step_let var ty tag args fn
step_of (switch var ty clauses) fc fn = step_switch var ty clauses fc
step_of (create var ty env clauses) fc fn = step_create var ty clauses fc fn
step_of (invoke var tag ty args) fc fn = step_invoke var tag ty args
step_of (literal lit var) fc fn = step_literal lit var fn
step_of (op fst o snd var) fc fn = step_op fst o snd var fn
step_of (ifc sort fst snd) fc fn = step_if_c sort fst snd
step_of (clause' x Γ) fc fn = step_other (clause' x Γ)
step_of (print newline var) fc fn = step_print_i64 newline var fn
step_of (exit var) fc fn = step_exit var

-- the context that the clauses of a record are linearized in
abbrev pub clause_context : Record → (freeClauses freeNext : List VarId) → Work → Work
clause_context (definition x Γ) fc fn W = W
clause_context (substitute ps) fc fn W = W
clause_context (call label args) fc fn W = W
clause_context (let' var ty tag args) fc fn W = W
clause_context (switch var ty clauses) fc fn W = kept fc W
clause_context (create var ty env clauses) fc fn W = environment fc fn W
clause_context (invoke var tag ty args) fc fn W = W
clause_context (literal lit var) fc fn W = W
clause_context (op fst o snd var) fc fn W = W
clause_context (ifc sort fst snd) fc fn W = W
clause_context (clause' x Γ) fc fn W = W
clause_context (print newline var) fc fn W = W
clause_context (exit var) fc fn W = W

-- do the parameters of its clauses come before the context? A Create's do.
abbrev pub params_first : Record → Bool
params_first (definition x Γ) = false
params_first (substitute ps) = false
params_first (call label args) = false
params_first (let' var ty tag args) = false
params_first (switch var ty clauses) = false
params_first (create var ty env clauses) = true
params_first (invoke var tag ty args) = false
params_first (literal lit var) = false
params_first (op fst o snd var) = false
params_first (ifc sort fst snd) = false
params_first (clause' x Γ) = false
params_first (print newline var) = false
params_first (exit var) = false

-- each body in turn in the same context, the max_id passed on
unfoldable pub work_bodies : List Stmt → Work → (n m : ℕ) → List Stmt × ℕ
work_bodies [] W n m = ([], m)
work_bodies (t ∷ ts) W n m =
    let (body, m₁) = work_stmt t W n m in
    let (rest, m₂) = work_bodies ts W n m₁ in
    (body ∷ rest, m₂)
