-- The pass without a renaming: each binding of the context at work knows the source's variable that it stands for. Create's fresh
-- names are then a matter of the context alone, and a variable of the source is looked up where it is met.
-- (proofs/SamePass.antt: on accepted programs this is the pass of `model`.)
--   · contexts at work, and what a variable of the source is called there
--   · the rules, one for each statement: model's rules (model/specs/Rules.antt), with their names
--   · the pass over a tree
use Rattle.std.specs.Prelude.{ℕ, ◌+◌, Bool, true, false, cond, List, [], ◌∷◌, ◌++◌, map, ℤ, length, take, drop}
use Rattle.std.proofs.Math.Option.{Option, none, some}
use Rattle.syntax.specs.Names.{same_var_id}
use Rattle.syntax.specs.Context.{Context, id_of, ids, same_context}
use Rattle.syntax.specs.Sets.{elem}
use Rattle.syntax.specs.Filter.{filtered}
use Rattle.syntax.specs.declared.names.VarId.{VarId}
use Rattle.syntax.specs.declared.names.Identifier.{Identifier}
use Rattle.syntax.specs.declared.context.Chirality.TheVariants.{Prd, Cns, Ext}
use Rattle.syntax.specs.declared.types.Ty.{Ty}
use Rattle.syntax.specs.declared.types.Ty.TheVariants.{I64}
use Rattle.syntax.specs.declared.context.ContextBinding.{ContextBinding}
use Rattle.syntax.specs.declared.op.BinOp.{BinOp}
use Rattle.syntax.specs.declared.ifc.IfSort.{IfSort}
use Rattle.model.specs.Syntax.{Stmt, Clauses, Substitute, Call, Let, Switch, Create, Invoke, Literal, Op, IfC, PrintI64, Exit, end, clause, Def}
use Rattle.model.specs.FreeVars.{free_vars, free_vars_clauses}
use Rattle.model.specs.Rules.{bind, arrange, freshen_unless_lem, fresh_var_unless}
use Rattle.pass_work_spec.specs.declared.Entry.{Entry}

-- ── contexts at work ──

abbrev pub Work : Type 0
Work = List Entry

abbrev pub bindings : Work → Context
bindings W = map (λ (e : Entry). e.binding) W

-- a binder at the n-th place in scope stands for itself
abbrev pub own : ℕ → ContextBinding → Entry
own n b = record { binding = b; source = id_of b; place = n; spelled = false }

-- a list of binders, the first at the n-th place
abbrev pub owns : ℕ → Context → Work
owns n [] = []
owns n (b ∷ Γ) = own n b ∷ owns (n + 1) Γ

-- the entry that stands for a variable of the source: the first found
abbrev pub entry_of : VarId → Work → Option Entry
entry_of x [] = none
entry_of x (e ∷ W) = cond (same_var_id x e.source) (some e) (entry_of x W)

-- what a use of a variable is written as: the binding's variable if that is spelled, as the source has it otherwise
abbrev pub spelling : Option Entry → Identifier → Identifier
spelling none x = x
spelling (some e) x = cond e.spelled e.binding.var x

unfoldable pub used : Work → Identifier → Identifier
used W x = spelling (entry_of x.id W) x

abbrev pub used_option : Work → Option Identifier → Option Identifier
used_option W none = none
used_option W (some x) = some (used W x)

abbrev pub used_binding_lem : Work → ContextBinding → ContextBinding
used_binding_lem W b = bind (used W b.var) b.chi b.ty

abbrev pub used_all_lem : Work → Context → Context
used_all_lem W Γ = map (used_binding_lem W) Γ

-- `filter_by_set`: what stands for a variable of the set is retained
abbrev pub kept : List VarId → Work → Work
kept s W = filtered (λ (e : Entry). elem e.source s) W

-- document 01, "The Rust": the context with its first j bindings moved behind the rest
unfoldable pub moved_behind : ℕ → Work → Work
moved_behind j W = drop j W ++ take j W

-- the entries under the bindings of T, one by one; from here on uses take these spellings
abbrev pub respell : Entry → ContextBinding → Entry
respell e b = record { binding = b; source = e.source; place = e.place; spelled = true }

abbrev pub respelled : Work → Context → Work
respelled [] T = []
respelled (e ∷ W) [] = []
respelled (e ∷ W) (b ∷ T) = respell e b ∷ respelled W T

-- only where a Substitute is inserted is renamed
unfoldable pub respelled_unless : (right : Bool) → Work → Context → Work
respelled_unless true W T = W
respelled_unless false W T = respelled W T

-- ── the rules ──

-- a part of a statement: from the context at work, the count of variables in scope (so the place of the next binder) and a max_id
-- to the part linearized and the max_id after it
abbrev pub Working : Type 0 → Type 0
Working A = Work → (n : ℕ) → (m : ℕ) → A × ℕ

-- call.rs
unfoldable pub work_call : (label : Identifier) (args : Context) → Working Stmt
work_call label args W n m =
    let args' = used_all_lem W args in
    let right = same_context (bindings W) args' in
    let (freshened, m₁) = freshen_unless_lem right args' [] m in
    (arrange right freshened args' (Call label []), m₁)

-- let.rs
unfoldable pub work_let : (var : Identifier) (ty : Ty) (tag : Identifier) (args : Context) (linearizeNext : Working Stmt) (freeNext : List VarId) → Working Stmt
work_let var ty tag args linearizeNext freeNext W n m =
    let new = kept freeNext W in
    let args' = used_all_lem W args in
    let right = same_context (bindings W) (bindings new ++ args') in
    let (freshened, m₁) = freshen_unless_lem right args' (ids (bindings new)) m in
    let (next, m₂) = linearizeNext (new ++ (own n (bind var Prd ty) ∷ [])) (n + 1) m₁ in
    (arrange right (bindings new ++ freshened) (bindings new ++ args') (Let var ty tag freshened next), m₂)

-- switch.rs
unfoldable pub work_switch : (var : Identifier) (ty : Ty) (linearize_clauses : Working Clauses) (freeClauses : List VarId) → Working Stmt
work_switch var ty linearize_clauses freeClauses W n m =
    let xtor = bind (used W var) Prd ty in
    let new = kept freeClauses W in
    let right = same_context (bindings W) (bindings new ++ (xtor ∷ [])) in
    let (clauses, m₁) = linearize_clauses new n m in
    let (xtor', m₂) = fresh_var_unless right xtor (ids (bindings new)) m₁ in
    (arrange right (bindings new ++ (xtor' ∷ [])) (bindings new ++ (xtor ∷ [])) (Switch xtor'.var ty clauses), m₂)

-- create.rs: where Rust renames the next, here the context for it is under the fresh names
unfoldable pub work_create : (var : Identifier) (ty : Ty) (linearize_clauses : Working Clauses) (freeClauses : List VarId) (linearizeNext : Working Stmt) (freeNext : List VarId) → Working Stmt
work_create var ty linearize_clauses freeClauses linearizeNext freeNext W n m =
    let contextNext = kept freeNext W in
    let env = kept freeClauses (moved_behind (length contextNext) W) in
    let right = same_context (bindings W) (bindings contextNext ++ bindings env) in
    let (clauses, m₁) = linearize_clauses env n m in
    let (freshened, m₂) = freshen_unless_lem right (bindings contextNext) (ids (bindings env)) m₁ in
    let (next, m₃) = linearizeNext (respelled_unless right contextNext freshened ++ (own n (bind var Cns ty) ∷ [])) (n + 1) m₂ in
    (arrange right (freshened ++ bindings env) (bindings contextNext ++ bindings env) (Create var ty (some (bindings env)) clauses next), m₃)

-- invoke.rs
unfoldable pub work_invoke : (var tag : Identifier) (ty : Ty) (args : Context) → Working Stmt
work_invoke var tag ty args W n m =
    let closure = bind (used W var) Cns ty in
    let args' = used_all_lem W args in
    let right = same_context (bindings W) (args' ++ (closure ∷ [])) in
    let (freshened, m₁) = freshen_unless_lem right args' (id_of closure ∷ []) m in
    (arrange right (freshened ++ (closure ∷ [])) (args' ++ (closure ∷ [])) (Invoke closure.var tag ty []), m₁)

-- literal.rs
unfoldable pub work_literal : (lit : ℤ) (var : Identifier) (linearizeNext : Working Stmt) (freeNext : List VarId) → Working Stmt
work_literal lit var linearizeNext freeNext W n m =
    let new = kept freeNext W in
    let (next, m₁) = linearizeNext (new ++ (own n (bind var Ext I64) ∷ [])) (n + 1) m in
    (arrange (same_context (bindings W) (bindings new)) (bindings new) (bindings new) (Literal lit var next), m₁)

-- op.rs
unfoldable pub work_op : (fst : Identifier) (op : BinOp) (snd var : Identifier) (linearizeNext : Working Stmt) (freeNext : List VarId) → Working Stmt
work_op fst op snd var linearizeNext freeNext W n m =
    let new = kept (fst.id ∷ snd.id ∷ freeNext) W in
    let (next, m₁) = linearizeNext (new ++ (own n (bind var Ext I64) ∷ [])) (n + 1) m in
    (arrange (same_context (bindings W) (bindings new)) (bindings new) (bindings new) (Op (used W fst) op (used W snd) var next), m₁)

-- ifc.rs
unfoldable pub work_if_c : (sort : IfSort) (fst : Identifier) (snd : Option Identifier) (linearizeThen linearizeElse : Working Stmt) → Working Stmt
work_if_c sort fst snd linearizeThen linearizeElse W n m =
    let (thenc, m₁) = linearizeThen W n m in
    let (elsec, m₂) = linearizeElse W n m₁ in
    (IfC sort (used W fst) (used_option W snd) thenc elsec, m₂)

-- print.rs
unfoldable pub work_print_i64 : (newline : Bool) (var : Identifier) (linearizeNext : Working Stmt) (freeNext : List VarId) → Working Stmt
work_print_i64 newline var linearizeNext freeNext W n m =
    let new = kept (var.id ∷ freeNext) W in
    let (next, m₁) = linearizeNext new n m in
    (arrange (same_context (bindings W) (bindings new)) (bindings new) (bindings new) (PrintI64 newline (used W var) next), m₁)

-- mod.rs: exit statements need not be changed
unfoldable pub work_exit : (var : Identifier) → Working Stmt
work_exit var W n m = (Exit (used W var), m)

-- a clause and those after it: of a Switch, whose parameters come behind the context, or of a Create, where they come before it
unfoldable pub work_clause : (xtor : Identifier) (context : Context) (before : Bool) (linearizeBody : Working Stmt) (linearizeRest : Working Clauses) → Working Clauses
work_clause xtor context before linearizeBody linearizeRest W n m =
    let params = owns n context in
    let (body, m₁) = linearizeBody (cond before (params ++ W) (W ++ params)) (n + length context) m in
    let (rest, m₂) = linearizeRest W n m₁ in
    (clause xtor context body rest, m₂)

-- ── the pass over a tree ──

unfoldable mutual
  pub work_stmt : Stmt → Working Stmt
  -- mod.rs has a panic here, which question 6 excludes
  work_stmt (Substitute ps next) = λ W n m. (Substitute ps next, m)
  work_stmt (Call label args) = work_call label args
  work_stmt (Let var ty tag args next) = work_let var ty tag args (work_stmt next) (free_vars next)
  work_stmt (Switch var ty cs) = work_switch var ty (work_clauses cs false) (free_vars_clauses cs)
  work_stmt (Create var ty env cs next) = work_create var ty (work_clauses cs true) (free_vars_clauses cs) (work_stmt next) (free_vars next)
  work_stmt (Invoke var tag ty args) = work_invoke var tag ty args
  work_stmt (Literal lit var next) = work_literal lit var (work_stmt next) (free_vars next)
  work_stmt (Op fst op snd var next) = work_op fst op snd var (work_stmt next) (free_vars next)
  work_stmt (IfC sort fst snd thenc elsec) = work_if_c sort fst snd (work_stmt thenc) (work_stmt elsec)
  work_stmt (PrintI64 newline var next) = work_print_i64 newline var (work_stmt next) (free_vars next)
  work_stmt (Exit var) = work_exit var

  -- the clauses of a Switch, whose parameters come behind the context, or of a Create, where they come before it
  pub work_clauses : Clauses → (before : Bool) → Working Clauses
  work_clauses end before = λ W n m. (end, m)
  work_clauses (clause xtor context body rest) before = work_clause xtor context before (work_stmt body) (work_clauses rest before)

-- def.rs and program.rs: each body in turn, in the context of its parameters
unfoldable pub work_defs : List Def → (m : ℕ) → List Def × ℕ
work_defs [] m = ([], m)
work_defs (d ∷ ds) m =
    let (body, m₁) = work_stmt d.body (owns 0 d.context) (length d.context) m in
    let (rest, m₂) = work_defs ds m₁ in
    (record { name = d.name; context = d.context; body = body } ∷ rest, m₂)
