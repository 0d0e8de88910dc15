-- The rules of the pass: the `linearize` of each statement, transcribed. What Rust calls on a part of the statement is a
-- parameter here (`linearizeNext` is `next.linearize`, `linearize_clauses` the same of the clauses), so a rule names no tree below
-- its own statement. `args`, `fst`, .. are the statement's fields as Rust sees them there, `freeNext` and `freeClauses` its annotations.
use Rattle.std.specs.Prelude.{ℕ, Bool, true, false, cond, List, [], ◌∷◌, ◌++◌, ℤ, length, take, drop}
use Rattle.std.proofs.Math.Option.{Option, some}
use Rattle.syntax.specs.Context.{Context, ids, vars, same_context, id_of}
use Rattle.syntax.specs.Sets.{elem}
use Rattle.syntax.specs.Fresh.{fresh, freshen, drawn}
use Rattle.syntax.specs.Filter.{filter_by_set_lem}
use Rattle.syntax.specs.declared.names.VarId.{VarId}
use Rattle.syntax.specs.declared.names.Identifier.{Identifier}
use Rattle.syntax.specs.declared.context.Chirality.{Chirality}
use Rattle.syntax.specs.declared.context.Chirality.TheVariants.{Prd, Cns, Ext}
use Rattle.syntax.specs.declared.types.Ty.{Ty}
use Rattle.syntax.specs.declared.types.Ty.TheVariants.{I64}
use Rattle.syntax.specs.declared.context.ContextBinding.{ContextBinding}
use Rattle.syntax.specs.declared.op.BinOp.{BinOp}
use Rattle.syntax.specs.declared.ifc.IfSort.{IfSort}
use Rattle.model.specs.Syntax.{Stmt, Clauses, Substitute, Call, Let, Switch, Create, Invoke, Literal, Op, IfC, PrintI64, Exit, clause}
use Rattle.model.specs.Lists.{zip}
use Rattle.model.specs.Renaming.{Renaming, renaming}

-- `linearize` of a part: from a context and a max_id to the part linearized and the max_id after it
abbrev pub Linearize : Type 0 → Type 0
Linearize A = Context → ℕ → A × ℕ

-- the binding of a variable at a chirality and a type
abbrev pub bind : Identifier → Chirality → Ty → ContextBinding
bind x χ τ = record { var = x; chi = χ; ty = τ }

-- document 01, "The Rust": a Substitute comes exactly where the context differs from the wanted list. `right` says that it does not differ.
unfoldable pub arrange : (right : Bool) → (targets wanted : Context) → Stmt → Stmt
arrange true targets wanted s = s
arrange false targets wanted s = Substitute (zip targets (vars wanted)) s

-- .. and only there are IDs drawn
unfoldable pub freshen_unless_lem : (right : Bool) → Context → (clashes : List VarId) → ℕ → Context × ℕ
freshen_unless_lem true Γ clashes m = (Γ, m)
freshen_unless_lem false Γ clashes m = freshen Γ clashes m

-- switch.rs: a fresh name for the variable matched on if it is duplicated
abbrev pub fresh_var_lem : (clash : Bool) → ContextBinding → ℕ → ContextBinding × ℕ
fresh_var_lem true b m = (drawn m b, fresh m)
fresh_var_lem false b m = (b, m)

unfoldable pub fresh_var_unless : (right : Bool) → ContextBinding → (clashes : List VarId) → ℕ → ContextBinding × ℕ
fresh_var_unless true b clashes m = (b, m)
fresh_var_unless false b clashes m = fresh_var_lem (elem (id_of b) clashes) b m

-- document 01, "The Rust": the context with its first j bindings moved behind the rest, j being the next context's length
unfoldable pub move_behind_lem : ℕ → Context → Context
move_behind_lem j Γ = drop j Γ ++ take j Γ

-- call.rs
abbrev pub rule_call : (label : Identifier) (args : Context) → Linearize Stmt
rule_call label args Γ m =
    let right = same_context Γ args in
    let (freshened, m₁) = freshen_unless_lem right args [] m in
    (arrange right freshened args (Call label []), m₁)

-- let.rs
abbrev pub rule_let : (var : Identifier) (ty : Ty) (tag : Identifier) (args : Context) (linearizeNext : Linearize Stmt) (freeNext : List VarId) → Linearize Stmt
rule_let var ty tag args linearizeNext freeNext Γ m =
    let new = filter_by_set_lem freeNext Γ in
    let right = same_context Γ (new ++ args) in
    let (freshened, m₁) = freshen_unless_lem right args (ids new) m in
    let (next, m₂) = linearizeNext (new ++ (bind var Prd ty ∷ [])) m₁ in
    (arrange right (new ++ freshened) (new ++ args) (Let var ty tag freshened next), m₂)

-- switch.rs
abbrev pub rule_switch : (var : Identifier) (ty : Ty) (linearize_clauses : Linearize Clauses) (freeClauses : List VarId) → Linearize Stmt
rule_switch var ty linearize_clauses freeClauses Γ m =
    let xtor = bind var Prd ty in
    let new = filter_by_set_lem freeClauses Γ in
    let right = same_context Γ (new ++ (xtor ∷ [])) in
    let (clauses, m₁) = linearize_clauses new m in
    let (xtor', m₂) = fresh_var_unless right xtor (ids new) m₁ in
    (arrange right (new ++ (xtor' ∷ [])) (new ++ (xtor ∷ [])) (Switch xtor'.var ty clauses), m₂)

-- create.rs: `linearizeNext right σ` linearizes the next, renamed by σ unless the context is right
abbrev pub rule_create : (var : Identifier) (ty : Ty) (linearize_clauses : Linearize Clauses) (freeClauses : List VarId) (linearizeNext : Bool → Renaming → Linearize Stmt) (freeNext : List VarId)
    → Linearize Stmt
rule_create var ty linearize_clauses freeClauses linearizeNext freeNext Γ m =
    let contextNext = filter_by_set_lem freeNext Γ in
    let env = filter_by_set_lem freeClauses (move_behind_lem (length contextNext) Γ) in
    let right = same_context Γ (contextNext ++ env) in
    let (clauses, m₁) = linearize_clauses env m in
    let (freshened, m₂) = freshen_unless_lem right contextNext (ids env) m₁ in
    let (next, m₃) = linearizeNext right (renaming contextNext freshened) (freshened ++ (bind var Cns ty ∷ [])) m₂ in
    (arrange right (freshened ++ env) (contextNext ++ env) (Create var ty (some env) clauses next), m₃)

-- invoke.rs
abbrev pub rule_invoke : (var tag : Identifier) (ty : Ty) (args : Context) → Linearize Stmt
rule_invoke var tag ty args Γ m =
    let closure = bind var Cns ty in
    let right = same_context Γ (args ++ (closure ∷ [])) in
    let (freshened, m₁) = freshen_unless_lem right args (id_of closure ∷ []) m in
    (arrange right (freshened ++ (closure ∷ [])) (args ++ (closure ∷ [])) (Invoke var tag ty []), m₁)

-- literal.rs
abbrev pub rule_literal : (lit : ℤ) (var : Identifier) (linearizeNext : Linearize Stmt) (freeNext : List VarId) → Linearize Stmt
rule_literal lit var linearizeNext freeNext Γ m =
    let new = filter_by_set_lem freeNext Γ in
    let (next, m₁) = linearizeNext (new ++ (bind var Ext I64 ∷ [])) m in
    (arrange (same_context Γ new) new new (Literal lit var next), m₁)

-- op.rs
abbrev pub rule_op : (fst : Identifier) (op : BinOp) (snd var : Identifier) (linearizeNext : Linearize Stmt) (freeNext : List VarId) → Linearize Stmt
rule_op fst op snd var linearizeNext freeNext Γ m =
    let new = filter_by_set_lem (fst.id ∷ snd.id ∷ freeNext) Γ in
    let (next, m₁) = linearizeNext (new ++ (bind var Ext I64 ∷ [])) m in
    (arrange (same_context Γ new) new new (Op fst op snd var next), m₁)

-- ifc.rs
abbrev pub rule_if_c : (sort : IfSort) (fst : Identifier) (snd : Option Identifier) (linearizeThen linearizeElse : Linearize Stmt) → Linearize Stmt
rule_if_c sort fst snd linearizeThen linearizeElse Γ m =
    let (thenc, m₁) = linearizeThen Γ m in
    let (elsec, m₂) = linearizeElse Γ m₁ in
    (IfC sort fst snd thenc elsec, m₂)

-- print.rs
abbrev pub rule_print_i64 : (newline : Bool) (var : Identifier) (linearizeNext : Linearize Stmt) (freeNext : List VarId) → Linearize Stmt
rule_print_i64 newline var linearizeNext freeNext Γ m =
    let new = filter_by_set_lem (var.id ∷ freeNext) Γ in
    let (next, m₁) = linearizeNext new m in
    (arrange (same_context Γ new) new new (PrintI64 newline var next), m₁)

-- mod.rs: exit statements need not be changed
abbrev pub rule_exit : (var : Identifier) → Linearize Stmt
rule_exit var Γ m = (Exit var, m)

-- a clause and those after it: of a Switch, whose parameters come behind the context, or of a Create, where they come before it
abbrev pub rule_clause : (xtor : Identifier) (context : Context) (before : Bool) (linearizeBody : Linearize Stmt) (linearizeRest : Linearize Clauses) → Linearize Clauses
rule_clause xtor context before linearizeBody linearizeRest Γ m =
    let (body, m₁) = linearizeBody (cond before (context ++ Γ) (Γ ++ context)) m in
    let (rest, m₂) = linearizeRest Γ m₁ in
    (clause xtor context body rest, m₂)
