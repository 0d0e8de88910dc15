-- The pass in Rust's own form: statements annotated by `free_vars`, `subst_sim` on them, and `linearize` of the renamed next.
-- That recursion is not on a part of the statement, so it goes by how deep the statement is.
use Rattle.std.specs.Prelude.{ℕ, zero, suc, Bool, true, false, List, [], ◌∷◌, ℤ}
use Rattle.std.proofs.Math.Option.{Option}
use Rattle.syntax.specs.Context.{Context}
use Rattle.syntax.specs.declared.names.VarId.{VarId}
use Rattle.syntax.specs.declared.names.Identifier.{Identifier}
use Rattle.syntax.specs.declared.types.Ty.{Ty}
use Rattle.syntax.specs.declared.context.ContextBinding.{ContextBinding}
use Rattle.syntax.specs.declared.op.BinOp.{BinOp}
use Rattle.syntax.specs.declared.ifc.IfSort.{IfSort}
use Rattle.model.specs.Syntax.{Stmt, Clauses, Substitute, Call, Let, Switch, Create, Invoke, Literal, Op, IfC, PrintI64, Exit, end, clause, Def}
use Rattle.model.specs.Sizes.{depth}
use Rattle.model.specs.FreeVars.{free_vars, free_vars_clauses}
use Rattle.model.specs.Renaming.{Renaming, rename, rename_option, rename_context, rename_ids}
use Rattle.model.specs.Rules.{Linearize, rule_call, rule_let, rule_switch, rule_create, rule_invoke, rule_literal, rule_op, rule_if_c, rule_print_i64, rule_exit, rule_clause}

-- a statement with its annotations (`free_vars_next`, `free_vars_clauses`)
mutual
  pub data Noted : Type 0 where
    Substituteⁿ : (rearrange : List (ContextBinding × Identifier)) (next : Stmt) → Noted
    Callⁿ : (label : Identifier) (args : Context) → Noted
    Letⁿ : (var : Identifier) (ty : Ty) (tag : Identifier) (args : Context) (next : Noted) (freeNext : List VarId) → Noted
    Switchⁿ : (var : Identifier) (ty : Ty) (clauses : NotedClauses) (freeClauses : List VarId) → Noted
    Createⁿ : (var : Identifier) (ty : Ty) (clauses : NotedClauses) (freeClauses : List VarId) (next : Noted) (freeNext : List VarId) → Noted
    Invokeⁿ : (var : Identifier) (tag : Identifier) (ty : Ty) (args : Context) → Noted
    Literalⁿ : (lit : ℤ) (var : Identifier) (next : Noted) (freeNext : List VarId) → Noted
    Opⁿ : (fst : Identifier) (op : BinOp) (snd : Identifier) (var : Identifier) (next : Noted) (freeNext : List VarId) → Noted
    IfCⁿ : (sort : IfSort) (fst : Identifier) (snd : Option Identifier) (thenc elsec : Noted) → Noted
    PrintI64ⁿ : (newline : Bool) (var : Identifier) (next : Noted) (freeNext : List VarId) → Noted
    Exitⁿ : (var : Identifier) → Noted

  pub data NotedClauses : Type 0 where
    endⁿ : NotedClauses
    clauseⁿ : (xtor : Identifier) (context : Context) (body : Noted) (rest : NotedClauses) → NotedClauses

-- def.rs: `free_vars` is called for its annotations
unfoldable mutual
  pub annotate : Stmt → Noted
  annotate (Substitute ps next) = Substituteⁿ ps next
  annotate (Call label args) = Callⁿ label args
  annotate (Let var ty tag args next) = Letⁿ var ty tag args (annotate next) (free_vars next)
  annotate (Switch var ty cs) = Switchⁿ var ty (annotate_clauses cs) (free_vars_clauses cs)
  annotate (Create var ty env cs next) = Createⁿ var ty (annotate_clauses cs) (free_vars_clauses cs) (annotate next) (free_vars next)
  annotate (Invoke var tag ty args) = Invokeⁿ var tag ty args
  annotate (Literal lit var next) = Literalⁿ lit var (annotate next) (free_vars next)
  annotate (Op fst op snd var next) = Opⁿ fst op snd var (annotate next) (free_vars next)
  annotate (IfC sort fst snd thenc elsec) = IfCⁿ sort fst snd (annotate thenc) (annotate elsec)
  annotate (PrintI64 newline var next) = PrintI64ⁿ newline var (annotate next) (free_vars next)
  annotate (Exit var) = Exitⁿ var

  pub annotate_clauses : Clauses → NotedClauses
  annotate_clauses end = endⁿ
  annotate_clauses (clause xtor context body rest) = clauseⁿ xtor context (annotate body) (annotate_clauses rest)

-- the `subst_sim` of each statement; what a statement or a clause binds stays
unfoldable mutual
  pub subst_sim : Noted → Renaming → Noted
  subst_sim (Substituteⁿ ps next) σ = Substituteⁿ ps next
  subst_sim (Callⁿ label args) σ = Callⁿ label (rename_context σ args)
  subst_sim (Letⁿ var ty tag args next freeNext) σ = Letⁿ var ty tag (rename_context σ args) (subst_sim next σ) (rename_ids σ freeNext)
  subst_sim (Switchⁿ var ty cs freeClauses) σ = Switchⁿ (rename σ var) ty (subst_sim_clauses cs σ) (rename_ids σ freeClauses)
  subst_sim (Createⁿ var ty cs freeClauses next freeNext) σ = Createⁿ var ty (subst_sim_clauses cs σ) (rename_ids σ freeClauses) (subst_sim next σ) (rename_ids σ freeNext)
  subst_sim (Invokeⁿ var tag ty args) σ = Invokeⁿ (rename σ var) tag ty (rename_context σ args)
  subst_sim (Literalⁿ lit var next freeNext) σ = Literalⁿ lit var (subst_sim next σ) (rename_ids σ freeNext)
  subst_sim (Opⁿ fst op snd var next freeNext) σ = Opⁿ (rename σ fst) op (rename σ snd) var (subst_sim next σ) (rename_ids σ freeNext)
  subst_sim (IfCⁿ sort fst snd thenc elsec) σ = IfCⁿ sort (rename σ fst) (rename_option σ snd) (subst_sim thenc σ) (subst_sim elsec σ)
  subst_sim (PrintI64ⁿ newline var next freeNext) σ = PrintI64ⁿ newline (rename σ var) (subst_sim next σ) (rename_ids σ freeNext)
  subst_sim (Exitⁿ var) σ = Exitⁿ (rename σ var)

  pub subst_sim_clauses : NotedClauses → Renaming → NotedClauses
  subst_sim_clauses endⁿ σ = endⁿ
  subst_sim_clauses (clauseⁿ xtor context body rest) σ = clauseⁿ xtor context (subst_sim body σ) (subst_sim_clauses rest σ)

abbrev pub subst_unless : (right : Bool) → Noted → Renaming → Noted
subst_unless true next σ = next
subst_unless false next σ = subst_sim next σ

-- the clauses in turn, by the `linearize` of their bodies
unfoldable pub linearize_clausesⁿ : (Noted → Linearize Stmt) → NotedClauses → (before : Bool) → Linearize Clauses
linearize_clausesⁿ linearize_stmt endⁿ before = λ Γ m. (end, m)
linearize_clausesⁿ linearize_stmt (clauseⁿ xtor context body rest) before = rule_clause xtor context before (linearize_stmt body) (linearize_clausesⁿ linearize_stmt rest before)

-- `linearize` of a statement at most so many statements deep
unfoldable pub linearizeⁿ : ℕ → Noted → Linearize Stmt
linearizeⁿ zero a = λ Γ m. (Call (record { name = record { 0 = 0 }; id = record { 0 = 0 } }) [], m)
linearizeⁿ (suc n) (Substituteⁿ ps next) = λ Γ m. (Substitute ps next, m)
linearizeⁿ (suc n) (Callⁿ label args) = rule_call label args
linearizeⁿ (suc n) (Letⁿ var ty tag args next freeNext) = rule_let var ty tag args (linearizeⁿ n next) freeNext
linearizeⁿ (suc n) (Switchⁿ var ty cs freeClauses) = rule_switch var ty (linearize_clausesⁿ (linearizeⁿ n) cs false) freeClauses
linearizeⁿ (suc n) (Createⁿ var ty cs freeClauses next freeNext) =
    rule_create var ty (linearize_clausesⁿ (linearizeⁿ n) cs true) freeClauses (λ right σ. linearizeⁿ n (subst_unless right next σ)) freeNext
linearizeⁿ (suc n) (Invokeⁿ var tag ty args) = rule_invoke var tag ty args
linearizeⁿ (suc n) (Literalⁿ lit var next freeNext) = rule_literal lit var (linearizeⁿ n next) freeNext
linearizeⁿ (suc n) (Opⁿ fst op snd var next freeNext) = rule_op fst op snd var (linearizeⁿ n next) freeNext
linearizeⁿ (suc n) (IfCⁿ sort fst snd thenc elsec) = rule_if_c sort fst snd (linearizeⁿ n thenc) (linearizeⁿ n elsec)
linearizeⁿ (suc n) (PrintI64ⁿ newline var next freeNext) = rule_print_i64 newline var (linearizeⁿ n next) freeNext
linearizeⁿ (suc n) (Exitⁿ var) = rule_exit var

-- def.rs and program.rs: each body annotated, then linearized in the context of its parameters
unfoldable pub linearize_defsⁿ : List Def → ℕ → List Def × ℕ
linearize_defsⁿ [] m = ([], m)
linearize_defsⁿ (d ∷ ds) m =
    let (body, m₁) = linearizeⁿ (depth d.body) (annotate d.body) d.context m in
    let (rest, m₂) = linearize_defsⁿ ds m₁ in
    (record { name = d.name; context = d.context; body = body } ∷ rest, m₂)
