-- The pass over a tree. Create renames its remaining statement, annotations and all, before linearizing it. Here the renaming
-- is carried along instead, and applied where a variable or an annotation is met, so that the recursion is on the tree as it is.
-- (`Rust.antt` has the pass with Rust's `subst_sim`; `proofs/RustForm.antt` proves that they are the same.)
use Rattle.std.specs.Prelude.{ℕ, Bool, true, false, List, [], ◌∷◌}
use Rattle.model.specs.Syntax.{Stmt, Clauses, Substitute, Call, Let, Switch, Create, Invoke, Literal, Op, IfC, PrintI64, Exit, end, clause, Def, Prog}
use Rattle.model.specs.FreeVars.{free_vars, free_vars_clauses}
use Rattle.model.specs.Renaming.{Renaming, no_renaming, rename, rename_option, rename_context, rename_ids, rename_unless}
use Rattle.model.specs.Rules.{Linearize, rule_call, rule_let, rule_switch, rule_create, rule_invoke, rule_literal, rule_op, rule_if_c, rule_print_i64, rule_exit, rule_clause}

-- `linearize_stmt s ρ` linearizes s renamed by ρ
unfoldable mutual
  pub linearize_stmt : Stmt → Renaming → Linearize Stmt
  -- mod.rs has a panic here, which question 6 excludes
  linearize_stmt (Substitute ps next) ρ = λ Γ m. (Substitute ps next, m)
  linearize_stmt (Call label args) ρ = rule_call label (rename_context ρ args)
  linearize_stmt (Let var ty tag args next) ρ = rule_let var ty tag (rename_context ρ args) (linearize_stmt next ρ) (rename_ids ρ (free_vars next))
  linearize_stmt (Switch var ty cs) ρ = rule_switch (rename ρ var) ty (linearize_clauses cs false ρ) (rename_ids ρ (free_vars_clauses cs))
  linearize_stmt (Create var ty env cs next) ρ =
      rule_create var ty (linearize_clauses cs true ρ) (rename_ids ρ (free_vars_clauses cs)) (λ right σ. linearize_stmt next (rename_unless right ρ σ)) (rename_ids ρ (free_vars next))
  linearize_stmt (Invoke var tag ty args) ρ = rule_invoke (rename ρ var) tag ty (rename_context ρ args)
  linearize_stmt (Literal lit var next) ρ = rule_literal lit var (linearize_stmt next ρ) (rename_ids ρ (free_vars next))
  linearize_stmt (Op fst op snd var next) ρ = rule_op (rename ρ fst) op (rename ρ snd) var (linearize_stmt next ρ) (rename_ids ρ (free_vars next))
  linearize_stmt (IfC sort fst snd thenc elsec) ρ = rule_if_c sort (rename ρ fst) (rename_option ρ snd) (linearize_stmt thenc ρ) (linearize_stmt elsec ρ)
  linearize_stmt (PrintI64 newline var next) ρ = rule_print_i64 newline (rename ρ var) (linearize_stmt next ρ) (rename_ids ρ (free_vars next))
  linearize_stmt (Exit var) ρ = rule_exit (rename ρ var)

  -- the clauses of a Switch, whose parameters come behind the context, or of a Create, where they come before it
  pub linearize_clauses : Clauses → (before : Bool) → Renaming → Linearize Clauses
  linearize_clauses end before ρ = λ Γ m. (end, m)
  linearize_clauses (clause xtor context body rest) before ρ = rule_clause xtor context before (linearize_stmt body ρ) (linearize_clauses rest before ρ)

-- def.rs and program.rs: each body in turn, in the context of its parameters
unfoldable pub linearize_defs : List Def → ℕ → List Def × ℕ
linearize_defs [] m = ([], m)
linearize_defs (d ∷ ds) m =
    let (body, m₁) = linearize_stmt d.body no_renaming d.context m in
    let (rest, m₂) = linearize_defs ds m₁ in
    (record { name = d.name; context = d.context; body = body } ∷ rest, m₂)

unfoldable pub linearize : Prog → Prog
linearize P = record { defs = (linearize_defs P.defs P.max_id).0; max_id = (linearize_defs P.defs P.max_id).1 }
