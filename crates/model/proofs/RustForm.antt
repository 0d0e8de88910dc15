-- Carrying a renaming along is the same as Rust's substituting it: `linearize_stmt s ρ` is `linearize` of s, annotated and renamed by ρ. Assumes nothing.
use mathlib.Core.Path.{◌≡◌, refl, sym, ◌∙◌, ap, ap₂, fun_ext}
use mathlib.Core.Bool.{Bool, true, false}
use mathlib.Core.List.{List, [], ◌∷◌}
use mathlib.Core.Option.{Option, none, some}
use Prim.Native.Nat.{ℕ, zero, suc, ◌≤◌}
use native.Mathlib.Omega.{arith}
use Rattle.syntax.specs.Context.{Context}
use Rattle.syntax.specs.declared.names.VarId.{VarId}
use Rattle.syntax.specs.declared.names.Identifier.{Identifier}
use Rattle.model.specs.Syntax.{Stmt, Clauses, Substitute, Call, Let, Switch, Create, Invoke, Literal, Op, IfC, PrintI64, Exit, end, clause, Def}
use Rattle.model.specs.FreeVars.{free_vars, free_vars_clauses}
use Rattle.model.specs.Renaming.{Renaming, no_renaming, rename, rename_option, rename_context, rename_ids, or_self, then_rename, ◌⨾◌, rename_unless}
use Rattle.model.specs.Rules.{Linearize, rule_let, rule_switch, rule_create, rule_literal, rule_op, rule_if_c, rule_print_i64, rule_clause}
use Rattle.model.specs.Pass.{linearize_stmt, linearize_clauses, linearize_defs}
use Rattle.model.specs.Sizes.{depth, depth_clauses}
use Rattle.model.specs.Rust.{Noted, NotedClauses, Substituteⁿ, Callⁿ, Letⁿ, Switchⁿ, Createⁿ, Invokeⁿ, Literalⁿ, Opⁿ, IfCⁿ, PrintI64ⁿ, Exitⁿ, endⁿ, clauseⁿ}
use Rattle.model.specs.Rust.{annotate, annotate_clauses, subst_sim, subst_sim_clauses, subst_unless, linearize_clausesⁿ, linearizeⁿ, linearize_defsⁿ}
use Rattle.model.proofs.Renames.{rename_id-⨾}

-- ── first ρ, then σ ──

rename-⨾ : (ρ σ : Renaming) (x : Identifier) → rename (ρ ⨾ σ) x ≡ rename σ (rename ρ x)
rename-⨾ ρ σ x = go (ρ x.id)
  where
    go : (o : Option Identifier) → or_self (then_rename o (σ x.id) σ) x ≡ rename σ (or_self o x)
    go none = refl
    go (some y) = refl

rename_option-⨾ : (ρ σ : Renaming) (o : Option Identifier) → rename_option (ρ ⨾ σ) o ≡ rename_option σ (rename_option ρ o)
rename_option-⨾ ρ σ none = refl
rename_option-⨾ ρ σ (some x) = ap some (rename-⨾ ρ σ x)

rename_ids-⨾ : (ρ σ : Renaming) (s : List VarId) → rename_ids (ρ ⨾ σ) s ≡ rename_ids σ (rename_ids ρ s)
rename_ids-⨾ ρ σ [] = refl
rename_ids-⨾ ρ σ (x ∷ s) = ap₂ (λ (y : VarId) (r : List VarId). y ∷ r) (rename_id-⨾ ρ σ x) (rename_ids-⨾ ρ σ s)

rename_context-⨾ : (ρ σ : Renaming) (Γ : Context) → rename_context (ρ ⨾ σ) Γ ≡ rename_context σ (rename_context ρ Γ)
rename_context-⨾ ρ σ [] = refl
rename_context-⨾ ρ σ (b ∷ Γ) = ap₂ (λ (v : Identifier) (r : Context). record { var = v; chi = b.chi; ty = b.ty } ∷ r) (rename-⨾ ρ σ b.var) (rename_context-⨾ ρ σ Γ)

mutual
  unfolding subst_sim

  pub subst_sim-⨾ : (a : Noted) (ρ σ : Renaming) → subst_sim a (ρ ⨾ σ) ≡ subst_sim (subst_sim a ρ) σ
  subst_sim-⨾ (Substituteⁿ ps next) ρ σ = refl
  subst_sim-⨾ (Callⁿ label args) ρ σ = cc (rename_context-⨾ ρ σ args)
  subst_sim-⨾ (Letⁿ var ty tag args next fv) ρ σ = cc (rename_context-⨾ ρ σ args, subst_sim-⨾ next ρ σ, rename_ids-⨾ ρ σ fv)
  subst_sim-⨾ (Switchⁿ var ty cs fv) ρ σ = cc (rename-⨾ ρ σ var, subst_sim_clauses-⨾ cs ρ σ, rename_ids-⨾ ρ σ fv)
  subst_sim-⨾ (Createⁿ var ty cs fc next fv) ρ σ = cc (subst_sim_clauses-⨾ cs ρ σ, rename_ids-⨾ ρ σ fc, subst_sim-⨾ next ρ σ, rename_ids-⨾ ρ σ fv)
  subst_sim-⨾ (Invokeⁿ var tag ty args) ρ σ = cc (rename-⨾ ρ σ var, rename_context-⨾ ρ σ args)
  subst_sim-⨾ (Literalⁿ lit var next fv) ρ σ = cc (subst_sim-⨾ next ρ σ, rename_ids-⨾ ρ σ fv)
  subst_sim-⨾ (Opⁿ fst op snd var next fv) ρ σ = cc (rename-⨾ ρ σ fst, rename-⨾ ρ σ snd, subst_sim-⨾ next ρ σ, rename_ids-⨾ ρ σ fv)
  subst_sim-⨾ (IfCⁿ sort fst snd thenc elsec) ρ σ = cc (rename-⨾ ρ σ fst, rename_option-⨾ ρ σ snd, subst_sim-⨾ thenc ρ σ, subst_sim-⨾ elsec ρ σ)
  subst_sim-⨾ (PrintI64ⁿ newline var next fv) ρ σ = cc (rename-⨾ ρ σ var, subst_sim-⨾ next ρ σ, rename_ids-⨾ ρ σ fv)
  subst_sim-⨾ (Exitⁿ var) ρ σ = cc (rename-⨾ ρ σ var)

  pub subst_sim_clauses-⨾ : (cs : NotedClauses) (ρ σ : Renaming) → subst_sim_clauses cs (ρ ⨾ σ) ≡ subst_sim_clauses (subst_sim_clauses cs ρ) σ
  subst_sim_clauses-⨾ endⁿ ρ σ = refl
  subst_sim_clauses-⨾ (clauseⁿ xtor context body rest) ρ σ = cc (subst_sim-⨾ body ρ σ, subst_sim_clauses-⨾ rest ρ σ)

-- ── the two forms ──

-- Create's next: renamed by Rust, or by the renaming carried
renamed-next : (n : ℕ) (next : Stmt) (ρ : Renaming) → ((τ : Renaming) → linearizeⁿ n (subst_sim (annotate next) τ) ≡ linearize_stmt next τ) → (right : Bool) (σ : Renaming)
    → linearizeⁿ n (subst_unless right (subst_sim (annotate next) ρ) σ) ≡ linearize_stmt next (rename_unless right ρ σ)
unfolding rename_unless
renamed-next n next ρ h true σ = h ρ
renamed-next n next ρ h false σ = ap (linearizeⁿ n) (sym (subst_sim-⨾ (annotate next) ρ σ)) ∙ h (ρ ⨾ σ)

mutual
  unfolding linearizeⁿ linearize_clausesⁿ subst_sim annotate linearize_stmt depth

  pub rust_form : (s : Stmt) (n : ℕ) (ρ : Renaming) → depth s ≤ n → linearizeⁿ n (subst_sim (annotate s) ρ) ≡ linearize_stmt s ρ
  rust_form (Substitute ps next) zero ρ h = absurd (omega arith)
  rust_form (Substitute ps next) (suc n) ρ h = refl
  rust_form (Call label args) zero ρ h = absurd (omega arith)
  rust_form (Call label args) (suc n) ρ h = refl
  rust_form (Let var ty tag args next) zero ρ h = absurd (omega arith)
  rust_form (Let var ty tag args next) (suc n) ρ h = ap (λ (f : Linearize Stmt). rule_let var ty tag (rename_context ρ args) f (rename_ids ρ (free_vars next))) (rust_form next n ρ (omega arith))
  rust_form (Switch var ty cs) zero ρ h = absurd (omega arith)
  rust_form (Switch var ty cs) (suc n) ρ h = ap (λ (f : Linearize Clauses). rule_switch (rename ρ var) ty f (rename_ids ρ (free_vars_clauses cs))) (rust_form_clauses cs n ρ false (omega arith))
  rust_form (Create var ty env cs next) zero ρ h = absurd (omega arith)
  rust_form (Create var ty env cs next) (suc n) ρ h =
      ap₂ (λ (f : Linearize Clauses) (g : Bool → Renaming → Linearize Stmt). rule_create var ty f (rename_ids ρ (free_vars_clauses cs)) g (rename_ids ρ (free_vars next)))
      (rust_form_clauses cs n ρ true (omega arith))
      (fun_ext (λ right. fun_ext (λ σ. renamed-next n next ρ (λ τ. rust_form next n τ (omega arith)) right σ)))
  rust_form (Invoke var tag ty args) zero ρ h = absurd (omega arith)
  rust_form (Invoke var tag ty args) (suc n) ρ h = refl
  rust_form (Literal lit var next) zero ρ h = absurd (omega arith)
  rust_form (Literal lit var next) (suc n) ρ h = ap (λ (f : Linearize Stmt). rule_literal lit var f (rename_ids ρ (free_vars next))) (rust_form next n ρ (omega arith))
  rust_form (Op fst op snd var next) zero ρ h = absurd (omega arith)
  rust_form (Op fst op snd var next) (suc n) ρ h = ap (λ (f : Linearize Stmt). rule_op (rename ρ fst) op (rename ρ snd) var f (rename_ids ρ (free_vars next))) (rust_form next n ρ (omega arith))
  rust_form (IfC sort fst snd thenc elsec) zero ρ h = absurd (omega arith)
  rust_form (IfC sort fst snd thenc elsec) (suc n) ρ h =
      ap₂ (λ (f g : Linearize Stmt). rule_if_c sort (rename ρ fst) (rename_option ρ snd) f g) (rust_form thenc n ρ (omega arith)) (rust_form elsec n ρ (omega arith))
  rust_form (PrintI64 newline var next) zero ρ h = absurd (omega arith)
  rust_form (PrintI64 newline var next) (suc n) ρ h = ap (λ (f : Linearize Stmt). rule_print_i64 newline (rename ρ var) f (rename_ids ρ (free_vars next))) (rust_form next n ρ (omega arith))
  rust_form (Exit var) zero ρ h = absurd (omega arith)
  rust_form (Exit var) (suc n) ρ h = refl

  pub rust_form_clauses : (cs : Clauses) (n : ℕ) (ρ : Renaming) (before : Bool) → depth_clauses cs ≤ n
      → linearize_clausesⁿ (linearizeⁿ n) (subst_sim_clauses (annotate_clauses cs) ρ) before ≡ linearize_clauses cs before ρ
  rust_form_clauses end n ρ before h = refl
  rust_form_clauses (clause xtor context body rest) n ρ before h =
      ap₂ (λ (f : Linearize Stmt) (g : Linearize Clauses). rule_clause xtor context before f g) (rust_form body n ρ (omega arith)) (rust_form_clauses rest n ρ before (omega arith))

-- ── nothing renamed ──

ren_ids_none : (s : List VarId) → rename_ids no_renaming s ≡ s
ren_ids_none [] = refl
ren_ids_none (x ∷ s) = ap (λ (r : List VarId). x ∷ r) (ren_ids_none s)

ren_ctx_none : (Γ : Context) → rename_context no_renaming Γ ≡ Γ
ren_ctx_none [] = refl
ren_ctx_none (b ∷ Γ) = ap (λ (r : Context). b ∷ r) (ren_ctx_none Γ)

ren_opt_none : (o : Option Identifier) → rename_option no_renaming o ≡ o
ren_opt_none none = refl
ren_opt_none (some x) = refl

mutual
  unfolding subst_sim

  subst_sim_none : (a : Noted) → subst_sim a no_renaming ≡ a
  subst_sim_none (Substituteⁿ ps next) = refl
  subst_sim_none (Callⁿ label args) = cc (ren_ctx_none args)
  subst_sim_none (Letⁿ var ty tag args next fv) = cc (ren_ctx_none args, subst_sim_none next, ren_ids_none fv)
  subst_sim_none (Switchⁿ var ty cs fv) = cc (subst_sim_clauses_none cs, ren_ids_none fv)
  subst_sim_none (Createⁿ var ty cs fc next fv) = cc (subst_sim_clauses_none cs, ren_ids_none fc, subst_sim_none next, ren_ids_none fv)
  subst_sim_none (Invokeⁿ var tag ty args) = cc (ren_ctx_none args)
  subst_sim_none (Literalⁿ lit var next fv) = cc (subst_sim_none next, ren_ids_none fv)
  subst_sim_none (Opⁿ fst op snd var next fv) = cc (subst_sim_none next, ren_ids_none fv)
  subst_sim_none (IfCⁿ sort fst snd thenc elsec) = cc (ren_opt_none snd, subst_sim_none thenc, subst_sim_none elsec)
  subst_sim_none (PrintI64ⁿ newline var next fv) = cc (subst_sim_none next, ren_ids_none fv)
  subst_sim_none (Exitⁿ var) = refl

  subst_sim_clauses_none : (cs : NotedClauses) → subst_sim_clauses cs no_renaming ≡ cs
  subst_sim_clauses_none endⁿ = refl
  subst_sim_clauses_none (clauseⁿ xtor context body rest) = cc (subst_sim_none body, subst_sim_clauses_none rest)

-- a body: what def.rs calls is what the pass does
pub rust_body : (s : Stmt) → linearizeⁿ (depth s) (annotate s) ≡ linearize_stmt s no_renaming
rust_body s = ap (linearizeⁿ (depth s)) (sym (subst_sim_none (annotate s))) ∙ rust_form s (depth s) no_renaming (omega arith)

-- a program
pub rust_program : (ds : List Def) (m : ℕ) → linearize_defsⁿ ds m ≡ linearize_defs ds m
unfolding linearize_defsⁿ linearize_defs
rust_program [] m = refl
rust_program (d ∷ ds) m = rw (rust_body d.body, rust_program ds (linearize_stmt d.body no_renaming d.context m).1)
