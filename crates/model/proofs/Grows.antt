-- max_id never falls. Assumes nothing.
use mathlib.Core.Bool.{Bool, true, false}
use mathlib.Core.List.{List}
use Prim.Native.Nat.{ℕ, ◌≤◌}
use native.Mathlib.Omega.{arith}
use native.Mathlib.Nat.{le_refl, le_trans}
use Rattle.syntax.specs.Context.{Context, id_of}
use Rattle.syntax.specs.Sets.{elem}
use Rattle.syntax.specs.declared.names.VarId.{VarId}
use Rattle.syntax.specs.declared.context.ContextBinding.{ContextBinding}
use Rattle.syntax.proofs.Drawing.{fresh-above, freshen-grows}
use Rattle.model.specs.Syntax.{Stmt, Clauses, Substitute, Call, Let, Switch, Create, Invoke, Literal, Op, IfC, PrintI64, Exit, end, clause}
use Rattle.model.specs.Renaming.{Renaming}
use Rattle.model.specs.Rules.{freshen_unless_lem, fresh_var_lem, fresh_var_unless}
use Rattle.model.specs.Pass.{linearize_stmt, linearize_clauses}

pub freshen_unless-grows : (right : Bool) (Γ : Context) (C : List VarId) (m : ℕ) → m ≤ (freshen_unless_lem right Γ C m).1
unfolding freshen_unless_lem
freshen_unless-grows true Γ C m = omega arith
freshen_unless-grows false Γ C m = freshen-grows Γ C m

fresh_var-grows : (clash : Bool) (b : ContextBinding) (m : ℕ) → m ≤ (fresh_var_lem clash b m).1
fresh_var-grows true b m = omega (arith, fresh-above m)
fresh_var-grows false b m = omega arith

pub fresh_var_unless-grows : (right : Bool) (b : ContextBinding) (C : List VarId) (m : ℕ) → m ≤ (fresh_var_unless right b C m).1
unfolding fresh_var_unless
fresh_var_unless-grows true b C m = omega arith
fresh_var_unless-grows false b C m = fresh_var-grows (elem (id_of b) C) b m

mutual
  unfolding linearize_stmt

  pub linearize_stmt-grows : (s : Stmt) (ρ : Renaming) (Γ : Context) (m : ℕ) → m ≤ (linearize_stmt s ρ Γ m).1
  linearize_stmt-grows (Substitute ps next) ρ Γ m = le_refl m
  linearize_stmt-grows (Call label args) ρ Γ m = freshen_unless-grows _ _ _ m
  linearize_stmt-grows (Let var ty tag args next) ρ Γ m = le_trans (freshen_unless-grows _ _ _ m) (linearize_stmt-grows next ρ _ _)
  linearize_stmt-grows (Switch var ty cs) ρ Γ m = le_trans (linearize_clauses-grows cs false ρ _ m) (fresh_var_unless-grows _ _ _ _)
  linearize_stmt-grows (Create var ty env cs next) ρ Γ m = le_trans (linearize_clauses-grows cs true ρ _ m) (le_trans (freshen_unless-grows _ _ _ _) (linearize_stmt-grows next _ _ _))
  linearize_stmt-grows (Invoke var tag ty args) ρ Γ m = freshen_unless-grows _ _ _ m
  linearize_stmt-grows (Literal lit var next) ρ Γ m = linearize_stmt-grows next ρ _ m
  linearize_stmt-grows (Op fst op snd var next) ρ Γ m = linearize_stmt-grows next ρ _ m
  linearize_stmt-grows (IfC sort fst snd thenc elsec) ρ Γ m = le_trans (linearize_stmt-grows thenc ρ Γ m) (linearize_stmt-grows elsec ρ Γ _)
  linearize_stmt-grows (PrintI64 newline var next) ρ Γ m = linearize_stmt-grows next ρ _ m
  linearize_stmt-grows (Exit var) ρ Γ m = le_refl m

  pub linearize_clauses-grows : (cs : Clauses) (before : Bool) (ρ : Renaming) (Γ : Context) (m : ℕ) → m ≤ (linearize_clauses cs before ρ Γ m).1
  linearize_clauses-grows end before ρ Γ m = le_refl m
  linearize_clauses-grows (clause xtor context body rest) before ρ Γ m = le_trans (linearize_stmt-grows body ρ _ m) (linearize_clauses-grows rest before ρ Γ _)
