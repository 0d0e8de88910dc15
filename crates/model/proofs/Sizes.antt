-- The output is at most twice as deep and has at most twice the records: what passes 7 gives what passes 3 and 5. Assumes nothing.
use mathlib.Core.Bool.{Bool, true, false, cond}
use mathlib.Core.List.{List, [], ◌∷◌, ◌++◌}
use Prim.Native.Nat.{ℕ, suc, ◌*◌, max, ◌≤◌, suc-le-suc}
use native.Mathlib.Nat.{le_trans, add-le-add}
use native.Mathlib.Omega.{arith}
use Rattle.syntax.specs.Context.{Context}
use Rattle.model.specs.Syntax.{Stmt, Clauses, Substitute, Call, Let, Switch, Create, Invoke, Literal, Op, IfC, PrintI64, Exit, end, clause, Def, Prog}
use Rattle.model.specs.Renaming.{Renaming, no_renaming, rename}
use Rattle.model.specs.Rules.{arrange}
use Rattle.model.specs.Pass.{linearize_stmt, linearize_clauses, linearize_defs, linearize}
use Rattle.model.specs.Sizes.{records, records_clauses, records_defs, depth, depth_clauses, depth_defs}

-- a rearrangement is one record, and one statement deeper
arrange-records : (right : Bool) (T W : Context) (s : Stmt) → records (arrange right T W s) ≤ suc (records s)
unfolding arrange records
arrange-records true T W s = omega arith
arrange-records false T W s = omega arith

arrange-depth : (right : Bool) (T W : Context) (s : Stmt) → depth (arrange right T W s) ≤ suc (depth s)
unfolding arrange depth
arrange-depth true T W s = omega arith
arrange-depth false T W s = omega arith

mutual
  unfolding linearize_stmt records

  pub linearize_stmt-records : (s : Stmt) (ρ : Renaming) (Γ : Context) (m : ℕ) → records (linearize_stmt s ρ Γ m).0 ≤ 2 * records s
  linearize_stmt-records (Substitute ps next) ρ Γ m = omega arith
  linearize_stmt-records (Call label args) ρ Γ m = arrange-records _ _ _ (Call label [])
  linearize_stmt-records (Let var ty tag args next) ρ Γ m = le_trans (arrange-records _ _ _ _) (le_trans (suc-le-suc (suc-le-suc (linearize_stmt-records next ρ _ _))) (omega arith))
  linearize_stmt-records (Switch var ty cs) ρ Γ m = le_trans (arrange-records _ _ _ _) (le_trans (suc-le-suc (suc-le-suc (linearize_clauses-records cs false ρ _ _))) (omega arith))
  linearize_stmt-records (Create var ty env cs next) ρ Γ m =
      le_trans (arrange-records _ _ _ _) (le_trans (suc-le-suc (suc-le-suc (add-le-add (linearize_clauses-records cs true ρ _ _) (linearize_stmt-records next _ _ _)))) (omega arith))
  linearize_stmt-records (Invoke var tag ty args) ρ Γ m = arrange-records _ _ _ (Invoke (rename ρ var) tag ty [])
  linearize_stmt-records (Literal lit var next) ρ Γ m = le_trans (arrange-records _ _ _ _) (le_trans (suc-le-suc (suc-le-suc (linearize_stmt-records next ρ _ _))) (omega arith))
  linearize_stmt-records (Op fst op snd var next) ρ Γ m = le_trans (arrange-records _ _ _ _) (le_trans (suc-le-suc (suc-le-suc (linearize_stmt-records next ρ _ _))) (omega arith))
  linearize_stmt-records (IfC sort fst snd thenc elsec) ρ Γ m = omega (arith, linearize_stmt-records thenc ρ Γ m, linearize_stmt-records elsec ρ Γ (linearize_stmt thenc ρ Γ m).1)
  linearize_stmt-records (PrintI64 newline var next) ρ Γ m = le_trans (arrange-records _ _ _ _) (le_trans (suc-le-suc (suc-le-suc (linearize_stmt-records next ρ _ _))) (omega arith))
  linearize_stmt-records (Exit var) ρ Γ m = omega arith

  pub linearize_clauses-records : (cs : Clauses) (before : Bool) (ρ : Renaming) (Γ : Context) (m : ℕ) → records_clauses (linearize_clauses cs before ρ Γ m).0 ≤ 2 * records_clauses cs
  linearize_clauses-records end before ρ Γ m = omega arith
  linearize_clauses-records (clause xtor context body rest) before ρ Γ m =
      let Δ = cond before (context ++ Γ) (Γ ++ context) in
      omega (arith, linearize_stmt-records body ρ Δ m, linearize_clauses-records rest before ρ Γ (linearize_stmt body ρ Δ m).1)

-- a maximum of two, each at most something
max_le : (a b c d : ℕ) → a ≤ c → b ≤ d → max a b ≤ max c d
max_le a b c d h k = omega arith

mutual
  unfolding linearize_stmt depth

  pub linearize_stmt-depth : (s : Stmt) (ρ : Renaming) (Γ : Context) (m : ℕ) → depth (linearize_stmt s ρ Γ m).0 ≤ 2 * depth s
  linearize_stmt-depth (Substitute ps next) ρ Γ m = omega arith
  linearize_stmt-depth (Call label args) ρ Γ m = arrange-depth _ _ _ (Call label [])
  linearize_stmt-depth (Let var ty tag args next) ρ Γ m = le_trans (arrange-depth _ _ _ _) (le_trans (suc-le-suc (suc-le-suc (linearize_stmt-depth next ρ _ _))) (omega arith))
  linearize_stmt-depth (Switch var ty cs) ρ Γ m = le_trans (arrange-depth _ _ _ _) (le_trans (suc-le-suc (suc-le-suc (linearize_clauses-depth cs false ρ _ _))) (omega arith))
  linearize_stmt-depth (Create var ty env cs next) ρ Γ m =
      le_trans (arrange-depth _ _ _ _) (le_trans (suc-le-suc (suc-le-suc (max_le _ _ _ _ (linearize_clauses-depth cs true ρ _ _) (linearize_stmt-depth next _ _ _)))) (omega arith))
  linearize_stmt-depth (Invoke var tag ty args) ρ Γ m = arrange-depth _ _ _ (Invoke (rename ρ var) tag ty [])
  linearize_stmt-depth (Literal lit var next) ρ Γ m = le_trans (arrange-depth _ _ _ _) (le_trans (suc-le-suc (suc-le-suc (linearize_stmt-depth next ρ _ _))) (omega arith))
  linearize_stmt-depth (Op fst op snd var next) ρ Γ m = le_trans (arrange-depth _ _ _ _) (le_trans (suc-le-suc (suc-le-suc (linearize_stmt-depth next ρ _ _))) (omega arith))
  linearize_stmt-depth (IfC sort fst snd thenc elsec) ρ Γ m = omega (arith, linearize_stmt-depth thenc ρ Γ m, linearize_stmt-depth elsec ρ Γ (linearize_stmt thenc ρ Γ m).1)
  linearize_stmt-depth (PrintI64 newline var next) ρ Γ m = le_trans (arrange-depth _ _ _ _) (le_trans (suc-le-suc (suc-le-suc (linearize_stmt-depth next ρ _ _))) (omega arith))
  linearize_stmt-depth (Exit var) ρ Γ m = omega arith

  pub linearize_clauses-depth : (cs : Clauses) (before : Bool) (ρ : Renaming) (Γ : Context) (m : ℕ) → depth_clauses (linearize_clauses cs before ρ Γ m).0 ≤ 2 * depth_clauses cs
  linearize_clauses-depth end before ρ Γ m = omega arith
  linearize_clauses-depth (clause xtor context body rest) before ρ Γ m =
      let Δ = cond before (context ++ Γ) (Γ ++ context) in
      omega (arith, linearize_stmt-depth body ρ Δ m, linearize_clauses-depth rest before ρ Γ (linearize_stmt body ρ Δ m).1)

linearize_defs-records : (ds : List Def) (m : ℕ) → records_defs (linearize_defs ds m).0 ≤ 2 * records_defs ds
unfolding linearize_defs
linearize_defs-records [] m = omega arith
linearize_defs-records (d ∷ ds) m = omega (arith, linearize_stmt-records d.body no_renaming d.context m, linearize_defs-records ds (linearize_stmt d.body no_renaming d.context m).1)

linearize_defs-depth : (ds : List Def) (m : ℕ) → depth_defs (linearize_defs ds m).0 ≤ 2 * depth_defs ds
unfolding linearize_defs
linearize_defs-depth [] m = omega arith
linearize_defs-depth (d ∷ ds) m = omega (arith, linearize_stmt-depth d.body no_renaming d.context m, linearize_defs-depth ds (linearize_stmt d.body no_renaming d.context m).1)

pub linearize-records : (P : Prog) → records_defs (linearize P).defs ≤ 2 * records_defs P.defs
unfolding linearize
linearize-records P = linearize_defs-records P.defs P.max_id

pub linearize-depth : (P : Prog) → depth_defs (linearize P).defs ≤ 2 * depth_defs P.defs
unfolding linearize
linearize-depth P = linearize_defs-depth P.defs P.max_id
