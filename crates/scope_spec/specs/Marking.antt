-- The free variables of a part of a program, found on the way down: a use that no binder on the way has bound is marked, in a row with
-- one number for each ID. (proofs/MarkLaws.antt: what is marked are the free variables, and the marked IDs in order their `ascending` list.)
use Rattle.std.specs.Prelude.{ℕ, suc, Bool, cond, List, [], ◌∷◌, ◌++◌, eqb, set}
use Rattle.syntax.specs.Sets.{elem}
use Rattle.syntax.specs.Context.{ids}
use Rattle.syntax.specs.declared.names.VarId.{VarId}
use Rattle.model.specs.Syntax.{Stmt, Substitute, Call, Let, Switch, Create, Invoke, Literal, Op, IfC, PrintI64, Exit, Clauses, end, clause}
use Rattle.model.specs.Questions.{uses}

-- the row with what is used, and not bound, marked
abbrev pub mark_one_lem : (bound : List VarId) → VarId → List ℕ → List ℕ
mark_one_lem B x row = cond (elem x B) row (set row x.0 1)

abbrev pub mark_all_lem : (bound : List VarId) → List VarId → List ℕ → List ℕ
mark_all_lem B [] row = row
mark_all_lem B (x ∷ xs) row = mark_all_lem B xs (mark_one_lem B x row)

unfoldable mutual
  pub mark_stmt : Stmt → (bound : List VarId) → List ℕ → List ℕ
  mark_stmt (Substitute ps next) B row = mark_stmt next B row
  mark_stmt (Call label args) B row = mark_all_lem B (ids args) row
  mark_stmt (Let var ty tag args next) B row = mark_stmt next (B ++ (var.id ∷ [])) (mark_all_lem B (ids args) row)
  mark_stmt (Switch var ty cs) B row = mark_clauses cs B (mark_all_lem B (var.id ∷ []) row)
  mark_stmt (Create var ty env cs next) B row = mark_stmt next (B ++ (var.id ∷ [])) (mark_clauses cs B row)
  mark_stmt (Invoke var tag ty args) B row = mark_all_lem B (var.id ∷ ids args) row
  mark_stmt (Literal lit var next) B row = mark_stmt next (B ++ (var.id ∷ [])) row
  mark_stmt (Op fst op snd var next) B row = mark_stmt next (B ++ (var.id ∷ [])) (mark_all_lem B (fst.id ∷ snd.id ∷ []) row)
  mark_stmt (IfC sort fst snd thenc elsec) B row = mark_stmt elsec B (mark_stmt thenc B (mark_all_lem B (uses (IfC sort fst snd thenc elsec)) row))
  mark_stmt (PrintI64 newline var next) B row = mark_stmt next B (mark_all_lem B (var.id ∷ []) row)
  mark_stmt (Exit var) B row = mark_all_lem B (var.id ∷ []) row

  pub mark_clauses : Clauses → (bound : List VarId) → List ℕ → List ℕ
  mark_clauses end B row = row
  mark_clauses (clause xtor context body rest) B row = mark_clauses rest B (mark_stmt body (B ++ ids context) row)

abbrev pub mark_bodies : List Stmt → (bound : List VarId) → List ℕ → List ℕ
mark_bodies [] B row = row
mark_bodies (t ∷ ts) B row = mark_bodies ts B (mark_stmt t B row)

-- the IDs from n on that are marked in a row, in ascending order
abbrev pub keep : Bool → VarId → List VarId → List VarId
keep t x xs = cond t xs (x ∷ xs)

unfoldable pub marked_from : ℕ → List ℕ → List VarId
marked_from n [] = []
marked_from n (m ∷ row) = keep (eqb m 0) (record { 0 = n }) (marked_from (suc n) row)
