-- The free variables of every record, as masks over the places in scope: bit p stands for the variable that was bound p-th on the way.
-- Two numbers for each record, in the order of the records: the mask of its clauses, then that of its bodies.
use Rattle.std.specs.Prelude.{ℕ, ◌+◌, ◌*◌, Bool, true, false, List, [], ◌∷◌, ◌++◌}
use Rattle.syntax.specs.Sets.{elem}
use Rattle.syntax.specs.Context.{ids}
use Rattle.syntax.specs.declared.names.VarId.{VarId}
use Rattle.model.specs.Syntax.{Stmt, Substitute, Call, Let, Switch, Create, Invoke, Literal, Op, IfC, PrintI64, Exit, Clauses, end, clause, Def}
use Rattle.model.specs.FreeVars.{free_vars, free_vars_clauses}
use Rattle.image_places_spec.specs.Views.{record_of, clauses_in, bodies_of, binders}

abbrev pub bit : Bool → ℕ
bit true = 1
bit false = 0

-- the bit of each variable in scope says whether it is in the set. The scope is in the order of binding.
unfoldable pub mask_of : (set scope : List VarId) → ℕ
mask_of s [] = 0
mask_of s (x ∷ Δ) = bit (elem x s) + 2 * mask_of s Δ

-- the free variables of some statements
abbrev pub free_bodies : List Stmt → List VarId
free_bodies [] = []
free_bodies (t ∷ ts) = free_vars t ++ free_bodies ts

-- the two numbers of a statement's record: what its clauses have free of the scope, and what its bodies have free of the scope with
-- what the record binds
unfoldable pub row_of : Stmt → (scope : List VarId) → List ℕ
row_of t Δ = mask_of (free_vars_clauses (clauses_in t)) Δ ∷ mask_of (free_bodies (bodies_of t)) (Δ ++ binders (record_of t)) ∷ []

-- those of a record that binds parameters in one body: a clause, or a definition
unfoldable pub row_under : (body : Stmt) → (scope : List VarId) → List ℕ
row_under t Δ = 0 ∷ mask_of (free_vars t) Δ ∷ []

unfoldable mutual
  pub rows_stmt : Stmt → (scope : List VarId) → List ℕ
  rows_stmt (Substitute ps next) Δ = row_of (Substitute ps next) Δ ++ rows_stmt next Δ
  rows_stmt (Call label args) Δ = row_of (Call label args) Δ
  rows_stmt (Let var ty tag args next) Δ = row_of (Let var ty tag args next) Δ ++ rows_stmt next (Δ ++ (var.id ∷ []))
  rows_stmt (Switch var ty cs) Δ = row_of (Switch var ty cs) Δ ++ rows_clauses cs Δ
  rows_stmt (Create var ty env cs next) Δ = row_of (Create var ty env cs next) Δ ++ (rows_clauses cs Δ ++ rows_stmt next (Δ ++ (var.id ∷ [])))
  rows_stmt (Invoke var tag ty args) Δ = row_of (Invoke var tag ty args) Δ
  rows_stmt (Literal lit var next) Δ = row_of (Literal lit var next) Δ ++ rows_stmt next (Δ ++ (var.id ∷ []))
  rows_stmt (Op fst op snd var next) Δ = row_of (Op fst op snd var next) Δ ++ rows_stmt next (Δ ++ (var.id ∷ []))
  rows_stmt (IfC sort fst snd thenc elsec) Δ = row_of (IfC sort fst snd thenc elsec) Δ ++ (rows_stmt thenc Δ ++ rows_stmt elsec Δ)
  rows_stmt (PrintI64 newline var next) Δ = row_of (PrintI64 newline var next) Δ ++ rows_stmt next Δ
  rows_stmt (Exit var) Δ = row_of (Exit var) Δ

  pub rows_clauses : Clauses → (scope : List VarId) → List ℕ
  rows_clauses end Δ = []
  rows_clauses (clause xtor context body rest) Δ = row_under body (Δ ++ ids context) ++ (rows_stmt body (Δ ++ ids context) ++ rows_clauses rest Δ)

abbrev pub rows_bodies : List Stmt → (scope : List VarId) → List ℕ
rows_bodies [] Δ = []
rows_bodies (t ∷ ts) Δ = rows_stmt t Δ ++ rows_bodies ts Δ

unfoldable pub rows_defs : List Def → List ℕ
rows_defs [] = []
rows_defs (d ∷ ds) = row_under d.body (ids d.context) ++ (rows_stmt d.body (ids d.context) ++ rows_defs ds)
