-- The statement, clauses and bodies at a place of the records, at most d statements deep.
use Rattle.std.specs.Prelude.{ℕ, ◌≤◌, ◌≡◌, List, [], ◌++◌, length, drop}
use Rattle.model.specs.Syntax.{Stmt, Call, Clauses, end}
use Rattle.model.specs.Sizes.{depth, depth_clauses, count_clauses}
use Rattle.image_spec.specs.Parse.{times, each, All}
use Rattle.image_spec.specs.Records.{Record}
use Rattle.image_spec.specs.Image.{if_got}
use Rattle.image_spec.specs.Shape.{flatten, flatten_clauses, clauses, stmt}

-- what stands for a statement where there is none
abbrev pub no_stmt : Stmt
no_stmt = Call (record { name = record { 0 = 0 }; id = record { 0 = 0 } }) []

unfoldable pub stmt_at : ℕ → List Record → ℕ → Stmt
stmt_at d rs i = if_got (stmt d (drop i rs)) no_stmt (λ t _. t)

unfoldable pub clauses_at : ℕ → ℕ → List Record → ℕ → Clauses
clauses_at d n rs i = if_got (clauses (stmt d) n (drop i rs)) end (λ cs _. cs)

unfoldable pub bodies_at : ℕ → ℕ → List Record → ℕ → List Stmt
bodies_at d n rs i = if_got (times n (stmt d) (drop i rs)) [] (λ ts _. ts)

-- the records, or the numbers kept for them, from i on begin with these
pub record Begins {A : Type 0} (rs : List A) (i : ℕ) (front : List A) : Type 0 where
  pub rest : List A
  pub split : drop i rs ≡ front ++ rest

-- a statement stands at i, at most d deep; and the same of n clauses and of n bodies. (Asked of the walks: the depth that is left falls with each call.)
pub record StmtStands (d : ℕ) (rs : List Record) (i : ℕ) (t : Stmt) : Type 0 where
  pub begins : Begins rs i (flatten t)
  pub shallow : depth t ≤ d

pub record ClausesStand (d n : ℕ) (rs : List Record) (i : ℕ) (cs : Clauses) : Type 0 where
  pub begins : Begins rs i (flatten_clauses cs)
  pub shallow : depth_clauses cs ≤ d
  pub count : count_clauses cs ≡ n

pub record BodiesStand (d n : ℕ) (rs : List Record) (i : ℕ) (ts : List Stmt) : Type 0 where
  pub begins : Begins rs i (each flatten ts)
  pub shallow : All (λ (t : Stmt). depth t ≤ d) ts
  pub count : length ts ≡ n
