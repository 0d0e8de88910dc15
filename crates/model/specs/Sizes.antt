-- How large a program is: its records, its depth, and the counts in its records.
use Rattle.std.specs.Prelude.{ℕ, suc, ◌+◌, max, List, [], ◌∷◌, length}
use Rattle.std.proofs.Math.Option.{Option, none, some}
use Rattle.syntax.specs.Context.{Context}
use Rattle.model.specs.Syntax.{Stmt, Clauses, Substitute, Call, Let, Switch, Create, Invoke, Literal, Op, IfC, PrintI64, Exit, end, clause, Def}

-- document 01, "The image": a definition, then its body; a statement, then its clauses (each followed by its body), then its next
unfoldable mutual
  pub records : Stmt → ℕ
  records (Substitute ps next) = suc (records next)
  records (Call label args) = 1
  records (Let var ty tag args next) = suc (records next)
  records (Switch var ty cs) = suc (records_clauses cs)
  records (Create var ty env cs next) = suc (records_clauses cs + records next)
  records (Invoke var tag ty args) = 1
  records (Literal lit var next) = suc (records next)
  records (Op fst op snd var next) = suc (records next)
  records (IfC sort fst snd thenc elsec) = suc (records thenc + records elsec)
  records (PrintI64 newline var next) = suc (records next)
  records (Exit var) = 1

  pub records_clauses : Clauses → ℕ
  records_clauses end = 0
  records_clauses (clause xtor context body rest) = suc (records body + records_clauses rest)

abbrev pub records_defs : List Def → ℕ
records_defs [] = 0
records_defs (d ∷ ds) = suc (records d.body + records_defs ds)

-- document 01, question 5: statements deep (a body is depth 1). Definitions and clauses add nothing.
unfoldable mutual
  pub depth : Stmt → ℕ
  depth (Substitute ps next) = suc (depth next)
  depth (Call label args) = 1
  depth (Let var ty tag args next) = suc (depth next)
  depth (Switch var ty cs) = suc (depth_clauses cs)
  depth (Create var ty env cs next) = suc (max (depth_clauses cs) (depth next))
  depth (Invoke var tag ty args) = 1
  depth (Literal lit var next) = suc (depth next)
  depth (Op fst op snd var next) = suc (depth next)
  depth (IfC sort fst snd thenc elsec) = suc (max (depth thenc) (depth elsec))
  depth (PrintI64 newline var next) = suc (depth next)
  depth (Exit var) = 1

  pub depth_clauses : Clauses → ℕ
  depth_clauses end = 0
  depth_clauses (clause xtor context body rest) = max (depth body) (depth_clauses rest)

abbrev pub depth_defs : List Def → ℕ
depth_defs [] = 0
depth_defs (d ∷ ds) = max (depth d.body) (depth_defs ds)

abbrev pub count_clauses : Clauses → ℕ
count_clauses end = 0
count_clauses (clause xtor context body rest) = suc (count_clauses rest)

abbrev pub count_environment : Option Context → ℕ
count_environment none = 0
count_environment (some Γ) = length Γ

-- the largest count in a statement's own record
abbrev pub count : Stmt → ℕ
count (Substitute ps next) = length ps
count (Call label args) = length args
count (Let var ty tag args next) = length args
count (Switch var ty cs) = count_clauses cs
count (Create var ty env cs next) = max (count_environment env) (count_clauses cs)
count (Invoke var tag ty args) = length args
count (Literal lit var next) = 0
count (Op fst op snd var next) = 0
count (IfC sort fst snd thenc elsec) = 0
count (PrintI64 newline var next) = 0
count (Exit var) = 0

-- the largest count in the records of a statement and below it
unfoldable mutual
  pub widest : Stmt → ℕ
  widest (Substitute ps next) = max (length ps) (widest next)
  widest (Call label args) = length args
  widest (Let var ty tag args next) = max (length args) (widest next)
  widest (Switch var ty cs) = max (count_clauses cs) (widest_clauses cs)
  widest (Create var ty env cs next) = max (max (count_environment env) (count_clauses cs)) (max (widest_clauses cs) (widest next))
  widest (Invoke var tag ty args) = length args
  widest (Literal lit var next) = widest next
  widest (Op fst op snd var next) = widest next
  widest (IfC sort fst snd thenc elsec) = max (widest thenc) (widest elsec)
  widest (PrintI64 newline var next) = widest next
  widest (Exit var) = 0

  pub widest_clauses : Clauses → ℕ
  widest_clauses end = 0
  widest_clauses (clause xtor context body rest) = max (length context) (max (widest body) (widest_clauses rest))

abbrev pub widest_defs : List Def → ℕ
widest_defs [] = 0
widest_defs (d ∷ ds) = max (length d.context) (max (widest d.body) (widest_defs ds))
