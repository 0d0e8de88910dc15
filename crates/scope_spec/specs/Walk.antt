-- The walk of the questions 8, 9 and 10 and of the room for bindings (question 7): one pass, with the scope in the order of binding.
-- (proofs/WalkLaws.antt: it answers the questions.)
use Rattle.std.specs.Prelude.{ℕ, true, false, not, ◌&&◌, cond, List, [], ◌∷◌, ◌++◌, leb, ltb, length}
use Rattle.syntax.specs.Sets.{elem}
use Rattle.syntax.specs.Context.{ids}
use Rattle.syntax.specs.declared.names.VarId.{VarId}
use Rattle.model.specs.Syntax.{Stmt, Substitute, Call, Let, Switch, Create, Invoke, Literal, Op, IfC, PrintI64, Exit, Clauses, end, clause, Def}
use Rattle.model.specs.Questions.{uses}
use Rattle.scope_spec.specs.declared.Verdict.{Verdict}

-- document 01, question 7: 64 bindings in scope, repeats counted
abbrev pub max_scope : ℕ
max_scope = 64

-- all yes
abbrev pub clean : Verdict
clean = record { room = true; binders = true; uses = true; ids = true }

-- a variable is used
abbrev pub use_one_lem : List VarId → VarId → Verdict → Verdict
use_one_lem Δ x v = record { room = v.room; binders = v.binders; uses = v.uses && elem x Δ; ids = v.ids }

abbrev pub use_all : List VarId → List VarId → Verdict → Verdict
use_all Δ [] v = v
use_all Δ (x ∷ xs) v = use_all Δ xs (use_one_lem Δ x v)

-- a scope, and the verdict with which it was reached
pub record Scoped : Type 0 where
  pub scope : List VarId
  pub verdict : Verdict

-- a binder's ID comes into a scope that has room for it, behind the others
abbrev pub judged : (M : ℕ) → List VarId → VarId → Verdict → Verdict
judged M Δ x v = record { room = v.room; binders = v.binders && not (elem x Δ); uses = v.uses; ids = v.ids && leb x.0 M }

abbrev pub full : Verdict → Verdict
full v = record { room = false; binders = v.binders; uses = v.uses; ids = v.ids }

abbrev pub enter_one_lem : (M : ℕ) → VarId → Scoped → Scoped
enter_one_lem M x s =
    cond (ltb (length s.scope) max_scope)
    (record { scope = s.scope ++ (x ∷ []); verdict = judged M s.scope x s.verdict })
    (record { scope = s.scope; verdict = full s.verdict })

abbrev pub enter_all : (M : ℕ) → List VarId → Scoped → Scoped
enter_all M [] s = s
enter_all M (x ∷ xs) s = enter_all M xs (enter_one_lem M x s)

-- from a scope and a verdict to the verdict
abbrev pub Walking : Type 0
Walking = List VarId → Verdict → Verdict

-- with the binders in scope
abbrev pub under : (M : ℕ) → List VarId → Walking → Walking
under M xs k Δ v = let s = enter_all M xs (record { scope = Δ; verdict = v }) in k s.scope s.verdict

unfoldable mutual
  pub walk_stmt : Stmt → (M : ℕ) → Walking
  walk_stmt (Substitute ps next) M = λ Δ v. walk_stmt next M Δ v
  walk_stmt (Call label args) M = λ Δ v. use_all Δ (ids args) v
  walk_stmt (Let var ty tag args next) M = λ Δ v. under M (var.id ∷ []) (walk_stmt next M) Δ (use_all Δ (ids args) v)
  walk_stmt (Switch var ty cs) M = λ Δ v. walk_clauses cs M Δ (use_all Δ (var.id ∷ []) v)
  -- document 01, question 8: (Create's var is not in scope in its clauses.)
  walk_stmt (Create var ty env cs next) M = λ Δ v. under M (var.id ∷ []) (walk_stmt next M) Δ (walk_clauses cs M Δ v)
  walk_stmt (Invoke var tag ty args) M = λ Δ v. use_all Δ (var.id ∷ ids args) v
  walk_stmt (Literal lit var next) M = λ Δ v. under M (var.id ∷ []) (walk_stmt next M) Δ v
  walk_stmt (Op fst op snd var next) M = λ Δ v. under M (var.id ∷ []) (walk_stmt next M) Δ (use_all Δ (fst.id ∷ snd.id ∷ []) v)
  walk_stmt (IfC sort fst snd thenc elsec) M = λ Δ v. walk_stmt elsec M Δ (walk_stmt thenc M Δ (use_all Δ (uses (IfC sort fst snd thenc elsec)) v))
  walk_stmt (PrintI64 newline var next) M = λ Δ v. walk_stmt next M Δ (use_all Δ (var.id ∷ []) v)
  walk_stmt (Exit var) M = λ Δ v. use_all Δ (var.id ∷ []) v

  pub walk_clauses : Clauses → (M : ℕ) → Walking
  walk_clauses end M = λ Δ v. v
  walk_clauses (clause xtor context body rest) M = λ Δ v. walk_clauses rest M Δ (under M (ids context) (walk_stmt body M) Δ v)

abbrev pub walk_bodies : List Stmt → (M : ℕ) → Walking
walk_bodies [] M Δ v = v
walk_bodies (t ∷ ts) M Δ v = walk_bodies ts M Δ (walk_stmt t M Δ v)

unfoldable pub walk_defs : List Def → (M : ℕ) → Verdict → Verdict
walk_defs [] M v = v
walk_defs (d ∷ ds) M v = walk_defs ds M (under M (ids d.context) (walk_stmt d.body M) [] v)
