-- What the questions 6, 8, 9 and 10 say, as the invariant uses it. Assumes nothing.
use Prim.Native.Nat.{ℕ, ◌≤◌}
use mathlib.Core.Path.{◌≡◌}
use mathlib.Core.List.{List, [], ◌∷◌, ◌++◌}
use mathlib.Core.Option.{none}
use Rattle.syntax.specs.Context.{ids}
use Rattle.syntax.specs.Sets.{◌∈◌, Distinct}
use Rattle.syntax.specs.declared.names.VarId.{VarId}
use Rattle.model.specs.Syntax.{Stmt, Clauses, Substitute, Call, Let, Switch, Create, Invoke, Literal, Op, IfC, PrintI64, Exit, end, clause, Def, Prog}
use Rattle.model.specs.FreeVars.{optional_id}

-- 8: "Does each binder take an ID not in scope there and not earlier in its list?" 10: "Is max_id at least every binder's ID?"
pub record Binds (M : ℕ) (Δ : List VarId) (xs : List VarId) : Type 0 where
  pub new : (x : VarId) → x ∈ xs → x ∈ Δ → ⊥
  pub once : Distinct xs
  pub small : (x : VarId) → x ∈ xs → x.0 ≤ M

-- 9: "Is each variable used in scope?"
infix 40 ◌⊆◌
abbrev pub ◌⊆◌ : List VarId → List VarId → Type 0
s ⊆ t = (x : VarId) → x ∈ s → x ∈ t

-- 6, 8, 9 and 10 of a statement, under a max_id M and with Δ in scope
unfoldable mutual
  pub Scoped : Stmt → ℕ → List VarId → Type 0
  Scoped (Substitute ps next) M Δ = ⊥
  Scoped (Call label args) M Δ = ids args ⊆ Δ
  Scoped (Let var ty tag args next) M Δ = (ids args ⊆ Δ) × Binds M Δ (var.id ∷ []) × Scoped next M (var.id ∷ Δ)
  Scoped (Switch var ty cs) M Δ = (var.id ∈ Δ) × ScopedClauses cs M Δ
  -- "(Create's var is not in scope in its clauses.)"
  Scoped (Create var ty env cs next) M Δ = (env ≡ none) × ScopedClauses cs M Δ × Binds M Δ (var.id ∷ []) × Scoped next M (var.id ∷ Δ)
  Scoped (Invoke var tag ty args) M Δ = (var.id ∈ Δ) × (ids args ⊆ Δ)
  Scoped (Literal lit var next) M Δ = Binds M Δ (var.id ∷ []) × Scoped next M (var.id ∷ Δ)
  Scoped (Op fst op snd var next) M Δ = (fst.id ∈ Δ) × (snd.id ∈ Δ) × Binds M Δ (var.id ∷ []) × Scoped next M (var.id ∷ Δ)
  Scoped (IfC sort fst snd thenc elsec) M Δ = (fst.id ∈ Δ) × (optional_id snd ⊆ Δ) × Scoped thenc M Δ × Scoped elsec M Δ
  Scoped (PrintI64 newline var next) M Δ = (var.id ∈ Δ) × Scoped next M Δ
  Scoped (Exit var) M Δ = var.id ∈ Δ

  pub ScopedClauses : Clauses → ℕ → List VarId → Type 0
  ScopedClauses end M Δ = Unit {0}
  ScopedClauses (clause xtor context body rest) M Δ = Binds M Δ (ids context) × Scoped body M (ids context ++ Δ) × ScopedClauses rest M Δ

-- of each definition
abbrev pub ScopedDefs : List Def → ℕ → Type 0
ScopedDefs [] M = Unit {0}
ScopedDefs (d ∷ ds) M = Binds M [] (ids d.context) × Scoped d.body M (ids d.context) × ScopedDefs ds M

abbrev pub ScopedProg : Prog → Type 0
ScopedProg P = ScopedDefs P.defs P.max_id
