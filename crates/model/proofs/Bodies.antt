-- Definitions and clauses: where the source machine finds one, the linear machine finds its linearization. Assumes nothing.
use mathlib.Core.Path.{◌≡◌, refl, subst}
use mathlib.Core.Logic.{inl}
use mathlib.Core.Bool.{Bool, true, false, cond}
use mathlib.Core.List.{List, [], ◌∷◌, ◌++◌, append-nil}
use mathlib.Core.Option.{Option, none, some}
use Prim.Native.Nat.{ℕ, zero, suc, ◌≤◌}
use native.Mathlib.Nat.{le_refl, le_trans}
use lib.ListN.{length}
use Rattle.syntax.specs.Context.{Context, ids}
use Rattle.syntax.specs.Sets.{without}
use Rattle.syntax.specs.Names.{same_name}
use Rattle.syntax.specs.declared.names.VarId.{VarId}
use Rattle.syntax.specs.declared.names.Name.{Name}
use Rattle.syntax.proofs.Members.{∈_left, ∈_right, without-∈}
use Rattle.model.specs.Syntax.{Stmt, Clauses, end, clause, Def, Prog}
use Rattle.model.specs.Lists.{zip}
use Rattle.model.specs.FreeVars.{free_vars, free_vars_clauses}
use Rattle.model.specs.Renaming.{Renaming, no_renaming}
use Rattle.model.specs.Pass.{linearize_stmt, linearize_clauses, linearize_defs, linearize}
use Rattle.model.specs.Machine.{Value, Entries, find_def, find_clause_lem, nth}
use Rattle.model.proofs.Scoping.{Binds, ◌⊆◌, Scoped, ScopedClauses, ScopedDefs, ScopedProg}
use Rattle.model.proofs.Invariant.{Fits, behind}
use Rattle.model.proofs.Grows.{linearize_stmt-grows}
use Rattle.model.proofs.Scope.{scoped-free}

-- ── definitions ──

-- the linearization of a definition, at some max_id above the program's
pub record DefOf (M : ℕ) (d d' : Def) : Type 0 where
  pub m : ℕ
  pub above : M ≤ m
  pub binds : Binds M [] (ids d.context)
  pub scoped : Scoped d.body M (ids d.context)
  pub context : d.context ≡ d'.context
  pub body : (linearize_stmt d.body no_renaming d.context m).0 ≡ d'.body

-- both find it, or neither does
pub data SameDef (M : ℕ) : Option Def → Option Def → Type 0 where
  neither : SameDef M none none
  both : {d d' : Def} → DefOf M d d' → SameDef M (some d) (some d')

same-find_def : (M : ℕ) (f : Name) (ds : List Def) (m : ℕ) → M ≤ m → ScopedDefs ds M → SameDef M (find_def f ds) (find_def f (linearize_defs ds m).0)
unfolding linearize_defs
same-find_def M f [] m h sc = neither
same-find_def M f (d ∷ ds) m h sc =
    let grown = le_trans h (linearize_stmt-grows d.body no_renaming d.context m) in
    go (same_name f d.name.name) (same-find_def M f ds (linearize_stmt d.body no_renaming d.context m).1 grown sc.2)
  where
    d' : Def
    d' = record { name = d.name; context = d.context; body = (linearize_stmt d.body no_renaming d.context m).0 }

    go : (t : Bool) {o o' : Option Def} → SameDef M o o' → SameDef M (cond t (some d) o) (cond t (some d') o')
    go true r = both (record { m = m; above = h; binds = sc.0; scoped = sc.1; context = refl; body = refl })
    go false r = r

same-nth : (M : ℕ) (i : ℕ) (ds : List Def) (m : ℕ) → M ≤ m → ScopedDefs ds M → SameDef M (nth i ds) (nth i (linearize_defs ds m).0)
unfolding linearize_defs
same-nth M i [] m h sc = neither
same-nth M zero (d ∷ ds) m h sc = both (record { m = m; above = h; binds = sc.0; scoped = sc.1; context = refl; body = refl })
same-nth M (suc i) (d ∷ ds) m h sc = same-nth M i ds (linearize_stmt d.body no_renaming d.context m).1 (le_trans h (linearize_stmt-grows d.body no_renaming d.context m)) sc.2

pub same-label : (P : Prog) → ScopedProg P → (f : Name) → SameDef P.max_id (find_def f P.defs) (find_def f (linearize P).defs)
unfolding linearize
same-label P a f = same-find_def P.max_id f P.defs P.max_id (le_refl P.max_id) a

pub same_place : (P : Prog) → ScopedProg P → (i : ℕ) → SameDef P.max_id (nth i P.defs) (nth i (linearize P).defs)
unfolding linearize
same_place P a i = same-nth P.max_id i P.defs P.max_id (le_refl P.max_id) a

-- a body begun with values for its parameters fits
pub body-fits : (M m : ℕ) (ps : Context) (s : Stmt) → M ≤ m → Binds M [] (ids ps) → Scoped s M (ids ps) → (vs : List Value) → length (ids ps) ≡ length vs
    → Fits M (free_vars s) (ids ps) no_renaming ps m (zip (ids ps) vs) (zip (ids ps) vs)
body-fits M m ps s h b sc vs e =
    subst (λ (r : Entries). Fits M (free_vars s) (ids ps) no_renaming ps m r (zip (ids ps) vs)) (append-nil (zip (ids ps) vs))
    (subst (λ (r : List VarId). Fits M (free_vars s) r no_renaming ps m (zip (ids ps) vs ++ []) (zip (ids ps) vs)) (append-nil (ids ps))
    (behind (free_vars s) ps none_yet b vs e))
  where
    none_yet : Fits M (without (free_vars s) (ids ps)) [] no_renaming [] m [] []
    none_yet = record {
      good = record { once = tt; known = λ x k. absurd k; up_to = λ x k. absurd k; above = h; moved = λ x. inl refl };
      ordered = refl;
      agrees = λ x k. let w = without-∈ x (free_vars s) (ids ps) k in absurd (w.1 (scoped-free s M (ids ps) sc x w.0));
    }

-- ── clauses ──

-- the linearization of a clause, in a context before which (Create) or behind which (Switch) the parameters stand
pub record ClauseOf (M : ℕ) (fv Δ : List VarId) (before : Bool) (ρ : Renaming) (Γ : Context) (m₀ : ℕ) (c c' : Context × Stmt) : Type 0 where
  pub m : ℕ
  pub above : m₀ ≤ m
  pub free : without (free_vars c.1) (ids c.0) ⊆ fv
  pub binds : Binds M Δ (ids c.0)
  pub scoped : Scoped c.1 M (ids c.0 ++ Δ)
  pub context : c.0 ≡ c'.0
  pub body : (linearize_stmt c.1 ρ (cond before (c.0 ++ Γ) (Γ ++ c.0)) m).0 ≡ c'.1

pub data SameClause (M : ℕ) (fv Δ : List VarId) (before : Bool) (ρ : Renaming) (Γ : Context) (m₀ : ℕ) : Option (Context × Stmt) → Option (Context × Stmt) → Type 0 where
  neither : SameClause M fv Δ before ρ Γ m₀ none none
  both : {c c' : Context × Stmt} → ClauseOf M fv Δ before ρ Γ m₀ c c' → SameClause M fv Δ before ρ Γ m₀ (some c) (some c')

module _ (M : ℕ) (tag : Name) (fv Δ : List VarId) (before : Bool) (ρ : Renaming) (Γ : Context) (m₀ : ℕ) where
  pub same-clause : (cs : Clauses) (m : ℕ) → m₀ ≤ m → free_vars_clauses cs ⊆ fv → ScopedClauses cs M Δ
      → SameClause M fv Δ before ρ Γ m₀ (find_clause_lem tag cs) (find_clause_lem tag (linearize_clauses cs before ρ Γ m).0)
  unfolding linearize_stmt free_vars Scoped
  same-clause end m h sub sc = neither
  same-clause (clause c ps body rest) m h sub sc =
      go (same_name tag c.name) (same-clause rest (linearize_stmt body ρ (cond before (ps ++ Γ) (Γ ++ ps)) m).1
      (le_trans h (linearize_stmt-grows body ρ (cond before (ps ++ Γ) (Γ ++ ps)) m))
      (λ x k. sub x (∈_right x (without (free_vars body) (ids ps)) (free_vars_clauses rest) k)) sc.2)
    where
      go : (t : Bool) {o o' : Option (Context × Stmt)} → SameClause M fv Δ before ρ Γ m₀ o o'
          → SameClause M fv Δ before ρ Γ m₀ (cond t (some (ps, body)) o) (cond t (some (ps, (linearize_stmt body ρ (cond before (ps ++ Γ) (Γ ++ ps)) m).0)) o')
      go true r = both (record {
        m = m;
        above = h;
        free = λ x k. sub x (∈_left x (without (free_vars body) (ids ps)) (free_vars_clauses rest) k);
        binds = sc.0;
        scoped = sc.1;
        context = refl;
        body = refl;
      })
      go false r = r
