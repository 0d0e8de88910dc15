-- What is free in an accepted statement is in scope. Assumes nothing.
use mathlib.Core.Logic.{◌⊎◌, inl, inr}
use mathlib.Core.List.{List, [], ◌∷◌, ◌++◌}
use Prim.Native.Nat.{ℕ}
use Rattle.syntax.specs.Sets.{◌∈◌, without}
use Rattle.syntax.specs.Context.{ids}
use Rattle.syntax.specs.declared.names.VarId.{VarId}
use Rattle.syntax.proofs.Members.{∈_split, without-∈}
use Rattle.model.specs.Syntax.{Stmt, Clauses, Substitute, Call, Let, Switch, Create, Invoke, Literal, Op, IfC, PrintI64, Exit, end, clause}
use Rattle.model.specs.FreeVars.{free_vars, free_vars_clauses, optional_id}
use Rattle.model.proofs.Scoping.{◌⊆◌, Scoped, ScopedClauses}

-- what is free below binders ps, and is none of them, is in scope above them
free-above : (fv ps Δ : List VarId) → fv ⊆ (ps ++ Δ) → without fv ps ⊆ Δ
free-above fv ps Δ sub x h = go (∈_split x ps Δ (sub x (without-∈ x fv ps h).0))
  where
    go : (x ∈ ps) ⊎ (x ∈ Δ) → x ∈ Δ
    go (inl k) = absurd ((without-∈ x fv ps h).1 k)
    go (inr k) = k

joined : (s t Δ : List VarId) → s ⊆ Δ → t ⊆ Δ → (s ++ t) ⊆ Δ
joined s t Δ hs ht x h = go (∈_split x s t h)
  where
    go : (x ∈ s) ⊎ (x ∈ t) → x ∈ Δ
    go (inl k) = hs x k
    go (inr k) = ht x k

added : (y : VarId) (t Δ : List VarId) → y ∈ Δ → t ⊆ Δ → (y ∷ t) ⊆ Δ
added y t Δ hy ht x (inl e) = rw e hy
added y t Δ hy ht x (inr k) = ht x k

mutual
  unfolding free_vars Scoped

  pub scoped-free : (s : Stmt) (M : ℕ) (Δ : List VarId) → Scoped s M Δ → free_vars s ⊆ Δ
  scoped-free (Substitute ps next) M Δ sc = absurd sc
  scoped-free (Call label args) M Δ sc = sc
  scoped-free (Let var ty tag args next) M Δ sc =
      joined (without (free_vars next) (var.id ∷ [])) (ids args) Δ
      (free-above (free_vars next) (var.id ∷ []) Δ (scoped-free next M (var.id ∷ Δ) sc.2)) sc.0
  scoped-free (Switch var ty cs) M Δ sc = added var.id (free_vars_clauses cs) Δ sc.0 (scoped_free_clauses cs M Δ sc.1)
  scoped-free (Create var ty env cs next) M Δ sc =
      joined (without (free_vars next) (var.id ∷ [])) (free_vars_clauses cs) Δ
      (free-above (free_vars next) (var.id ∷ []) Δ (scoped-free next M (var.id ∷ Δ) sc.3)) (scoped_free_clauses cs M Δ sc.1)
  scoped-free (Invoke var tag ty args) M Δ sc = added var.id (ids args) Δ sc.0 sc.1
  scoped-free (Literal lit var next) M Δ sc = free-above (free_vars next) (var.id ∷ []) Δ (scoped-free next M (var.id ∷ Δ) sc.1)
  scoped-free (Op fst op snd var next) M Δ sc =
      let later = without (free_vars next) (var.id ∷ []) in
      added fst.id (snd.id ∷ later) Δ sc.0
      (added snd.id later Δ sc.1 (free-above (free_vars next) (var.id ∷ []) Δ (scoped-free next M (var.id ∷ Δ) sc.3)))
  scoped-free (IfC sort fst snd thenc elsec) M Δ sc =
      let branches = free_vars thenc ++ free_vars elsec in
      added fst.id (optional_id snd ++ branches) Δ sc.0
      (joined (optional_id snd) branches Δ sc.1
      (joined (free_vars thenc) (free_vars elsec) Δ (scoped-free thenc M Δ sc.2) (scoped-free elsec M Δ sc.3)))
  scoped-free (PrintI64 newline var next) M Δ sc = added var.id (free_vars next) Δ sc.0 (scoped-free next M Δ sc.1)
  scoped-free (Exit var) M Δ sc = added var.id [] Δ sc (λ x h. absurd h)

  pub scoped_free_clauses : (cs : Clauses) (M : ℕ) (Δ : List VarId) → ScopedClauses cs M Δ → free_vars_clauses cs ⊆ Δ
  scoped_free_clauses end M Δ sc = λ x h. absurd h
  scoped_free_clauses (clause xtor context body rest) M Δ sc =
      joined (without (free_vars body) (ids context)) (free_vars_clauses rest) Δ
      (free-above (free_vars body) (ids context) Δ (scoped-free body M (ids context ++ Δ) sc.1)) (scoped_free_clauses rest M Δ sc.2)
