-- The step of Switch. Assumes nothing.
use mathlib.Core.Path.{◌≡◌, refl, ◌∙◌, ap, subst}
use mathlib.Core.Logic.{inl, inr}
use mathlib.Core.Bool.{Bool, true, false, false≢true}
use mathlib.Core.List.{List, [], ◌∷◌, ◌++◌}
use mathlib.Core.Option.{some}
use Prim.Native.Nat.{ℕ, ◌≤◌}
use native.Mathlib.Omega.{arith}
use native.Mathlib.Nat.{le_refl, le_trans}
use Rattle.syntax.specs.Context.{Context, id_of, ids, same_context}
use Rattle.syntax.specs.Sets.{elem, ◌∈◌, Distinct}
use Rattle.syntax.specs.Filter.{filter_by_set_lem}
use Rattle.syntax.specs.Fresh.{drawn}
use Rattle.syntax.specs.declared.names.VarId.{VarId}
use Rattle.syntax.specs.declared.names.Identifier.{Identifier}
use Rattle.syntax.specs.declared.types.Ty.{Ty}
use Rattle.syntax.specs.declared.context.Chirality.TheVariants.{Prd}
use Rattle.syntax.specs.declared.context.ContextBinding.{ContextBinding}
use Rattle.syntax.proofs.Bools.{Answers}
use Rattle.syntax.proofs.Members.{elem?, Distinct-++}
use Rattle.syntax.proofs.Filters.{ids-++}
use Rattle.syntax.proofs.Drawing.{fresh-above}
use Rattle.syntax.proofs.Same.{same_context-sound}
use Rattle.model.specs.Syntax.{Clauses, Switch, Prog}
use Rattle.model.specs.Lists.{lookup, zip}
use Rattle.model.specs.FreeVars.{free_vars, free_vars_clauses}
use Rattle.model.specs.Renaming.{Renaming, rename, rename_ids}
use Rattle.model.specs.Rules.{bind, fresh_var_lem, fresh_var_unless}
use Rattle.model.specs.Pass.{linearize_stmt, linearize_clauses, linearize}
use Rattle.model.specs.Machine.{Value, Entries, Cells, at, matched, Switch'}
use Rattle.model.specs.Source.{source_step_lem, source_work}
use Rattle.model.specs.Linear.{linear_step_lem, linear_work, in_order_lem}
use Rattle.model.proofs.Scoping.{Scoped, ScopedClauses}
use Rattle.model.proofs.Grows.{linearize_clauses-grows}
use Rattle.model.proofs.Good.{selects_filter}
use Rattle.model.proofs.Invariant.{Fits, SameCells, rename-id, rename_ids_in, part-values, part-good, narrow}
use Rattle.model.proofs.Simulation.{before_last-at, last_value-at, arrive₂, Matches, Simulates, both_halt, last_in_order}
use Rattle.model.proofs.Bodies.{same-clause}
use Rattle.model.proofs.Cells.{same-matched, opened}

module _ (P : Prog) {Δ : List VarId} {ρ : Renaming} {Γ : Context} {m : ℕ} {ε l : Entries} (K K' : Cells) (cells : SameCells P.max_id K K') where
  -- with the variable's entry, under whatever name y, at the end of the list
  work-Switch : (var : Identifier) (ty : Ty) (cs : Clauses) (y : Identifier) (v : Value) → Fits P.max_id (free_vars_clauses cs) Δ ρ Γ m ε l → ScopedClauses cs P.max_id Δ → lookup var.id ε ≡ some v
      → Matches P.max_id (source_work P (Switch var ty cs) ε K) (linear_step_lem (linearize P) (at (Switch y ty (linearize_clauses cs false ρ Γ m).0) (l ++ ((y.id, v) ∷ [])) K'))
  unfolding source_work linear_step_lem in_order_lem linear_work
  work-Switch var ty cs y v f sc e =
      rw (e, last_in_order l y.id v, last_value-at l y.id v, before_last-at l ((y.id, v) ∷ []) 1 refl, same-matched P.max_id K K' v cells)
      (both_halt P.max_id (matched K' v) _ _ λ x p.
      opened P.max_id K K' cells false f (Switch' x.0 x.1) x.2 _ _ (same-clause P.max_id x.1 (free_vars_clauses cs) Δ false ρ Γ m cs m (le_refl m) (λ z h. h) sc))

-- the variable matched on, under a fresh name if it is kept too
kept-var : (right : Bool) (b : ContextBinding) (C : List VarId) (m : ℕ) → right ≡ true → (fresh_var_unless right b C m).0 ≡ b
unfolding fresh_var_unless
kept-var true b C m e = refl
kept-var false b C m e = absurd (false≢true e)

fresh-var-distinct : (right : Bool) (Γ A : Context) (b : ContextBinding) (m : ℕ) → (right ≡ true → Γ ≡ A ++ (b ∷ [])) → Distinct (ids Γ) → Distinct (ids A) → ((x : VarId) → x ∈ ids A → x.0 ≤ m)
    → Distinct (ids (A ++ ((fresh_var_unless right b (ids A) m).0 ∷ [])))
unfolding fresh_var_unless
fresh-var-distinct true Γ A b m same dΓ dA h = rw (← same refl) dΓ
fresh-var-distinct false Γ A b m same dΓ dA h =
    rw (ids-++ A ((fresh_var_lem (elem (id_of b) (ids A)) b m).0 ∷ []))
    (Distinct-++ (ids A) (id_of (fresh_var_lem (elem (id_of b) (ids A)) b m).0 ∷ []) dA (λ k. k, tt) (go (elem? (id_of b) (ids A))))
  where
    drawn-away : (x : VarId) → x ∈ ids A → x ∈ (id_of (drawn m b) ∷ []) → ⊥
    drawn-away x k (inl e) = omega (arith, h x k, fresh-above m, ap (λ (y : VarId). y.0) e)
    drawn-away x k (inr e) = e

    kept-away : ¬ (id_of b ∈ ids A) → (x : VarId) → x ∈ ids A → x ∈ (id_of b ∷ []) → ⊥
    kept-away n x k (inl e) = n (subst (λ (z : VarId). z ∈ ids A) e k)
    kept-away n x k (inr e) = e

    go : Answers (elem (id_of b) (ids A)) (id_of b ∈ ids A) → (x : VarId) → x ∈ ids A → x ∈ (id_of (fresh_var_lem (elem (id_of b) (ids A)) b m).0 ∷ []) → ⊥
    go (inl p) = rw p.0 drawn-away
    go (inr p) = rw p.0 (kept-away p.1)

module _ (P : Prog) {Δ : List VarId} {ρ : Renaming} {Γ : Context} {m : ℕ} {ε l : Entries} (K K' : Cells) (cells : SameCells P.max_id K K') where
  pub sim-Switch : (var : Identifier) (ty : Ty) (cs : Clauses) → Fits P.max_id (free_vars (Switch var ty cs)) Δ ρ Γ m ε l → Scoped (Switch var ty cs) P.max_id Δ
      → Simulates P (at (Switch var ty cs) ε K) (at (linearize_stmt (Switch var ty cs) ρ Γ m).0 l K')
  unfolding linearize_stmt free_vars Scoped source_step_lem
  sim-Switch var ty cs f sc =
      let b = bind (rename ρ var) Prd ty in
      let new = filter_by_set_lem (rename_ids ρ (free_vars_clauses cs)) Γ in
      let right = same_context Γ (new ++ (b ∷ [])) in
      let m₁ = (linearize_clauses cs false ρ new m).1 in
      let b' = (fresh_var_unless right b (ids new) m₁).0 in
      let sel = selects_filter (rename_ids ρ (free_vars_clauses cs)) Γ in
      let part = part-values f sel in
      let a = f.agrees var.id (inl refl) in
      let same : right ≡ true → Γ ≡ new ++ (b ∷ []) = same_context-sound Γ (new ++ (b ∷ [])) in (
        at (Switch b'.var ty (linearize_clauses cs false ρ new m).0) (zip (ids new) part.0 ++ ((id_of b', a.0) ∷ [])) K',
        arrive₂ (linearize P) right Γ new (b' ∷ []) new (b ∷ []) _ l K' part.0 (a.0 ∷ []) (λ e. (same e, ap (λ (r : ContextBinding). new ++ (r ∷ [])) (kept-var right b (ids new) m₁ e))) f.good.once
            (fresh-var-distinct right Γ new b m₁ same f.good.once (part-good f sel).once
            (λ x h. le_trans ((part-good f sel).up_to x h) (linearize_clauses-grows cs false ρ new m))) refl refl f.ordered part.1
            (ap (λ (y : VarId). lookup y l) (rename-id ρ var) ∙ a.2, tt),
        work-Switch P K K' cells var ty cs b'.var a.0 (narrow f sel (λ x h. inr h) (λ x h. rename_ids_in ρ x (free_vars_clauses cs) h) part.0 part.1) sc.1 a.1,
      )
