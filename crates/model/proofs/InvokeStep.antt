-- The step of Invoke. Assumes nothing.
use mathlib.Core.Path.{◌≡◌, refl, ◌∙◌, ap, subst}
use mathlib.Core.Logic.{inl, inr}
use mathlib.Core.Bool.{true}
use mathlib.Core.List.{List, [], ◌∷◌, ◌++◌}
use mathlib.Core.Option.{Option}
use Prim.Native.Nat.{ℕ, ◌≤◌}
use native.Mathlib.Nat.{le_refl}
use lib.ListN.{length}
use Rattle.syntax.specs.Context.{Context, id_of, ids, same_context}
use Rattle.syntax.specs.Sets.{◌∈◌}
use Rattle.syntax.specs.declared.names.VarId.{VarId}
use Rattle.syntax.specs.declared.names.Name.{Name}
use Rattle.syntax.specs.declared.names.Identifier.{Identifier}
use Rattle.syntax.specs.declared.types.Ty.{Ty}
use Rattle.syntax.specs.declared.context.Chirality.TheVariants.{Cns}
use Rattle.syntax.proofs.Same.{same_context-sound}
use Rattle.model.specs.Syntax.{Clauses, Invoke, Prog}
use Rattle.model.specs.Lists.{lookup, zip}
use Rattle.model.specs.FreeVars.{free_vars, free_vars_clauses}
use Rattle.model.specs.Renaming.{Renaming, rename, rename_id, rename_context}
use Rattle.model.specs.Rules.{bind, freshen_unless_lem}
use Rattle.model.specs.Pass.{linearize_stmt, linearize}
use Rattle.model.specs.Machine.{Value, Entries, Cells, State, at, or_halt, find_clause_lem, Target, Invoke'}
use Rattle.model.specs.Source.{source_step_lem, source_work, source_enter_lem}
use Rattle.model.specs.Linear.{linear_step_lem, linear_work, linear_enter_lem, in_order_lem}
use Rattle.model.proofs.Alist.{got-lookups, got-length, values-zip}
use Rattle.model.proofs.Invariant.{Fits, SameCells, Same, rename-id, free_in, args-got, args-up_to}
use Rattle.model.proofs.Simulation.{before_last-at, last_value-at, arrive₂, Matches, Simulates, last_in_order}
use Rattle.model.proofs.Rearrange.{Drawn, freshen_unless_draws, before-distinct, counts}
use Rattle.model.proofs.Bodies.{SameClause, same-clause}
use Rattle.model.proofs.Cells.{SameTarget, no_target, same_out, same-clo, same-invoked, opened}

module _ (P : Prog) (K K' : Cells) (cells : SameCells P.max_id K K') where
  entered : (s t : State) → Same P.max_id s t → (tag : Name) (vs : List Value) {o o' : Option Target} → SameTarget P.max_id o o'
      → Matches P.max_id (or_halt o λ x. source_enter_lem s tag vs K x) (or_halt o' λ x. linear_enter_lem t tag vs K' x)
  unfolding source_enter_lem linear_enter_lem
  entered s t h tag vs no_target = tt
  entered s t h tag vs (same_out n) = (refl, h)
  entered s t h tag vs (same-clo i {cs = cs} a) =
      opened P.max_id K K' cells true a.fits (Invoke' i tag) vs _ _
      (subst (λ (r : Clauses). SameClause P.max_id (free_vars_clauses cs) a.Δ true a.ρ a.Γ a.m (find_clause_lem tag cs) (find_clause_lem tag r)) a.is
      (same-clause P.max_id tag (free_vars_clauses cs) a.Δ true a.ρ a.Γ a.m cs a.m (le_refl a.m) (λ x h. h) a.scoped))

module _ (P : Prog) {Δ : List VarId} {ρ : Renaming} {Γ : Context} {m : ℕ} {ε l : Entries} (K K' : Cells) (cells : SameCells P.max_id K K') where
  pub sim-Invoke : (var tag : Identifier) (ty : Ty) (args : Context) → Fits P.max_id (free_vars (Invoke var tag ty args)) Δ ρ Γ m ε l
      → Simulates P (at (Invoke var tag ty args) ε K) (at (linearize_stmt (Invoke var tag ty args) ρ Γ m).0 l K')
  unfolding linearize_stmt free_vars source_step_lem source_work linear_step_lem in_order_lem linear_work
  sim-Invoke var tag ty args₀ f =
      let args = rename_context ρ args₀ in
      let b = bind (rename ρ var) Cns ty in
      let right = same_context Γ (args ++ (b ∷ [])) in
      let T = (freshen_unless_lem right args (id_of b ∷ []) m).0 in
      let m₁ = (freshen_unless_lem right args (id_of b ∷ []) m).1 in
      let got = args-got f args₀ (λ x h. inr h) in
      let vs = got.0 in
      let a = f.agrees var.id (inl refl) in
      let dr : Drawn right args (ids (b ∷ [])) m T m₁ = freshen_unless_draws right args (id_of b ∷ []) m (args-up_to f args₀ (λ x h. inr h)) closure-up_to in
      let same : right ≡ true → Γ ≡ args ++ (b ∷ []) = same_context-sound Γ (args ++ (b ∷ [])) in
      let count : length (ids T) ≡ length vs = counts T args vs dr.count (got-length (ids args) l vs got.2) in (
        at (Invoke (rename ρ var) tag ty []) (zip (ids T) vs ++ ((id_of b, a.0) ∷ [])) K',
        arrive₂ (linearize P) right Γ T (b ∷ []) args (b ∷ []) _ l K' vs (a.0 ∷ []) (λ e. (same e, ap (λ (r : Context). r ++ (b ∷ [])) (dr.kept e))) f.good.once
            (before-distinct right Γ (b ∷ []) args T same dr f.good.once (λ k. k, tt)) dr.count refl f.ordered got.2
            (ap (λ (y : VarId). lookup y l) (rename-id ρ var) ∙ a.2, tt),
        rw (
          a.1,
          got-lookups (ids args₀) ε vs got.1,
          last_in_order (zip (ids T) vs) (id_of b) a.0,
          last_value-at (zip (ids T) vs) (id_of b) a.0,
          before_last-at (zip (ids T) vs) ((id_of b, a.0) ∷ []) 1 refl,
          values-zip (ids T) vs count,
        )
            (entered P K K' cells _ _ tt tag.name vs (same-invoked P.max_id K K' a.0 cells)),
      )
    where
      closure-up_to : (x : VarId) → x ∈ ((rename ρ var).id ∷ []) → x.0 ≤ m
      closure-up_to x (inl e) = rw (e, rename-id ρ var) (f.good.up_to (rename_id ρ var.id) (free_in f var.id (inl refl)))
      closure-up_to x (inr e) = absurd e
