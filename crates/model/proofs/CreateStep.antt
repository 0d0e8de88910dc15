-- The step of Create. Assumes nothing.
use mathlib.Core.Path.{◌≡◌, refl, sym, ◌∙◌, ap}
use mathlib.Core.Bool.{true}
use mathlib.Core.List.{List, [], ◌∷◌, ◌++◌}
use mathlib.Core.Option.{Option, some}
use Prim.Native.Nat.{ℕ}
use native.Mathlib.Nat.{le_trans}
use lib.ListN.{length, length-map}
use Rattle.syntax.specs.Context.{Context, id_of, ids, same_context}
use Rattle.syntax.specs.Sets.{without}
use Rattle.syntax.specs.Filter.{filter_by_set_lem}
use Rattle.syntax.specs.declared.names.VarId.{VarId}
use Rattle.syntax.specs.declared.names.Identifier.{Identifier}
use Rattle.syntax.specs.declared.types.Ty.{Ty}
use Rattle.syntax.specs.declared.context.Chirality.TheVariants.{Cns}
use Rattle.syntax.proofs.Members.{∈_left, ∈_right, without-∈}
use Rattle.syntax.proofs.Same.{same_context-sound}
use Rattle.model.specs.Syntax.{Stmt, Clauses, Create, Prog}
use Rattle.model.specs.Lists.{zip}
use Rattle.model.specs.FreeVars.{free_vars, free_vars_clauses}
use Rattle.model.specs.Renaming.{Renaming, rename_ids, rename_unless, renaming}
use Rattle.model.specs.Rules.{bind, freshen_unless_lem, move_behind_lem}
use Rattle.model.specs.Pass.{linearize_stmt, linearize_clauses, linearize}
use Rattle.model.specs.Machine.{Value, cell, Entries, closure, Cells, at}
use Rattle.model.specs.Source.{source_step_lem, source_work}
use Rattle.model.specs.Linear.{linear_step_lem, linear_work, in_order_lem}
use Rattle.model.proofs.Scoping.{Scoped}
use Rattle.model.proofs.Alist.{firsts-zip, length-zip, got-length}
use Rattle.model.proofs.Grows.{linearize_clauses-grows}
use Rattle.model.proofs.Good.{selects_filter, selects_behind}
use Rattle.model.proofs.Invariant.{Fits, AtClauses, SameCells, rename_ids_in, fits-distinct, later, part-values, part-good, narrow, behind}
use Rattle.model.proofs.Simulation.{last_of_at, before_last-at, arrive₂, Matches, Simulates, consumes, appended_distinct}
use Rattle.model.proofs.Rearrange.{Drawn, freshen_unless_draws, before-distinct}
use Rattle.model.proofs.Renames.{renamed-fits}
use Rattle.model.proofs.Cells.{same_count, one_more}

module _ (P : Prog) {Δ : List VarId} {ρ : Renaming} {Γ : Context} {m : ℕ} {ε l : Entries} (K K' : Cells) (cells : SameCells P.max_id K K') where
  -- with the environment's entries at the end of the list
  work-Create : (var : Identifier) (ty : Ty) (none₀ : Option Context) (cs cs' : Clauses) (next : Stmt) (env : Context) (vs : List Value)
      → Fits P.max_id (without (free_vars next) (var.id ∷ [])) Δ ρ Γ m ε l → Scoped (Create var ty none₀ cs next) P.max_id Δ
      → AtClauses P.max_id cs ε cs' (zip (ids env) vs) → length (ids env) ≡ length vs
      → Matches P.max_id (source_work P (Create var ty none₀ cs next) ε K)
      (linear_step_lem (linearize P) (at (Create var ty (some env) cs' (linearize_stmt next ρ (Γ ++ (bind var Cns ty ∷ [])) m).0)
      (l ++ zip (ids env) vs) K'))
  unfolding Scoped source_work linear_step_lem in_order_lem linear_work
  work-Create var ty none₀ cs cs' next env vs f sc a count =
      let held = zip (ids env) vs in
      let e : length held ≡ length env = length-zip (ids env) vs count ∙ length-map env id_of in
      let after : Fits P.max_id (free_vars next) (var.id ∷ Δ) ρ (Γ ++ (bind var Cns ty ∷ [])) m ((var.id, cell (length K')) ∷ ε) (l ++ ((var.id, cell (length K')) ∷ [])) =
      behind (free_vars next) (bind var Cns ty ∷ []) f sc.2 (cell (length K') ∷ []) refl in
      let d = appended_distinct l var.id (cell (length K')) (fits-distinct after) in
      rw (
        same_count P.max_id K K' cells,
        consumes l held (ids env) (length env) var.id (firsts-zip (ids env) vs count) (length-map env id_of) d,
        before_last-at l held (length env) e,
        last_of_at l held (length env) e,
      )
      (refl, (record { Δ = var.id ∷ Δ; ρ = ρ; Γ = Γ ++ (bind var Cns ty ∷ []); m = m; fits = after; scoped = sc.3; is = refl }, one_more P.max_id K K' (closure ε cs) (closure held cs') cells a))

module _ (P : Prog) {Δ : List VarId} {ρ : Renaming} {Γ : Context} {m : ℕ} {ε l : Entries} (K K' : Cells) (cells : SameCells P.max_id K K') where
  pub sim-Create : (var : Identifier) (ty : Ty) (none₀ : Option Context) (cs : Clauses) (next : Stmt)
      → Fits P.max_id (free_vars (Create var ty none₀ cs next)) Δ ρ Γ m ε l → Scoped (Create var ty none₀ cs next) P.max_id Δ
      → Simulates P (at (Create var ty none₀ cs next) ε K) (at (linearize_stmt (Create var ty none₀ cs next) ρ Γ m).0 l K')
  unfolding linearize_stmt free_vars Scoped source_step_lem
  sim-Create var ty none₀ cs next f sc =
      let N = filter_by_set_lem (rename_ids ρ (free_vars next)) Γ in
      let env = filter_by_set_lem (rename_ids ρ (free_vars_clauses cs)) (move_behind_lem (length N) Γ) in
      let right = same_context Γ (N ++ env) in
      let cs' = (linearize_clauses cs true ρ env m).0 in
      let m₁ = (linearize_clauses cs true ρ env m).1 in
      let T = (freshen_unless_lem right N (ids env) m₁).0 in
      let m₂ = (freshen_unless_lem right N (ids env) m₁).1 in
      let ρ' = rename_unless right ρ (renaming N T) in
      let selN = selects_filter (rename_ids ρ (free_vars next)) Γ in
      let selE = selects_behind (rename_ids ρ (free_vars_clauses cs)) (length N) Γ in
      let partN = part-values f selN in
      let partE = part-values f selE in
      let us = partN.0 in
      let vs = partE.0 in
      let grown = linearize_clauses-grows cs true ρ env m in
      let dr : Drawn right N (ids env) m₁ T m₂ =
      freshen_unless_draws right N (ids env) m₁ (λ x h. le_trans ((part-good f selN).up_to x h) grown)
      (λ x h. le_trans ((part-good f selE).up_to x h) grown) in
      let same : right ≡ true → Γ ≡ N ++ env = same_context-sound Γ (N ++ env) in
      let countN : length N ≡ length us = sym (length-map N id_of) ∙ got-length (ids N) l us partN.1 in
      let fitsN : Fits P.max_id (without (free_vars next) (var.id ∷ [])) Δ ρ N m ε (zip (ids N) us) =
      narrow f selN (λ x h. ∈_left x (without (free_vars next) (var.id ∷ [])) (free_vars_clauses cs) h)
      (λ x h. rename_ids_in ρ x (free_vars next) (without-∈ x (free_vars next) (var.id ∷ []) h).0) us partN.1 in
      let fitsE : Fits P.max_id (free_vars_clauses cs) Δ ρ env m ε (zip (ids env) vs) =
      narrow f selE (λ x h. ∈_right x (without (free_vars next) (var.id ∷ [])) (free_vars_clauses cs) h) (λ x h. rename_ids_in ρ x (free_vars_clauses cs) h) vs partE.1 in (
        at (Create var ty (some env) cs' (linearize_stmt next ρ' (T ++ (bind var Cns ty ∷ [])) m₂).0) (zip (ids T) us ++ zip (ids env) vs) K',
        arrive₂ (linearize P) right Γ T env N env _ l K' us vs (λ e. (same e, ap (λ (r : Context). r ++ env) (dr.kept e))) f.good.once
            (before-distinct right Γ env N T same dr f.good.once (part-good f selE).once) dr.count refl f.ordered partN.1 partE.1,
        work-Create P K K' cells var ty none₀ cs cs' next env vs (renamed-fits us (later fitsN grown) countN (ids env) right T m₂ dr) sc
            (record { Δ = Δ; ρ = ρ; Γ = env; m = m; fits = fitsE; scoped = sc.1; is = refl }) (got-length (ids env) l vs partE.1),
      )
