-- The step of Let. Assumes nothing.
use mathlib.Core.Path.{◌≡◌, refl, ◌∙◌, ap}
use mathlib.Core.Bool.{true}
use mathlib.Core.List.{List, [], ◌∷◌, ◌++◌}
use Prim.Native.Nat.{ℕ}
use lib.ListN.{length, length-map}
use Rattle.syntax.specs.Context.{Context, id_of, ids, same_context}
use Rattle.syntax.specs.Sets.{without}
use Rattle.syntax.specs.Filter.{filter_by_set_lem}
use Rattle.syntax.specs.declared.names.VarId.{VarId}
use Rattle.syntax.specs.declared.names.Identifier.{Identifier}
use Rattle.syntax.specs.declared.types.Ty.{Ty}
use Rattle.syntax.specs.declared.context.Chirality.TheVariants.{Prd}
use Rattle.syntax.proofs.Members.{∈_left, ∈_right, without-∈}
use Rattle.syntax.proofs.Same.{same_context-sound}
use Rattle.model.specs.Syntax.{Stmt, Let, Prog}
use Rattle.model.specs.Lists.{zip}
use Rattle.model.specs.FreeVars.{free_vars}
use Rattle.model.specs.Renaming.{Renaming, rename_ids, rename_context}
use Rattle.model.specs.Rules.{bind, freshen_unless_lem}
use Rattle.model.specs.Pass.{linearize_stmt, linearize}
use Rattle.model.specs.Machine.{Value, cell, Entries, xtor, Cells, at}
use Rattle.model.specs.Source.{source_step_lem, source_work}
use Rattle.model.specs.Linear.{linear_step_lem, linear_work, in_order_lem}
use Rattle.model.proofs.Scoping.{◌⊆◌, Scoped}
use Rattle.model.proofs.Alist.{firsts-zip, length-zip, Got, got-lookups, got-length, values-zip}
use Rattle.model.proofs.Good.{selects_filter}
use Rattle.model.proofs.Invariant.{Fits, SameCells, rename_ids_in, fits-distinct, later, args-got, args-up_to, part-values, part-good, narrow, behind}
use Rattle.model.proofs.Simulation.{last_of_at, before_last-at, arrive₂, Matches, Simulates, consumes, appended_distinct}
use Rattle.model.proofs.Rearrange.{Drawn, freshen_unless_draws, after-distinct, counts}
use Rattle.model.proofs.Cells.{same_count, one_more}

module _ (P : Prog) {Δ : List VarId} {ρ : Renaming} {Γ : Context} {m : ℕ} {ε l : Entries} (K K' : Cells) (cells : SameCells P.max_id K K') where
  -- with the arguments' entries `used` at the end of the list
  work-Let : (var : Identifier) (ty : Ty) (tag : Identifier) (args args' : Context) (next : Stmt) (vs : List Value)
      → Fits P.max_id (without (free_vars next) (var.id ∷ [])) Δ ρ Γ m ε l → Scoped (Let var ty tag args next) P.max_id Δ
      → Got (ids args) ε vs → length (ids args') ≡ length vs
      → Matches P.max_id (source_work P (Let var ty tag args next) ε K)
      (linear_step_lem (linearize P) (at (Let var ty tag args' (linearize_stmt next ρ (Γ ++ (bind var Prd ty ∷ [])) m).0) (l ++ zip (ids args') vs) K'))
  unfolding Scoped source_work linear_step_lem in_order_lem linear_work
  work-Let var ty tag args args' next vs f sc got count =
      let used = zip (ids args') vs in
      let e : length used ≡ length args' = length-zip (ids args') vs count ∙ length-map args' id_of in
      let after : Fits P.max_id (free_vars next) (var.id ∷ Δ) ρ (Γ ++ (bind var Prd ty ∷ [])) m ((var.id, cell (length K')) ∷ ε) (l ++ ((var.id, cell (length K')) ∷ [])) =
      behind (free_vars next) (bind var Prd ty ∷ []) f sc.1 (cell (length K') ∷ []) refl in
      let d = appended_distinct l var.id (cell (length K')) (fits-distinct after) in
      rw (
        got-lookups (ids args) ε vs got,
        same_count P.max_id K K' cells,
        consumes l used (ids args') (length args') var.id (firsts-zip (ids args') vs count) (length-map args' id_of) d,
        before_last-at l used (length args') e,
        last_of_at l used (length args') e,
        values-zip (ids args') vs count,
      ) (
        refl,
        (
          record { Δ = var.id ∷ Δ; ρ = ρ; Γ = Γ ++ (bind var Prd ty ∷ []); m = m; fits = after; scoped = sc.2; is = refl },
          one_more P.max_id K K' (xtor tag.name vs) (xtor tag.name vs) cells (refl, refl),
        ),
      )

module _ (P : Prog) {Δ : List VarId} {ρ : Renaming} {Γ : Context} {m : ℕ} {ε l : Entries} (K K' : Cells) (cells : SameCells P.max_id K K') where
  pub sim-Let : (var : Identifier) (ty : Ty) (tag : Identifier) (args : Context) (next : Stmt)
      → Fits P.max_id (free_vars (Let var ty tag args next)) Δ ρ Γ m ε l → Scoped (Let var ty tag args next) P.max_id Δ
      → Simulates P (at (Let var ty tag args next) ε K) (at (linearize_stmt (Let var ty tag args next) ρ Γ m).0 l K')
  unfolding linearize_stmt free_vars source_step_lem
  sim-Let var ty tag args₀ next f sc =
      let args = rename_context ρ args₀ in
      let new = filter_by_set_lem (rename_ids ρ (free_vars next)) Γ in
      let right = same_context Γ (new ++ args) in
      let T = (freshen_unless_lem right args (ids new) m).0 in
      let m₁ = (freshen_unless_lem right args (ids new) m).1 in
      let sub : ids args₀ ⊆ free_vars (Let var ty tag args₀ next) = λ x h. ∈_right x (without (free_vars next) (var.id ∷ [])) (ids args₀) h in
      let sel = selects_filter (rename_ids ρ (free_vars next)) Γ in
      let part = part-values f sel in
      let got = args-got f args₀ sub in
      let dr : Drawn right args (ids new) m T m₁ = freshen_unless_draws right args (ids new) m (args-up_to f args₀ sub) (part-good f sel).up_to in
      let same : right ≡ true → Γ ≡ new ++ args = same_context-sound Γ (new ++ args) in (
        at (Let var ty tag T (linearize_stmt next ρ (new ++ (bind var Prd ty ∷ [])) m₁).0) (zip (ids new) part.0 ++ zip (ids T) got.0) K',
        arrive₂ (linearize P) right Γ new T new args _ l K' part.0 got.0 (λ e. (same e, ap (λ (r : Context). new ++ r) (dr.kept e))) f.good.once
            (after-distinct right Γ new args T same dr f.good.once (part-good f sel).once) refl dr.count f.ordered part.1 got.2,
        work-Let P K K' cells var ty tag args₀ T next got.0
            (later (narrow f sel (λ x h. ∈_left x (without (free_vars next) (var.id ∷ [])) (ids args₀) h)
            (λ x h. rename_ids_in ρ x (free_vars next) (without-∈ x (free_vars next) (var.id ∷ []) h).0) part.0 part.1) dr.grows)
            sc got.1 (counts T args got.0 dr.count (got-length (ids args) l got.0 got.2)),
      )
