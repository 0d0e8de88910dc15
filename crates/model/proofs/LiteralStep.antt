-- The step of Literal. Assumes nothing.
use mathlib.Core.Path.{refl}
use mathlib.Core.List.{List, [], ◌∷◌, ◌++◌}
use Prim.Native.Nat.{ℕ}
use lib.IntN.{ℤ}
use Rattle.syntax.specs.Context.{Context, ids}
use Rattle.syntax.specs.Sets.{without}
use Rattle.syntax.specs.Filter.{filter_by_set_lem}
use Rattle.syntax.specs.declared.names.VarId.{VarId}
use Rattle.syntax.specs.declared.names.Identifier.{Identifier}
use Rattle.syntax.specs.declared.context.Chirality.TheVariants.{Ext}
use Rattle.syntax.specs.declared.types.Ty.TheVariants.{I64}
use Rattle.syntax.proofs.Members.{without-∈}
use Rattle.model.specs.Syntax.{Stmt, Prog, Literal}
use Rattle.model.specs.Lists.{zip}
use Rattle.model.specs.FreeVars.{free_vars}
use Rattle.model.specs.Renaming.{Renaming, rename_ids}
use Rattle.model.specs.Rules.{bind}
use Rattle.model.specs.Pass.{linearize_stmt, linearize}
use Rattle.model.specs.Machine.{int, Entries, Cells, at}
use Rattle.model.specs.Source.{source_step_lem, source_work}
use Rattle.model.specs.Linear.{linear_step_lem, linear_work, in_order_lem}
use Rattle.model.proofs.Scoping.{Scoped}
use Rattle.model.proofs.Good.{selects_filter}
use Rattle.model.proofs.Invariant.{Fits, SameCells, rename_ids_in, fits-distinct, part-values, narrow, behind}
use Rattle.model.proofs.Simulation.{Matches, Simulates, arrive-kept, appended_distinct}

module _ (P : Prog) {Δ : List VarId} {ρ : Renaming} {Γ : Context} {m : ℕ} {ε l : Entries} (K K' : Cells) (cells : SameCells P.max_id K K') where
  work-Literal : (lit : ℤ) (var : Identifier) (next : Stmt) → Fits P.max_id (without (free_vars next) (var.id ∷ [])) Δ ρ Γ m ε l → Scoped (Literal lit var next) P.max_id Δ
      → Matches P.max_id (source_work P (Literal lit var next) ε K) (linear_step_lem (linearize P) (at (Literal lit var (linearize_stmt next ρ (Γ ++ (bind var Ext I64 ∷ [])) m).0) l K'))
  unfolding Scoped source_work linear_step_lem in_order_lem linear_work
  work-Literal lit var next f sc =
      let after : Fits P.max_id (free_vars next) (var.id ∷ Δ) ρ (Γ ++ (bind var Ext I64 ∷ [])) m ((var.id, int lit) ∷ ε) (l ++ ((var.id, int lit) ∷ [])) =
      behind (free_vars next) (bind var Ext I64 ∷ []) f sc.0 (int lit ∷ []) refl in
      rw (appended_distinct l var.id (int lit) (fits-distinct after)) (refl, (record { Δ = var.id ∷ Δ; ρ = ρ; Γ = Γ ++ (bind var Ext I64 ∷ []); m = m; fits = after; scoped = sc.1; is = refl }, cells))

module _ (P : Prog) {Δ : List VarId} {ρ : Renaming} {Γ : Context} {m : ℕ} {ε l : Entries} (K K' : Cells) (cells : SameCells P.max_id K K') where
  pub sim-Literal : (lit : ℤ) (var : Identifier) (next : Stmt) → Fits P.max_id (free_vars (Literal lit var next)) Δ ρ Γ m ε l → Scoped (Literal lit var next) P.max_id Δ
      → Simulates P (at (Literal lit var next) ε K) (at (linearize_stmt (Literal lit var next) ρ Γ m).0 l K')
  unfolding linearize_stmt free_vars source_step_lem
  sim-Literal lit var next f sc =
      let new = filter_by_set_lem (rename_ids ρ (free_vars next)) Γ in
      let sel = selects_filter (rename_ids ρ (free_vars next)) Γ in
      let part = part-values f sel in (
        at (Literal lit var (linearize_stmt next ρ (new ++ (bind var Ext I64 ∷ [])) m).0) (zip (ids new) part.0) K',
        arrive-kept (linearize P) f (rename_ids ρ (free_vars next)) _ K',
        work-Literal P K K' cells lit var next (narrow f sel (λ x h. h) (λ x h. rename_ids_in ρ x (free_vars next) (without-∈ x (free_vars next) (var.id ∷ []) h).0) part.0 part.1) sc,
      )
