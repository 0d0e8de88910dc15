-- The step of PrintI64. Assumes nothing.
use mathlib.Core.Path.{refl, sym, ◌∙◌, ap}
use mathlib.Core.Logic.{inl, inr}
use mathlib.Core.Bool.{Bool}
use mathlib.Core.List.{List, [], ◌∷◌}
use Prim.Native.Nat.{ℕ}
use Rattle.syntax.specs.Context.{Context, ids}
use Rattle.syntax.specs.Sets.{◌∈◌}
use Rattle.syntax.specs.Filter.{filter_by_set_lem}
use Rattle.syntax.specs.declared.names.VarId.{VarId}
use Rattle.syntax.specs.declared.names.Identifier.{Identifier}
use Rattle.model.specs.Syntax.{Stmt, Prog, PrintI64}
use Rattle.model.specs.Lists.{zip}
use Rattle.model.specs.FreeVars.{free_vars}
use Rattle.model.specs.Renaming.{Renaming, rename, rename_id, rename_ids}
use Rattle.model.specs.Pass.{linearize_stmt, linearize}
use Rattle.model.specs.Machine.{Entries, Cells, at, as_int}
use Rattle.model.specs.Source.{source_step_lem, source_work}
use Rattle.model.specs.Linear.{linear_step_lem, linear_work, in_order_lem}
use Rattle.model.proofs.Scoping.{Scoped}
use Rattle.model.proofs.Good.{selects_filter}
use Rattle.model.proofs.Invariant.{Fits, SameCells, rename-id, rename_ids_in, fewer, part-values, narrow}
use Rattle.model.proofs.Simulation.{Matches, Simulates, both_halt, arrive-kept, got-present, renamed}

module _ (P : Prog) {Δ : List VarId} {ρ : Renaming} {Γ : Context} {m : ℕ} {ε l : Entries} (K K' : Cells) (cells : SameCells P.max_id K K') where
  work-PrintI64 : (newline : Bool) (var : Identifier) (next : Stmt) → Fits P.max_id (free_vars (PrintI64 newline var next)) Δ ρ Γ m ε l → Scoped (PrintI64 newline var next) P.max_id Δ
      → Matches P.max_id (source_work P (PrintI64 newline var next) ε K) (linear_step_lem (linearize P) (at (PrintI64 newline (rename ρ var) (linearize_stmt next ρ Γ m).0) l K'))
  unfolding free_vars Scoped source_work linear_step_lem in_order_lem linear_work
  work-PrintI64 newline var next f sc =
      let a = f.agrees var.id (inl refl) in
      let a' = renamed ρ var l a.0 a.2 in
      rw (a.1, got-present ((rename ρ var).id ∷ []) l (a.0 ∷ []) (a', tt), a')
      (both_halt P.max_id (as_int a.0) _ _ λ z p.
      (refl, (record { Δ = Δ; ρ = ρ; Γ = Γ; m = m; fits = fewer f (λ x h. inr h); scoped = sc.1; is = refl }, cells)))

module _ (P : Prog) {Δ : List VarId} {ρ : Renaming} {Γ : Context} {m : ℕ} {ε l : Entries} (K K' : Cells) (cells : SameCells P.max_id K K') where
  pub sim-PrintI64 : (newline : Bool) (var : Identifier) (next : Stmt) → Fits P.max_id (free_vars (PrintI64 newline var next)) Δ ρ Γ m ε l → Scoped (PrintI64 newline var next) P.max_id Δ
      → Simulates P (at (PrintI64 newline var next) ε K) (at (linearize_stmt (PrintI64 newline var next) ρ Γ m).0 l K')
  unfolding linearize_stmt free_vars source_step_lem
  sim-PrintI64 newline var next f sc =
      let Z = (rename ρ var).id ∷ rename_ids ρ (free_vars next) in
      let new = filter_by_set_lem Z Γ in
      let sel = selects_filter Z Γ in
      let part = part-values f sel in (
        at (PrintI64 newline (rename ρ var) (linearize_stmt next ρ new m).0) (zip (ids new) part.0) K',
        arrive-kept (linearize P) f Z _ K',
        work-PrintI64 P K K' cells newline var next (narrow f sel (λ x h. h) in_z part.0 part.1) sc,
      )
    where
      in_z : (x : VarId) → x ∈ free_vars (PrintI64 newline var next) → rename_id ρ x ∈ ((rename ρ var).id ∷ rename_ids ρ (free_vars next))
      in_z x (inl e) = inl (ap (rename_id ρ) e ∙ sym (rename-id ρ var))
      in_z x (inr h) = inr (rename_ids_in ρ x (free_vars next) h)
