-- The step of Exit. Assumes nothing.
use mathlib.Core.Path.{refl}
use mathlib.Core.Logic.{inl, inr}
use mathlib.Core.List.{List, [], ◌∷◌}
use Prim.Native.Nat.{ℕ}
use Rattle.syntax.specs.Context.{Context}
use Rattle.syntax.specs.declared.names.VarId.{VarId}
use Rattle.syntax.specs.declared.names.Identifier.{Identifier}
use Rattle.model.specs.Syntax.{Prog, Exit}
use Rattle.model.specs.FreeVars.{free_vars}
use Rattle.model.specs.Renaming.{Renaming, rename}
use Rattle.model.specs.Pass.{linearize_stmt}
use Rattle.model.specs.Machine.{Entries, Cells, at}
use Rattle.model.specs.Source.{source_step_lem, source_work}
use Rattle.model.specs.Linear.{linear_step_lem, linear_work, in_order_lem}
use Rattle.model.proofs.Invariant.{Fits, SameCells}
use Rattle.model.proofs.Simulation.{Simulates, got-present, renamed}

module _ (P : Prog) {Δ : List VarId} {ρ : Renaming} {Γ : Context} {m : ℕ} {ε l : Entries} (K K' : Cells) (cells : SameCells P.max_id K K') where
  pub sim-Exit : (var : Identifier) → Fits P.max_id (free_vars (Exit var)) Δ ρ Γ m ε l → Simulates P (at (Exit var) ε K) (at (linearize_stmt (Exit var) ρ Γ m).0 l K')
  unfolding linearize_stmt free_vars source_step_lem source_work linear_step_lem in_order_lem linear_work
  sim-Exit var f =
      let a = f.agrees var.id (inl refl) in
      let a' = renamed ρ var l a.0 a.2 in (
        at (Exit (rename ρ var)) l K',
        inr refl,
        rw (a.1, got-present ((rename ρ var).id ∷ []) l (a.0 ∷ []) (a', tt), a') (refl, tt),
      )
