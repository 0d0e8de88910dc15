-- Each statement's step, put together: states that fit are simulated. Assumes nothing.
use mathlib.Core.Path.{refl, subst}
use mathlib.Core.Logic.{inr}
use mathlib.Core.List.{List}
use Prim.Native.Nat.{ℕ}
use Rattle.syntax.specs.Context.{Context}
use Rattle.syntax.specs.declared.names.VarId.{VarId}
use Rattle.model.specs.Syntax.{Stmt, Substitute, Call, Let, Switch, Create, Invoke, Literal, Op, IfC, PrintI64, Exit, Prog}
use Rattle.model.specs.FreeVars.{free_vars}
use Rattle.model.specs.Renaming.{Renaming}
use Rattle.model.specs.Pass.{linearize_stmt}
use Rattle.model.specs.Machine.{Entries, Cells, State, at, ended}
use Rattle.model.specs.Source.{source_step_lem}
use Rattle.model.specs.Linear.{linear_step_lem}
use Rattle.model.proofs.Scoping.{Scoped, ScopedProg}
use Rattle.model.proofs.Invariant.{Fits, SameCells, Same}
use Rattle.model.proofs.Simulation.{Simulates}
use Rattle.model.proofs.CallStep.{sim-Call}
use Rattle.model.proofs.LetStep.{sim-Let}
use Rattle.model.proofs.SwitchStep.{sim-Switch}
use Rattle.model.proofs.CreateStep.{sim-Create}
use Rattle.model.proofs.InvokeStep.{sim-Invoke}
use Rattle.model.proofs.LiteralStep.{sim-Literal}
use Rattle.model.proofs.OpStep.{sim-Op}
use Rattle.model.proofs.IfCStep.{sim-IfC}
use Rattle.model.proofs.PrintStep.{sim-PrintI64}
use Rattle.model.proofs.ExitStep.{sim-Exit}

sim-statement : (P : Prog) → ScopedProg P → (s : Stmt) {Δ : List VarId} {ρ : Renaming} {Γ : Context} {m : ℕ} {ε l : Entries} (K K' : Cells)
    → SameCells P.max_id K K' → Fits P.max_id (free_vars s) Δ ρ Γ m ε l → Scoped s P.max_id Δ
    → Simulates P (at s ε K) (at (linearize_stmt s ρ Γ m).0 l K')
unfolding Scoped
sim-statement P acc (Substitute ps next) K K' cells f sc = absurd sc
sim-statement P acc (Call label args) K K' cells f sc = sim-Call P K K' cells acc label args f
sim-statement P acc (Let var ty tag args next) K K' cells f sc = sim-Let P K K' cells var ty tag args next f sc
sim-statement P acc (Switch var ty cs) K K' cells f sc = sim-Switch P K K' cells var ty cs f sc
sim-statement P acc (Create var ty env cs next) K K' cells f sc = sim-Create P K K' cells var ty env cs next f sc
sim-statement P acc (Invoke var tag ty args) K K' cells f sc = sim-Invoke P K K' cells var tag ty args f
sim-statement P acc (Literal lit var next) K K' cells f sc = sim-Literal P K K' cells lit var next f sc
sim-statement P acc (Op fst op snd var next) K K' cells f sc = sim-Op P K K' cells fst op snd var next f sc
sim-statement P acc (IfC sort fst snd thenc elsec) K K' cells f sc = sim-IfC P K K' cells sort fst snd thenc elsec f sc
sim-statement P acc (PrintI64 newline var next) K K' cells f sc = sim-PrintI64 P K K' cells newline var next f sc
sim-statement P acc (Exit var) K K' cells f sc = sim-Exit P K K' cells var f

pub simulate : (P : Prog) → ScopedProg P → (s t : State) → Same P.max_id s t → Simulates P s t
unfolding source_step_lem linear_step_lem
simulate P acc (at s ε K) (at t l K') h = subst (λ (r : Stmt). Simulates P (at s ε K) (at r l K')) h.0.is (sim-statement P acc s K K' h.1 h.0.fits h.0.scoped)
simulate P acc (at s ε K) (ended t l K') h = absurd h
simulate P acc (ended s ε K) (at t l K') h = absurd h
simulate P acc (ended s ε K) (ended t l K') h = (ended t l K', inr refl, tt)
