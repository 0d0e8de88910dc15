-- The step of Call. Assumes nothing.
use mathlib.Core.Path.{◌≡◌, refl}
use mathlib.Core.Logic.{inl, inr}
use mathlib.Core.List.{List, []}
use mathlib.Core.Option.{Option, none, some}
use Prim.Native.Nat.{ℕ}
use lib.ListN.{length}
use Rattle.syntax.specs.Context.{Context, ids, same_context}
use Rattle.syntax.specs.declared.names.VarId.{VarId}
use Rattle.syntax.specs.declared.names.Name.{Name}
use Rattle.syntax.specs.declared.names.Identifier.{Identifier}
use Rattle.syntax.proofs.Same.{same_context-sound}
use Rattle.model.specs.Syntax.{Prog, Def, Call}
use Rattle.model.specs.Lists.{zip}
use Rattle.model.specs.FreeVars.{free_vars}
use Rattle.model.specs.Renaming.{Renaming, no_renaming, rename_context}
use Rattle.model.specs.Rules.{freshen_unless_lem}
use Rattle.model.specs.Pass.{linearize_stmt, linearize}
use Rattle.model.specs.Machine.{Value, Entries, Cells, at, shows, or_halt, pair_up, Call'}
use Rattle.model.specs.Source.{source_step_lem, source_work}
use Rattle.model.specs.Linear.{linear_step_lem, linear_work, shows_unless_twice, in_order_lem}
use Rattle.model.proofs.Alist.{got-lookups, got-length, values-zip, Pairs, pair?}
use Rattle.model.proofs.Invariant.{Fits, SameCells, fits-distinct, args-got, args-up_to}
use Rattle.model.proofs.Simulation.{Matches, Simulates, arrive}
use Rattle.model.proofs.Rearrange.{freshen_unless_draws, after-distinct, counts}
use Rattle.model.proofs.Bodies.{neither, both, SameDef, same-label, body-fits}
use Rattle.model.proofs.Scoping.{ScopedProg}

-- both machines begin a definition with the same values
module _ (P : Prog) (K K' : Cells) (cells : SameCells P.max_id K K') where
  entered : (label : Name) (vs : List Value) (o o' : Option Def) → SameDef P.max_id o o'
      → Matches P.max_id
      (or_halt o λ d. or_halt (pair_up (ids d.context) vs) λ ε'. shows (Call' label) (at d.body ε' K))
      (or_halt o' λ d. or_halt (pair_up (ids d.context) vs) λ l'. shows_unless_twice (Call' label) d.body l' K')
  entered label vs none (some d') x'' = elim x'' [ ]
  entered label vs (some d) none x3 = elim x3 [ ]
  entered label vs none none neither = tt
  entered label vs (some d) (some d') (both r) = go (pair? (ids d.context) vs)
    where
      go : Pairs (ids d.context) vs → Matches P.max_id
          (or_halt (pair_up (ids d.context) vs) λ ε'. shows (Call' label) (at d.body ε' K))
          (or_halt (pair_up (ids d'.context) vs) λ l'. shows_unless_twice (Call' label) d'.body l' K')
      go (inl e) = rw (← r.context, e) tt
      go (inr e) =
          let fits = body-fits P.max_id r.m d.context d.body r.above r.binds r.scoped vs e.1 in
          rw (← r.context, e.0, fits-distinct fits) (refl, (record { Δ = ids d.context; ρ = no_renaming; Γ = d.context; m = r.m; fits = fits; scoped = r.scoped; is = r.body }, cells))

module _ (P : Prog) {Δ : List VarId} {ρ : Renaming} {Γ : Context} {m : ℕ} {ε l : Entries} (K K' : Cells) (cells : SameCells P.max_id K K') where
  pub sim-Call : ScopedProg P → (label : Identifier) (args : Context) → Fits P.max_id (free_vars (Call label args)) Δ ρ Γ m ε l
      → Simulates P (at (Call label args) ε K) (at (linearize_stmt (Call label args) ρ Γ m).0 l K')
  unfolding linearize_stmt free_vars source_step_lem source_work linear_step_lem in_order_lem linear_work
  sim-Call acc label args₀ f =
      let args = rename_context ρ args₀ in
      let right = same_context Γ args in
      let T = (freshen_unless_lem right args [] m).0 in
      let got = args-got f args₀ (λ x h. h) in
      let vs = got.0 in
      let dr = freshen_unless_draws right args [] m (args-up_to f args₀ (λ x h. h)) (λ x h. absurd h) in
      let count : length (ids T) ≡ length vs = counts T args vs dr.count (got-length (ids args) l vs got.2) in (
        at (Call label []) (zip (ids T) vs) K',
        arrive (linearize P) right Γ T args (Call label []) l K' vs (λ e. (same_context-sound Γ args e, dr.kept e)) f.good.once
            (after-distinct right Γ [] args T (λ e. same_context-sound Γ args e) dr f.good.once tt) dr.count f.ordered got.2,
        rw (got-lookups (ids args₀) ε vs got.1, values-zip (ids T) vs count) (entered P K K' cells label.name vs _ _ (same-label P acc label.name)),
      )
