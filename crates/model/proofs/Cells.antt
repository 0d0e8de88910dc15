-- Cells of the two machines that agree one by one, and clauses entered with the same values. Assumes nothing.
use mathlib.Core.Path.{◌≡◌, refl, ap, ap₂}
use mathlib.Core.Logic.{inl, inr}
use mathlib.Core.Bool.{Bool, cond}
use mathlib.Core.List.{List, [], ◌∷◌, ◌++◌}
use mathlib.Core.Option.{Option, none, some}
use Prim.Native.Nat.{ℕ, zero, suc}
use lib.ListN.{length}
use Rattle.syntax.specs.Context.{Context, ids}
use Rattle.syntax.specs.declared.names.VarId.{VarId}
use Rattle.syntax.specs.declared.names.Name.{Name}
use Rattle.model.specs.Syntax.{Stmt, Clauses}
use Rattle.model.specs.FreeVars.{free_vars}
use Rattle.model.specs.Renaming.{Renaming}
use Rattle.model.specs.Machine.{Value, int, cell, outside, Entries, Cell, xtor, closure, Cells, at, Event, shows, or_halt, nth, pair_up, matched, as_xtor, Target, out, clo, invoked, as_closure}
use Rattle.model.specs.Linear.{shows_unless_twice}
use Rattle.model.proofs.Alist.{Pairs, pair?}
use Rattle.model.proofs.Invariant.{Fits, AtClauses, SameCell, SameCells, fits-distinct, later, fewer, joined}
use Rattle.model.proofs.Simulation.{Matches}
use Rattle.model.proofs.Bodies.{SameClause, neither, both}

-- ── cells ──

pub same_count : (M : ℕ) (K K' : Cells) → SameCells M K K' → length K ≡ length K'
same_count M [] [] s = refl
same_count M [] (c ∷ K') s = absurd s
same_count M (c ∷ K) [] s = absurd s
same_count M (c ∷ K) (c' ∷ K') s = ap suc (same_count M K K' s.1)

-- one cell more on both sides
pub one_more : (M : ℕ) (K K' : Cells) (c c' : Cell) → SameCells M K K' → SameCell M c c' → SameCells M (K ++ (c ∷ [])) (K' ++ (c' ∷ []))
one_more M [] [] c c' s h = (h, tt)
one_more M [] (d ∷ K') c c' s h = absurd s
one_more M (d ∷ K) [] c c' s h = absurd s
one_more M (d ∷ K) (d' ∷ K') c c' s h = (s.0, one_more M K K' c c' s.1 h)

-- what stands at a number: nothing on both sides, or cells that agree
data SameAt (M : ℕ) : Option Cell → Option Cell → Type 0 where
  nothing : SameAt M none none
  there : {c c' : Cell} → SameCell M c c' → SameAt M (some c) (some c')

same_at : (M : ℕ) (K K' : Cells) (i : ℕ) → SameCells M K K' → SameAt M (nth i K) (nth i K')
same_at M [] [] i s = nothing
same_at M [] (c ∷ K') i s = absurd s
same_at M (c ∷ K) [] i s = absurd s
same_at M (c ∷ K) (c' ∷ K') zero s = there s.0
same_at M (c ∷ K) (c' ∷ K') (suc i) s = same_at M K K' i s.1

-- a Switch finds the same on both sides
as_xtor_lem : (M : ℕ) (i : ℕ) (o o' : Option Cell) → SameAt M o o' → as_xtor i o ≡ as_xtor i o'
as_xtor_lem M i none (some _) x3 = elim x3 [ ]
as_xtor_lem M i (some (xtor t vs)) none x5 = elim x5 [ ]
as_xtor_lem M i (some (closure ε cs)) none x6 = elim x6 [ ]
as_xtor_lem M i none none nothing = refl
as_xtor_lem M i (some (xtor t vs)) (some (xtor t' vs')) (there h) = ap₂ (λ (x : Name) (y : List Value). some (i, x, y)) h.0 h.1
as_xtor_lem M i (some (xtor t vs)) (some (closure l cs')) (there h) = absurd h
as_xtor_lem M i (some (closure ε cs)) (some (xtor t' vs')) (there h) = absurd h
as_xtor_lem M i (some (closure ε cs)) (some (closure l cs')) (there h) = refl

pub same-matched : (M : ℕ) (K K' : Cells) (v : Value) → SameCells M K K' → matched K v ≡ matched K' v
same-matched M K K' (int z) s = refl
same-matched M K K' (cell i) s = as_xtor_lem M i (nth i K) (nth i K') (same_at M K K' i s)
same-matched M K K' (outside n) s = refl

-- an Invoke finds the same outside number, or closures that agree
pub data SameTarget (M : ℕ) : Option Target → Option Target → Type 0 where
  no_target : SameTarget M none none
  same_out : (n : ℕ) → SameTarget M (some (out n)) (some (out n))
  same-clo : (i : ℕ) {ε l : Entries} {cs cs' : Clauses} → AtClauses M cs ε cs' l → SameTarget M (some (clo i ε cs)) (some (clo i l cs'))

as_closure_lem : (M : ℕ) (i : ℕ) (o o' : Option Cell) → SameAt M o o' → SameTarget M (as_closure i o) (as_closure i o')
as_closure_lem M i none (some _) x3 = elim x3 [ ]
as_closure_lem M i (some (xtor t vs)) none x5 = elim x5 [ ]
as_closure_lem M i (some (closure ε cs)) none x6 = elim x6 [ ]
as_closure_lem M i none none nothing = no_target
as_closure_lem M i (some (xtor t vs)) (some (xtor t' vs')) (there h) = no_target
as_closure_lem M i (some (xtor t vs)) (some (closure l cs')) (there h) = absurd h
as_closure_lem M i (some (closure ε cs)) (some (xtor t' vs')) (there h) = absurd h
as_closure_lem M i (some (closure ε cs)) (some (closure l cs')) (there h) = same-clo i h

pub same-invoked : (M : ℕ) (K K' : Cells) (v : Value) → SameCells M K K' → SameTarget M (invoked K v) (invoked K' v)
same-invoked M K K' (int z) s = no_target
same-invoked M K K' (cell i) s = as_closure_lem M i (nth i K) (nth i K') (same_at M K K' i s)
same-invoked M K K' (outside n) s = same_out n

-- ── a clause is entered ──

-- with as many values as parameters, which stand before the context or behind it
module _ (M : ℕ) (K K' : Cells) (cells : SameCells M K K') {fv Δ : List VarId} (before : Bool) {ρ : Renaming} {Γ : Context} {m : ℕ} {ε l : Entries}
    (f : Fits M fv Δ ρ Γ m ε l) (e : Event) (vs : List Value) where
  pub opened : (o o' : Option (Context × Stmt)) → SameClause M fv Δ before ρ Γ m o o'
      → Matches M (or_halt o λ c. or_halt (pair_up (ids c.0) vs) λ new. shows e (at c.1 (new ++ ε) K))
      (or_halt o' λ c. or_halt (pair_up (ids c.0) vs) λ new. shows_unless_twice e c.1 (cond before (new ++ l) (l ++ new)) K')
  opened none (some c') x'' = elim x'' [ ]
  opened (some c) none x3 = elim x3 [ ]
  opened none none neither = tt
  opened (some c) (some c') (both r) = go (pair? (ids c.0) vs)
    where
      go : Pairs (ids c.0) vs
          → Matches M (or_halt (pair_up (ids c.0) vs) λ new. shows e (at c.1 (new ++ ε) K))
          (or_halt (pair_up (ids c'.0) vs) λ new. shows_unless_twice e c'.1 (cond before (new ++ l) (l ++ new)) K')
      go (inl p) = rw (← r.context, p) tt
      go (inr p) =
          let fits = joined (free_vars c.1) c.0 (later (fewer f r.free) r.above) r.binds vs p.1 before in
          rw (← r.context, p.0, fits-distinct fits)
          (refl, (record { Δ = ids c.0 ++ Δ; ρ = ρ; Γ = cond before (c.0 ++ Γ) (Γ ++ c.0); m = r.m; fits = fits; scoped = r.scoped; is = r.body }, cells))
