-- Demand 3: the theorem. Assumes nothing.
use mathlib.Core.Logic.{inl, inr}
use mathlib.Core.List.{List, [], map}
use mathlib.Core.Option.{Option, none, some}
use Rattle.syntax.specs.Context.{ids}
use Rattle.model.specs.Syntax.{Def, Prog}
use Rattle.model.specs.Lists.{zip}
use Rattle.model.specs.Renaming.{no_renaming}
use Rattle.model.specs.Machine.{at, pair_up, Given, value}
use Rattle.model.specs.Source.{source_begun, source_start_at, source_start}
use Rattle.model.specs.Linear.{linear_begun, linear_start_at, linear_start}
use Rattle.model.specs.Demand3.{Starts, Demand3, both-begin, neither-begins}
use Rattle.model.proofs.Scoping.{ScopedProg}
use Rattle.model.proofs.Alist.{Pairs, pair?}
use Rattle.model.proofs.Invariant.{fits-distinct}
use Rattle.model.proofs.Bodies.{SameDef, neither, both, same_place, body-fits}
use Rattle.model.proofs.Questions.{accepted-scoped}
use Rattle.model.proofs.Runs.{agree}

module _ (P : Prog) (acc : ScopedProg P) where
  begin : (vs : List Given) (o o' : Option Def) → SameDef P.max_id o o' → Starts P (source_start_at o vs) (linear_start_at o' vs)
  begin vs none (some d') x'' = elim x'' [ ]
  begin vs (some d) none x3 = elim x3 [ ]
  begin vs none none neither = neither-begins
  begin vs (some d) (some d') (both r) = go (pair? (ids d.context) (map value vs))
    where
      go : Pairs (ids d.context) (map value vs) → Starts P (source_begun d.body (pair_up (ids d.context) (map value vs))) (linear_begun d'.body (pair_up (ids d'.context) (map value vs)))
      go (inl p) = rw (← r.context, p) neither-begins
      go (inr p) =
          let fits = body-fits P.max_id r.m d.context d.body r.above r.binds r.scoped (map value vs) p.1 in
          rw (← r.context, p.0, fits-distinct fits)
          (both-begin (agree P acc (at d.body (zip (ids d.context) (map value vs)) []) (at d'.body (zip (ids d.context) (map value vs)) [])
          (record { Δ = ids d.context; ρ = no_renaming; Γ = d.context; m = r.m; fits = fits; scoped = r.scoped; is = r.body }, tt)))

pub demand_3 : Demand3
unfolding source_start linear_start
demand_3 P a place vs = let acc = accepted-scoped P a in begin P acc vs _ _ (same_place P acc place)
