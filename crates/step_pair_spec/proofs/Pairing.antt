-- `demand_3_on_steppers`: the source stepper on an accepted image and the linear one on what linearization wrote for it show the same events.
-- Assumes nothing.
use Prim.Native.Nat.{ℕ, suc, ◌+◌, ◌*◌, ◌^◌, ◌≤◌, ◌<◌}
use mathlib.Core.Path.{◌≡◌, refl, sym, ap, ◌∙◌, subst}
use mathlib.Core.Bool.{Bool, true, false}
use mathlib.Core.List.{List, []}
use mathlib.Core.Option.{Option, none, some}
use native.Mathlib.Omega.{arith}
use lib.ListN.{length, take}
use Rattle.model.specs.Syntax.{Prog}
use Rattle.model.specs.Pass.{linearize}
use Rattle.model.specs.Machine.{State, Event, Given, Start, begun, no_start, stopped, run}
use Rattle.model.specs.Source.{source_start, source_step_lem}
use Rattle.model.specs.Linear.{linear_start, linear_step_lem}
use Rattle.model.specs.Demand3.{Starts, Agree, both-begin, neither-begins}
use Rattle.model.proofs.Demand.{demand_3}
use Rattle.image_spec.specs.Parse.{each}
use Rattle.image_spec.specs.Layout.{layout1}
use Rattle.scope_spec.specs.Calls.{Told}
use Rattle.pass_answer_spec.specs.Calls.{linearize_call}
use Rattle.pass_answer_spec.proofs.Readable.{Output}
use Rattle.pass_answer_spec.proofs.OnCalls.{answer-reads}
use Rattle.step_spec.specs.Located.{Machine, source_machine, linear_machine}
use Rattle.step_spec.specs.Events.{event_bytes, givens}
use Rattle.step_spec.specs.Calls.{Stepper, source_stepper, linear_stepper, Result, start_call, step_call_lem}
use Rattle.step_spec.specs.Claims.{Request, calls, steps_of, shown_in, store_left, run_from, After, Fair, Begun}
use Rattle.step_spec.specs.Claims as claims
use Rattle.step_spec.proofs.Stepping.{source-stepping, linear-stepping}
use Rattle.step_values.specs.Values.{are_given_lem}
use Rattle.step_values.proofs.ValueLaws.{are-given, not_given_all}
use Rattle.step_pair_spec.specs.Pairs.{GoesOn, no_room, all_made, all_there, Shows, SameEvents, Demand3OnSteppers}
use Rattle.step_pair_spec.proofs.Runs.{run-there}
use Rattle.step_pair_spec.proofs.Starting.{source-asked}

-- ── one stepper ──

-- what A.2 says of a stepper's calls from one store
abbrev Said : (S : Stepper) (image : List ℕ) (P : Prog) → Start → (store : List ℕ) → Type 0
Said S image P start store =
    (qs : List Request) (rs : List Result) → rs ≡ calls S image store qs
    → After S.machine P start (steps_of rs) (each shown_in rs) (store_left store rs)
    × ((q : Request) → Fair S.machine P start (steps_of rs) q.steps (length q.events) (step_call_lem S image q.steps (store_left store rs) q.events))

module _ (S : Stepper) (image : List ℕ) (P : Prog) (s : State) (store : List ℕ) (said : Said S image P (begun s) store) where
  same-events : (m : ℕ) (es fs : List Event) (t u : State) → run (S.machine.step P) m s ≡ some (es, t) → run (S.machine.step P) m s ≡ some (fs, u) → fs ≡ es
  same-events m es fs t u e f = let a : List Event × State = (fs, u) in let b : List Event × State = (es, t) in let g : some a ≡ some b = sym f ∙ e in let q : a ≡ b = cc (g) in ap (λ (r : List Event × State). r.0) q

  -- a run of the machine, in calls
  shows-run : (m : ℕ) (es : List Event) (t : State) → run (S.machine.step P) m s ≡ some (es, t) → Shows S image store m (each event_bytes es)
  shows-run m es t e = record {
    same = λ qs k.
        let a = (said qs (calls S image store qs) refl).0 in
        a.shown ∙ ap (each event_bytes) (same-events m es a.events t a.state e (ap (λ (i : ℕ). run (S.machine.step P) i s) (sym k) ∙ a.ran));
    comes = λ qs k q. go (steps_of (calls S image store qs)) q (step_call_lem S image q.steps (store_left store (calls S image store qs)) q.events) ((said qs (calls S image store qs) refl).1 q);
  }
    where
      go : (before : ℕ) (q : Request) (r : Result) → Fair S.machine P (begun s) before q.steps (length q.events) r → GoesOn m before q r
      go before q r (claims.all_made n k) = all_made n k
      go before q r (claims.no-next n k f) = all_there n (run-there (S.machine.step P) (before + r.steps) m s (es, t) e f)
      go before q r (claims.no_room n k l next f g h) = no_room n

-- ── both ──

-- a start's values say how many they are
givens-count : (n : ℕ) (values : List ℕ) (vs : List Given) → givens n values ≡ some vs → length values ≡ 16 * n
givens-count n values vs e = go (are_given_lem n values) refl
  where
    go : (b : Bool) → are_given_lem n values ≡ b → length values ≡ 16 * n
    go true f = (are-given n values f).2
    go false f = let g : none ≡ some vs = sym (not_given_all n values f) ∙ e in let z : ◌≡◌ {A = ℕ} 0 1 = cc (g) in absurd (omega arith)

same-given : (n k : ℕ) (values : List ℕ) (vs ws : List Given) → givens n values ≡ some vs → givens k values ≡ some ws → ws ≡ vs
same-given n k values vs ws e f =
    let q : k ≡ n = omega (arith, givens-count n values vs e, givens-count k values ws f) in
    let g : some ws ≡ some vs = sym f ∙ (ap (λ (i : ℕ). givens i values) q ∙ e) in
    cc (g)

module _ (P : Prog) (image linear store store' : List ℕ) where
  -- runs that agree, in calls
  pairs-begun : (s t : State) → Agree P s t → Said (source_stepper layout1) image P (begun s) store → Said (linear_stepper layout1) linear (linearize P) (begun t) store' → SameEvents image linear store store'
  pairs-begun s t agree f g = record {
    follows = λ qs n e.
        let a = (f qs (calls (source_stepper layout1) image store qs) refl).0 in
        let w = agree.follows n a.events a.state (ap (λ (i : ℕ). run (source_step_lem P) i s) e ∙ a.ran) in
        (w.m, (w.at_least, (w.at_most, subst (Shows (linear_stepper layout1) linear store' w.m) (sym a.shown) (shows-run (linear_stepper layout1) linear (linearize P) t store' g w.m a.events w.t w.same))));
    leads = λ qs m e.
        let a = (g qs (calls (linear_stepper layout1) linear store' qs) refl).0 in
        let w = agree.leads m a.events a.state (ap (λ (i : ℕ). run (linear_step_lem (linearize P)) i t) e ∙ a.ran) in
        (length a.events, (w.at_least, (w.at_most, subst (Shows (source_stepper layout1) image store (length a.events)) (sym a.shown) (shows-run (source_stepper layout1) image P s store f (length a.events) a.events w.s w.same))));
  }

  pairs : (a b : Start) → Starts P a b → Said (source_stepper layout1) image P a store → Said (linear_stepper layout1) linear (linearize P) b store' → SameEvents image linear store store'
  pairs a b (both-begin {s} {t} agree) f g = pairs-begun s t agree f g
  pairs a b neither-begins f g =
      let r = (f [] (calls (source_stepper layout1) image store []) refl).0 in
      let z : ◌≡◌ {A = ℕ} 0 1 = cc r.ran in
      absurd (omega arith)

pub demand_3_on_steppers : Demand3OnSteppers
demand_3_on_steppers image before after size m told place values store store' short short' starts starts' =
    let o = answer-reads image before after size m told in
    let P = o.program in
    let linear = take size after in
    let f = source-stepping layout1 (omega arith) image P (source-asked image P o.source o.accepted) place values store short starts in
    let g = linear-stepping layout1 (omega arith) linear (linearize P) o.reads place values store' short' starts' in
    let q = same-given (length f.0.definition.context) (length g.0.definition.context) values f.0.given g.0.given f.0.read g.0.read in
    pairs P image linear _ _ (source_start P place f.0.given) (linear_start (linearize P) place f.0.given) (demand_3 P o.accepted place f.0.given) f.1
    (subst (λ (vs : List Given). Said (linear_stepper layout1) linear (linearize P) (linear_start (linearize P) place vs) (start_call (linear_stepper layout1) linear place values store').store) q g.1)
