-- The two runs from states that fit: each follows the other, and the linear machine never stops. Assumes nothing.
use mathlib.Core.Path.{◌≡◌, refl, ap, subst, ◌∙◌}
use mathlib.Core.Logic.{◌⊎◌, inl, inr}
use mathlib.Core.List.{List}
use mathlib.Core.Option.{Option, none, some}
use Prim.Native.Nat.{ℕ, zero, suc, ◌*◌, ◌≤◌, ◌+◌}
use native.Mathlib.Omega.{arith}
use lib.ListN.{length}
use Rattle.model.specs.Syntax.{Prog}
use Rattle.model.specs.Pass.{linearize}
use Rattle.model.specs.Machine.{State, Event, Outcome, shows, silent, halts, stops, first_shown, go_on_lem, run}
use Rattle.model.specs.Source.{source_step_lem}
use Rattle.model.specs.Linear.{linear_step_lem}
use Rattle.model.specs.Demand3.{NoNext, NoNextEither, Agree}
use Rattle.model.proofs.Scoping.{ScopedProg}
use Rattle.model.proofs.Invariant.{Same}
use Rattle.model.proofs.Simulation.{Reaches, Matches, Simulates}
use Rattle.model.proofs.Step.{simulate}

-- ── steps that are there ──

-- the outcome is a next step
abbrev Next : Outcome → Type 0
Next (shows e s) = Unit {0}
Next (silent s) = Unit {0}
Next halts = ⊥
Next stops = ⊥

is_next : (o : Outcome) → Next o → NoNext o → ⊥
is_next o n (inl p) = subst Next p n
is_next o n (inr p) = subst Next p n

-- where steps match, there is no next step on both sides or on neither
matches_over : (M : ℕ) (o o' : Outcome) → Matches M o o' → NoNext o → NoNext o'
matches_over M (shows e s₁) o' k over = absurd (is_next (shows e s₁) tt over)
matches_over M (silent s₁) o' k over = absurd k
matches_over M halts (shows e t₂) k over = absurd k
matches_over M halts (silent t₂) k over = absurd k
matches_over M halts halts k over = inl refl
matches_over M halts stops k over = absurd k
matches_over M stops o' k over = absurd k

over_matches : (M : ℕ) (o o' : Outcome) → Matches M o o' → NoNext o' → NoNext o
over_matches M (shows e s₁) (shows e' t₂) k over = absurd (is_next (shows e' t₂) tt over)
over_matches M (shows e s₁) (silent t₂) k over = absurd k
over_matches M (shows e s₁) halts k over = absurd k
over_matches M (shows e s₁) stops k over = absurd k
over_matches M (silent s₁) o' k over = absurd k
over_matches M halts o' k over = inl refl
over_matches M stops o' k over = absurd k

module _ (P : Prog) (acc : ScopedProg P) where
  -- what the linear run has after n steps of the source run that ended in r
  Trails : ℕ → State → Option (List Event × State) → Type 0
  Trails n t none = Unit {0}
  Trails n t (some r) = (m : ℕ) × (n ≤ m) × (m ≤ 2 * n) × (t' : State) × (run (linear_step_lem (linearize P)) m t ≡ some (r.0, t')) × Same P.max_id r.1 t' × (length r.0 ≡ n)

  -- one more step in front, with its event, from t₁ on
  shown : (n : ℕ) (t t₁ t₂ : State) (e : Event) (r : Option (List Event × State)) → linear_step_lem (linearize P) t₁ ≡ shows e t₂ → Reaches (linearize P) t t₁
      → Trails n t₂ r → Trails (suc n) t (first_shown e r)
  unfolding Trails
  shown n t t₁ t₂ e none q re h = tt
  shown n t t₁ t₂ e (some r) q (inl p) h = (suc (suc h.0), omega (arith, h.1), omega (arith, h.2), h.3, rw (p, q, h.4), h.5, ap suc h.6)
  shown n t t₁ t₂ e (some r) q (inr p) h = (suc h.0, omega (arith, h.1), omega (arith, h.2), h.3, rw (p, q, h.4), h.5, ap suc h.6)

  trails : (n : ℕ) (s t : State) → Same P.max_id s t → Trails n t (run (source_step_lem P) n s)
  unfolding Trails
  trails zero s t h = (0, omega arith, omega arith, t, refl, h, refl)
  trails (suc n) s t h = go (source_step_lem P s) (linear_step_lem (linearize P) sim.0) refl sim.2 (λ s' t' h'. trails n s' t' h')
    where
      sim : Simulates P s t
      sim = simulate P acc s t h

      go : (o o' : Outcome) → linear_step_lem (linearize P) sim.0 ≡ o' → Matches P.max_id o o'
          → ((s' t' : State) → Same P.max_id s' t' → Trails n t' (run (source_step_lem P) n s')) → Trails (suc n) t (go_on_lem o (run (source_step_lem P) n))
      go (shows e s₁) (shows e' t₂) q k ih = shown n t sim.0 t₂ e (run (source_step_lem P) n s₁) (rw k.0 q) sim.1 (ih s₁ t₂ k.1)
      go (shows e s₁) (silent t₂) q k ih = absurd k
      go (shows e s₁) halts q k ih = absurd k
      go (shows e s₁) stops q k ih = absurd k
      go (silent s₁) o' q k ih = absurd k
      go halts o' q k ih = tt
      go stops o' q k ih = tt

  -- where the source machine has no next step, the linear machine has none either
  both-over : (s t : State) → Same P.max_id s t → NoNext (source_step_lem P s) → NoNextEither (linearize P) t
  both-over s t h over = reach sim.1 (matches_over P.max_id (source_step_lem P s) (linear_step_lem (linearize P) sim.0) sim.2 over)
    where
      sim : Simulates P s t
      sim = simulate P acc s t h

      reach : Reaches (linearize P) t sim.0 → NoNext (linear_step_lem (linearize P) sim.0) → NoNextEither (linearize P) t
      reach (inl p) q = inr (sim.0, p, q)
      reach (inr p) q = inl (rw p q)

  -- ── the source run follows the linear run ──

  -- what the source run has after m steps of the linear run that ended in r; k is 1 where the first of them may be a substitution
  Led : ℕ → ℕ → State → Option (List Event × State) → Type 0
  Led k m s none = Unit {0}
  Led k m s (some r) =
      (length r.0 ≤ m) × (m ≤ 2 * length r.0 + k) × (s' : State) × (run (source_step_lem P) (length r.0) s ≡ some (r.0, s'))
      × (NoNext (linear_step_lem (linearize P) r.1) → NoNext (source_step_lem P s'))

  led-shown : (k m : ℕ) (s s₁ : State) (e : Event) (r : Option (List Event × State)) → source_step_lem P s ≡ shows e s₁ → Led 1 m s₁ r → Led k (suc m) s (first_shown e r)
  unfolding Led
  led-shown k m s s₁ e none q h = tt
  led-shown k m s s₁ e (some r) q h = (omega (arith, h.0), omega (arith, h.1), h.2, rw (q, h.3), h.4)

  led-silent : (m : ℕ) (s : State) (r : Option (List Event × State)) → Led 0 m s r → Led 1 (suc m) s r
  unfolding Led
  led-silent m s none h = tt
  led-silent m s (some r) h = (omega (arith, h.0), omega (arith, h.1), h.2, h.3, h.4)

  -- a step that matches, and then the rest
  led-step : (k m : ℕ) (s t : State) → Matches P.max_id (source_step_lem P s) (linear_step_lem (linearize P) t)
      → ((s' t' : State) → Same P.max_id s' t' → Led 1 m s' (run (linear_step_lem (linearize P)) m t')) → Led k (suc m) s (run (linear_step_lem (linearize P)) (suc m) t)
  unfolding Led
  led-step k m s t match ih = go (source_step_lem P s) (linear_step_lem (linearize P) t) refl match
    where
      go : (o o' : Outcome) → source_step_lem P s ≡ o → Matches P.max_id o o' → Led k (suc m) s (go_on_lem o' (run (linear_step_lem (linearize P)) m))
      go (shows e s₁) (shows e' t₂) q h = led-shown k m s s₁ e' (run (linear_step_lem (linearize P)) m t₂) (q ∙ ap (λ (x : Event). shows x s₁) h.0) (ih s₁ t₂ h.1)
      go (shows e s₁) (silent t₂) q h = absurd h
      go (shows e s₁) halts q h = absurd h
      go (shows e s₁) stops q h = absurd h
      go (silent s₁) o' q h = absurd h
      go halts (shows e t₂) q h = absurd h
      go halts (silent t₂) q h = absurd h
      go halts halts q h = tt
      go halts stops q h = tt
      go stops o' q h = absurd h

  -- where the linear machine has no next step, the source machine has none
  over-both : (s t : State) → Same P.max_id s t → NoNext (linear_step_lem (linearize P) t) → NoNext (source_step_lem P s)
  over-both s t h over = reach sim.1
    where
      sim : Simulates P s t
      sim = simulate P acc s t h

      reach : Reaches (linearize P) t sim.0 → NoNext (source_step_lem P s)
      reach (inl p) = absurd (is_next (linear_step_lem (linearize P) t) (rw p tt) over)
      reach (inr p) = over_matches P.max_id (source_step_lem P s) (linear_step_lem (linearize P) sim.0) sim.2 (rw p at over)

  mutual
    unfolding Led

    -- from states that fit
    led : (m : ℕ) (s t : State) → Same P.max_id s t → Led 1 m s (run (linear_step_lem (linearize P)) m t)
    led zero s t h = (omega arith, omega arith, s, refl, over-both s t h)
    led (suc m) s t h = reach (simulate P acc s t h) (λ s' t' h'. led m s' t' h') (λ s' t' k. led-after m s' t' k)
      where
        reach : Simulates P s t → ((s' t' : State) → Same P.max_id s' t' → Led 1 m s' (run (linear_step_lem (linearize P)) m t'))
            → ((s' t' : State) → Matches P.max_id (source_step_lem P s') (linear_step_lem (linearize P) t') → Led 0 m s' (run (linear_step_lem (linearize P)) m t'))
            → Led 1 (suc m) s (run (linear_step_lem (linearize P)) (suc m) t)
        reach sim ih after = go sim.1
          where
            go : Reaches (linearize P) t sim.0 → Led 1 (suc m) s (go_on_lem (linear_step_lem (linearize P) t) (run (linear_step_lem (linearize P)) m))
            go (inl p) = rw p (led-silent m s (run (linear_step_lem (linearize P)) m sim.0) (after s sim.0 sim.2))
            go (inr p) = rw p (led-step 1 m s sim.0 sim.2 ih)

    -- after a substitution
    led-after : (m : ℕ) (s t : State) → Matches P.max_id (source_step_lem P s) (linear_step_lem (linearize P) t) → Led 0 m s (run (linear_step_lem (linearize P)) m t)
    led-after zero s t k = (omega arith, omega arith, s, refl, over_matches P.max_id (source_step_lem P s) (linear_step_lem (linearize P) t) k)
    led-after (suc m) s t k = led-step 0 m s t k (λ s' t' h'. led m s' t' h')

  -- ── the linear machine never stops ──

  -- a state that the linear run can come to: one that fits, or one after a substitution
  Alive : State → Type 0
  Alive t = ((s : State) × Same P.max_id s t) ⊎ ((s : State) × Matches P.max_id (source_step_lem P s) (linear_step_lem (linearize P) t))

  Safe : Outcome → Type 0
  Safe (shows e t) = Alive t
  Safe (silent t) = Alive t
  Safe halts = Unit {0}
  Safe stops = ⊥

  matches_safe : (o o' : Outcome) → Matches P.max_id o o' → Safe o'
  unfolding Safe Alive
  matches_safe (shows e s) (shows e' t) k = inl (s, k.1)
  matches_safe (shows e s) (silent t) k = absurd k
  matches_safe (shows e s) halts k = tt
  matches_safe (shows e s) stops k = absurd k
  matches_safe (silent s) o' k = absurd k
  matches_safe halts (shows e' t) k = absurd k
  matches_safe halts (silent t) k = absurd k
  matches_safe halts halts k = tt
  matches_safe halts stops k = absurd k
  matches_safe stops o' k = absurd k

  alive_safe : (t : State) → Alive t → Safe (linear_step_lem (linearize P) t)
  unfolding Safe Alive
  alive_safe t (inr a) = matches_safe (source_step_lem P a.0) (linear_step_lem (linearize P) t) a.1
  alive_safe t (inl a) = go sim.1
    where
      sim : Simulates P a.0 t
      sim = simulate P acc a.0 t a.1

      go : Reaches (linearize P) t sim.0 → Safe (linear_step_lem (linearize P) t)
      go (inl p) = rw p (inr (a.0, sim.2))
      go (inr p) = rw p (matches_safe (source_step_lem P a.0) (linear_step_lem (linearize P) sim.0) sim.2)

  AliveEnd : Option (List Event × State) → Type 0
  AliveEnd none = Unit {0}
  AliveEnd (some r) = Alive r.1

  end-shown : (e : Event) (r : Option (List Event × State)) → AliveEnd r → AliveEnd (first_shown e r)
  unfolding AliveEnd
  end-shown e none h = tt
  end-shown e (some r) h = h

  alive_run : (m : ℕ) (t : State) → Alive t → AliveEnd (run (linear_step_lem (linearize P)) m t)
  unfolding AliveEnd Safe
  alive_run zero t a = a
  alive_run (suc m) t a = go (linear_step_lem (linearize P) t) (alive_safe t a) (λ t' a'. alive_run m t' a')
    where
      go : (o : Outcome) → Safe o → ((t' : State) → Alive t' → AliveEnd (run (linear_step_lem (linearize P)) m t')) → AliveEnd (go_on_lem o (run (linear_step_lem (linearize P)) m))
      go (shows e t') h ih = end-shown e (run (linear_step_lem (linearize P)) m t') (ih t' h)
      go (silent t') h ih = ih t' h
      go halts h ih = tt
      go stops h ih = absurd h

  pub agree : (s t : State) → Same P.max_id s t → Agree P s t
  unfolding Trails Led Alive AliveEnd Safe
  agree s t h = record {
    follows = λ n es s' e.
        let r = subst (Trails n t) e (trails n s t h) in
        record { events = r.6; m = r.0; at_least = r.1; at_most = r.2; t = r.3; same = r.4; no_next = both-over s' r.3 r.5 };
    leads = λ m es t' e.
        let r = subst (Led 1 m s) e (led m s t h) in
        record { at_least = r.0; at_most = r.1; s = r.2; same = r.3; no_next = r.4 };
    never_stops = λ m es t' e q. subst Safe q (alive_safe t' (subst AliveEnd e (alive_run m t (inl (s, h)))));
  }
