-- Runs of one machine: where a run of m steps is there, so is each shorter one. Assumes nothing.
use Prim.Native.Nat.{ℕ, zero, suc, ◌+◌, ◌-◌, ◌≤◌, ◌<◌}
use mathlib.Core.Path.{◌≡◌, refl, sym, ap, ◌∙◌, subst}
use mathlib.Core.Bool.{Bool, true, false}
use mathlib.Core.List.{List}
use mathlib.Core.Option.{Option, none, some}
use native.Mathlib.Omega.{arith}
use borrow.Author.Tests.{leb-true, leb-false}
use lib.Dec.{leb}
use Rattle.model.specs.Machine.{State, Event, Outcome, shows, silent, halts, stops, first_shown, go_on_lem, run}

module _ (step : State → Outcome) where
  -- a run that ends before n steps ends before n + k
  run_none : (n k : ℕ) (s : State) → run step n s ≡ none → run step (n + k) s ≡ none
  run_none zero k s e = let z : ◌≡◌ {A = ℕ} 0 1 = cc (e) in absurd (omega arith)
  run_none (suc n) k s e =
      let q : suc n + k ≡ suc (n + k) = omega arith in
      ap (λ (i : ℕ). run step i s) q ∙ go (step s) (λ t f. run_none n k t f) e
    where
      shown : (v : Event) (t : State) (o : Option (List Event × State)) → run step n t ≡ o → (run step n t ≡ none → run step (n + k) t ≡ none) → first_shown v o ≡ none
          → first_shown v (run step (n + k) t) ≡ none
      shown v t none f more g = ap (first_shown v) (more f)
      shown v t (some r) f more g = let z : ◌≡◌ {A = ℕ} 0 1 = cc (g) in absurd (omega arith)

      go : (o : Outcome) → ((t : State) → run step n t ≡ none → run step (n + k) t ≡ none) → go_on_lem o (run step n) ≡ none → go_on_lem o (run step (n + k)) ≡ none
      go (shows v t) more f = shown v t (run step n t) refl (more t) f
      go (silent t) more f = more t f
      go halts more f = refl
      go stops more f = refl

  -- a run that has m steps, and no step after n
  pub run-there : (n m : ℕ) (s : State) (r : List Event × State) → run step m s ≡ some r → run step (suc n) s ≡ none → m ≤ n
  run-there n m s r e f = go (leb m n) refl
    where
      go : (b : Bool) → leb m n ≡ b → m ≤ n
      go true q = leb-true m n q
      go false q =
          let h : n < m = leb-false m n q in
          let k : suc n + (m - suc n) ≡ m = omega (arith, h) in
          let g : some r ≡ none = sym e ∙ (ap (λ (i : ℕ). run step i s) (sym k) ∙ run_none (suc n) (m - suc n) s f) in
          let z : ◌≡◌ {A = ℕ} 0 1 = cc (g) in
          absurd (omega arith)
