-- Where a stepper's state stands in the machine's run: one step more, and no step more. Assumes nothing.
use Prim.Native.Nat.{ℕ, zero, suc, ◌^◌, ◌≤◌}
use mathlib.Core.Path.{◌≡◌, refl, sym, ap, ◌∙◌, subst}
use mathlib.Core.Bool.{Bool, true, false, false≢true}
use mathlib.Core.List.{List, [], ◌∷◌, ◌++◌, map}
use mathlib.Core.Option.{Option, none, some}
use native.Mathlib.Omega.{arith}
use lib.ListN.{length, length-map}
use Rattle.model.specs.Syntax.{Stmt, Prog}
use Rattle.model.specs.Machine.{Entries, Cells, State, Event, Outcome, shows, silent, halts, stops, first_shown, go_on_lem, run, Given, Start, begun, no_start, stopped}
use Rattle.image_spec.specs.Parse.{All}
use Rattle.image_spec.specs.Shape.{DefOk}
use Rattle.step_spec.specs.Located.{Machine, Located, Stepped, state_of, project, is_ended_lem, is_stop, located_step, located_start, cell_in, cells_of}
use Rattle.step_spec.specs.Claims.{SameStep, both_show, both-silent, both_halt, both-stop, SameStart, both-begin, neither-begins, both_stopped, run_from, stops_at}
use Rattle.step_spec.proofs.Projects.{step-grows, same_step, stopped-step, NextPlaced, same_start, StartPlaced}
use Rattle.step_spec.proofs.Representable.{DefsOk, StateFits, Keeps, keeps-shows, keeps-silent, keeps-halts, keeps-stops, EventHolds, event-later}
use Rattle.step_spec.proofs.Lists.{all-++, all_weaker}
use Rattle.step_spec.proofs.Sound.{GivenFits, Lawful, StartFits, Sound}

-- ── the machine's run, one step longer ──

module _ (step : State → Outcome) where
  abbrev Ran : Type 0
  Ran = Option (List Event × State)

  abbrev before : List Event → Ran → Ran
  before es none = none
  before es (some r) = some (es ++ r.0, r.1)

  abbrev one : State → Ran
  one s = go_on_lem (step s) (λ t. some ([], t))

  before_none : (o : Ran) → o ≡ before [] o
  before_none none = refl
  before_none (some r) = refl

  shown-before : (e : Event) (es : List Event) (o : Ran) → first_shown e (before es o) ≡ before (e ∷ es) o
  shown-before e es none = refl
  shown-before e es (some r) = refl

  run_more : (n : ℕ) (s s' : State) (es : List Event) → run step n s ≡ some (es, s') → run step (suc n) s ≡ before es (one s')
  run_more zero s s' es h =
      let a : s ≡ s' = ap (λ (o : Ran). elim o [ none ↦ s | some r ↦ r.1 ]) h in
      let b : [] ≡ es = ap (λ (o : Ran). elim o [ none ↦ [] | some r ↦ r.0 ]) h in
      ap one a ∙ (before_none (one s') ∙ ap (λ (z : List Event). before z (one s')) b)
  run_more (suc n) s s' es h = go (step s) h (λ t es' k. run_more n t s' es' k)
    where
      shown : (e : Event) (t : State) (o : Ran) → run step n t ≡ o → first_shown e o ≡ some (es, s') → ((es' : List Event) → run step n t ≡ some (es', s') → run step (suc n) t ≡ before es' (one s'))
          → first_shown e (run step (suc n) t) ≡ before es (one s')
      shown e t none q f k = let z : ◌≡◌ {A = ℕ} 0 1 = cc in absurd (omega arith)
      shown e t (some r) q f k =
          let a : e ∷ r.0 ≡ es = ap (λ (o : Ran). elim o [ none ↦ [] | some r ↦ r.0 ]) f in
          let b : r.1 ≡ s' = ap (λ (o : Ran). elim o [ none ↦ s' | some r ↦ r.1 ]) f in
          ap (first_shown e) (k r.0 (q ∙ ap (λ (z : State). some (r.0, z)) b)) ∙ (shown-before e r.0 (one s') ∙ ap (λ (z : List Event). before z (one s')) a)

      go : (o : Outcome) → go_on_lem o (run step n) ≡ some (es, s') → ((t : State) (es' : List Event) → run step n t ≡ some (es', s') → run step (suc n) t ≡ before es' (one s'))
          → go_on_lem o (run step (suc n)) ≡ before es (one s')
      go (shows e t) f k = shown e t (run step n t) refl f (k t)
      go (silent t) f k = k t es f
      go halts f k = let z : ◌≡◌ {A = ℕ} 0 1 = cc in absurd (omega arith)
      go stops f k = let z : ◌≡◌ {A = ℕ} 0 1 = cc in absurd (omega arith)

-- ── the stepper's states in it ──

abbrev pub listed : Option Event → List Event
listed none = []
listed (some e) = e ∷ []

ended_is : (b : Bool) (t : Stmt) (ε : Entries) (K : Cells) → is_ended_lem (state_of b t ε K) ≡ b
ended_is true t ε K = refl
ended_is false t ε K = refl

pub project-ended : (P : Prog) (l : Located) → l.has_ended ≡ is_ended_lem (project P l)
unfolding project
project-ended P l = sym (ended_is l.has_ended _ l.environment _)

cells_are : (b : Bool) (t : Stmt) (ε : Entries) (K : Cells) → cells_of (state_of b t ε K) ≡ K
cells_are true t ε K = refl
cells_are false t ε K = refl

pub project-cells : (P : Prog) (l : Located) → length (cells_of (project P l)) ≡ length l.cells
unfolding project
project-cells P l = ap length (cells_are l.has_ended _ l.environment (map (cell_in P) l.cells)) ∙ length-map l.cells (cell_in P)

module _ (w : ℕ) (narrow : 256 ^ w ≤ 256 ^ 4) (M : Machine) (lawful : Lawful M) (P : Prog) (shallow : All DefOk P.defs) (defs : DefsOk w narrow P.defs) where
  -- after n steps from the start, which showed es
  pub record Reached (start : Start) (n : ℕ) (es : List Event) (l : Located) : Type 0 where
    pub ran : run_from (M.step P) start n ≡ some (es, project P l)
    pub stopped_is : l.has_stopped ≡ stops_at (M.step P) start (project P l)
    pub sound : Sound w narrow P l
    pub events : All (EventHolds (length l.cells)) es

  -- what one step of a state that has not stopped is
  data Next (l : Located) : Option Stepped → Type 0 where
    next : (e : Option Event) (l' : Located) (s' : State) → project P l' ≡ s' → l'.has_stopped ≡ is_stop (M.step P s') → Sound w narrow P l'
        → one (M.step P) (project P l) ≡ some (listed e, s') → All (EventHolds (length (cells_of s'))) (listed e) → Next l (some (e, l'))
    nothing : one (M.step P) (project P l) ≡ none → Next l none

  same_next : (l : Located) {o : Option Stepped} {out : Outcome} → M.step P (project P l) ≡ out → SameStep M P o out → NextPlaced M lawful.followed P shallow o → Keeps w narrow out → Next l o
  same_next l q (both_show {e = e} {l = l'} {s = s} h) p (keeps-shows b k) =
      next (some e) l' s h.is h.stopped_is (record { placed = p; fits = subst (StateFits w narrow) (sym h.is) k }) (rw q refl) (b, tt)
  same_next l q (both-silent {l = l'} {s = s} h) p (keeps-silent k) =
      next none l' s h.is h.stopped_is (record { placed = p; fits = subst (StateFits w narrow) (sym h.is) k }) (rw q refl) tt
  same_next l q both_halt p keeps-halts = nothing (rw q refl)
  same_next l q both-stop p keeps-stops = nothing (rw q refl)

  next_of : (l : Located) → Sound w narrow P l → l.has_stopped ≡ false → Next l (located_step M P l)
  next_of l s f =
      let r = same_step M lawful.followed P shallow l s.placed f in
      same_next l refl r.0 r.1 (lawful.keeps w narrow P defs (project P l) s.fits)

  -- a step leads from a sound state to a sound one
  next-sound : (l : Located) (r : Stepped) → Next l (some r) → Sound w narrow P r.1
  next-sound l r (next e l' s' is f sound o b) = sound

  pub sound-next : (l : Located) (r : Stepped) → Sound w narrow P l → located_step M P l ≡ some r → Sound w narrow P r.1
  sound-next l r s e = go l.has_stopped refl
    where
      go : (b : Bool) → l.has_stopped ≡ b → Sound w narrow P r.1
      go true f = let z : ◌≡◌ {A = ℕ} 0 1 = cc (stopped-step M lawful.followed P shallow l f) in absurd (omega arith)
      go false f = next-sound l r (subst (Next l) e (next_of l s f))

  -- a state that has stopped: the run goes no further
  stop-one : (l : Located) → is_stop (M.step P (project P l)) ≡ true → one (M.step P) (project P l) ≡ none
  stop-one l e = go (M.step P (project P l)) e
    where
      go : (o : Outcome) → is_stop o ≡ true → go_on_lem o (λ t. some ([], t)) ≡ none
      go (shows e s) f = absurd (false≢true f)
      go (silent s) f = absurd (false≢true f)
      go halts f = refl
      go stops f = refl

  -- one step more
  from_next : (s : State) (n : ℕ) (es : List Event) (l : Located) (r : Stepped) → run (M.step P) n s ≡ some (es, project P l)
      → All (EventHolds (length l.cells)) es → length l.cells ≤ length r.1.cells → Next l (some r) → Reached (begun s) (suc n) (es ++ listed r.0) r.1
  from_next s n es l r ran held grown (next e l' s' is f sound o b) = record {
    ran = run_more (M.step P) n s (project P l) es ran ∙ (ap (before (M.step P) es) o ∙ ap (λ (z : State). some (es ++ listed e, z)) (sym is));
    stopped_is = f ∙ ap (λ (z : State). is_stop (M.step P z)) (sym is);
    sound = sound;
    events =
        let c : length (cells_of s') ≡ length l'.cells = ap (λ (z : State). length (cells_of z)) (sym is) ∙ project-cells P l' in
        all-++ (EventHolds (length l'.cells)) es (listed e) (all_weaker (EventHolds (length l.cells)) (EventHolds (length l'.cells)) es (event-later (length l.cells) (length l'.cells) grown) held)
        (subst (λ (z : ℕ). All (EventHolds z) (listed e)) c b);
  }

  pub reached-next : (start : Start) (n : ℕ) (es : List Event) (l : Located) (r : Stepped) → Reached start n es l → located_step M P l ≡ some r → Reached start (suc n) (es ++ listed r.0) r.1
  reached-next (begun s) n es l r h e = go l.has_stopped refl
    where
      go : (b : Bool) → l.has_stopped ≡ b → Reached (begun s) (suc n) (es ++ listed r.0) r.1
      go true f = let z : ◌≡◌ {A = ℕ} 0 1 = cc (stopped-step M lawful.followed P shallow l f) in absurd (omega arith)
      go false f = from_next s n es l r h.ran h.events (step-grows M lawful.followed P shallow l r e) (subst (Next l) e (next_of l h.sound f))
  reached-next no_start n es l r h e = let q = h.ran in let z : ◌≡◌ {A = ℕ} 0 1 = cc in absurd (omega arith)
  reached-next (stopped s) n es l r h e = let z : ◌≡◌ {A = ℕ} 0 1 = cc (stopped-step M lawful.followed P shallow l h.stopped_is) in absurd (omega arith)

  -- no step more
  from_nothing : (s : State) (n : ℕ) (es : List Event) (l : Located) → run (M.step P) n s ≡ some (es, project P l) → one (M.step P) (project P l) ≡ none → run (M.step P) (suc n) s ≡ none
  from_nothing s n es l ran o = run_more (M.step P) n s (project P l) es ran ∙ ap (before (M.step P) es) o

  pub reached-end : (start : Start) (n : ℕ) (es : List Event) (l : Located) → Reached start n es l → located_step M P l ≡ none → run_from (M.step P) start (suc n) ≡ none
  reached-end (begun s) n es l h e = go l.has_stopped refl
    where
      none_next : Next l none → run (M.step P) (suc n) s ≡ none
      none_next (nothing o) = from_nothing s n es l h.ran o

      go : (b : Bool) → l.has_stopped ≡ b → run (M.step P) (suc n) s ≡ none
      go true f = from_nothing s n es l h.ran (stop-one l (sym h.stopped_is ∙ f))
      go false f = none_next (subst (Next l) e (next_of l h.sound f))
  reached-end no_start n es l h e = refl
  reached-end (stopped s) n es l h e = refl

  -- the start
  from_start : {o : Option Located} {start : Start} → SameStart M P o start → StartPlaced M lawful.followed P shallow o → StartFits w narrow start → (l : Located) → o ≡ some l → Reached start 0 [] l
  from_start (both-begin {l = l'} {s = s} h) p k l e =
      let q : l' ≡ l = cc in
      subst (λ (z : Located). Reached (begun s) 0 [] z) q (record {
        ran = ap (λ (z : State). some ([], z)) (sym h.is);
        stopped_is = h.stopped_is ∙ ap (λ (z : State). is_stop (M.step P z)) (sym h.is);
        sound = record { placed = p; fits = subst (StateFits w narrow) (sym h.is) k };
        events = tt;
      })
  from_start neither-begins p k l e = let z : ◌≡◌ {A = ℕ} 0 1 = cc in absurd (omega arith)
  from_start (both_stopped {l = l'} {s = s} h) p k l e =
      let q : l' ≡ l = cc in
      subst (λ (z : Located). Reached (stopped s) 0 [] z) q (record {
        ran = ap (λ (z : State). some ([], z)) (sym h.is);
        stopped_is = h.stopped_is;
        sound = record { placed = p; fits = subst (StateFits w narrow) (sym h.is) k };
        events = tt;
      })

  pub reached-start : (n : ℕ) (vs : List Given) → All GivenFits vs → (l : Located) → located_start M P n vs ≡ some l → Reached (M.start P n vs) 0 [] l
  reached-start n vs fit l e =
      let r = same_start M lawful.followed P shallow n vs in
      from_start r.0 r.1 (lawful.starts w narrow P defs n vs fit) l e
