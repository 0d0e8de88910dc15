-- The loop over steps: its start, its next turn, its ends. Assumes nothing.
use Rattle.std.specs.Prelude.{Result, Ok, Err}
use Prim.Native.Nat.{ℕ, ◌+◌, ◌-◌, ◌≤◌, ◌<◌}
use mathlib.Core.Path.{◌≡◌, refl, sym, ap, ◌∙◌, subst}
use mathlib.Core.Bool.{Bool, true, false}
use mathlib.Core.List.{List, [], ◌++◌, append-nil}
use mathlib.Core.Option.{Option}
use native.Mathlib.Omega.{arith}
use native.Mathlib.Nat.{add-zero}
use borrow.Author.Tests.{leb-true}
use lib.Dec.{leb}
use lib.ListN.{length}
use lib.Seq.{sets, length-sets}
use Rattle.model.specs.Syntax.{Prog}
use Rattle.image_spec.proofs.DirectoryLaws.{and_right}
use Rattle.step_spec.specs.Located.{Machine, Located, Stepped}
use Rattle.step_spec.specs.Store.{store_bytes}
use Rattle.step_spec.specs.Events.{shown_bytes}
use Rattle.step_spec.specs.Calls.{stays, has_room_lem, making}
use Rattle.step_spec.proofs.Sound.{Lawful}
use Rattle.step_header.specs.declared.Header.{Header}
use Rattle.step_write.specs.declared.Step.{Step}
use Rattle.step_write.specs.declared.Stop.{Stop}
use Rattle.step_write.specs.declared.Stop.TheVariants.{NoStep, NoRoom}
use Rattle.step_places.specs.declared.stepper.Stepper.{Stepper}
use Rattle.step_turn.specs.Turning.{Living, Lives, Advances}
use Rattle.step_turn.proofs.Turns.{made_nothing, made-full, MadeStep}
use Rattle.step_turn.proofs.TurnLaws.{made-living}
use Rattle.step_run.specs.Runs.{Did, Runs}
use Rattle.step_run.proofs.RunLaws.{preceded, Running, running_none, same-events, running-all, running_none-left, running-full, running-next}

-- a turn by what it answered
pub advances_as : {M : Machine} {stepper : Stepper} {bytes store events : List ℕ} {h : Header} {at : ℕ} {store' events' : List ℕ} {m k : Result Step Stop} → Advances M stepper bytes store events h at store' events' m
    → m ≡ k → Advances M stepper bytes store events h at store' events' k
advances_as {M} {stepper} {bytes} {store} {events} {h} {at} {store'} {events'} a e = subst (Advances M stepper bytes store events h at store' events') e a

-- is it for want of room that there is no step?
abbrev pub is_full : Stop → Bool
is_full NoStep = false
is_full NoRoom = true

-- where a call ends
did_as : {M : Machine} {P : Prog} {n : ℕ} {first : Located} {store₀ events₀ : List ℕ} {i : ℕ} {l : Located} {store events : List ℕ} {at : ℕ} {shown : List ℕ} {f : Bool} {store' events' : List ℕ} {k : ℕ}
    → Running M P n first store₀ events₀ i l store events at shown → making M P n first store₀ (length events₀) ≡ preceded i shown (stays f l store) → store' ≡ store → events' ≡ events → k ≡ i
    → Did (making M P n first store₀ (length events₀)) events₀ store' events' (record { steps = k; length = at; full = f })
did_as {i = i} {shown = shown} r e s v q = rw e (record {
  steps = q ∙ sym (add-zero i);
  length' = r.place ∙ ap length (sym (append-nil shown));
  full = refl;
  store = s;
  shows = v ∙ (r.written ∙ ap (sets _ 0) (sym (append-nil shown)));
})

module _ {M : Machine} (lawful : Lawful M) (stepper : Stepper) (bytes : List ℕ) (n : ℕ) (store₀ events₀ : List ℕ) (h₀ : Header) where
  -- where the run of one program has come to
  pub record Reached (P : Prog) (first : Located) (i : ℕ) (store events : List ℕ) (h : Header) (at : ℕ) : Type 0 where
    pub state : Located
    pub shown : List ℕ
    pub living : Living M P stepper bytes store h state
    pub running : Running M P n first store₀ events₀ i state store events at shown

  -- after i steps
  pub record Going (i : ℕ) (store events : List ℕ) (h : Header) (at : ℕ) : Type 0 where
    pub within : i ≤ n
    pub lives : Lives M stepper bytes store h
    pub inside : at ≤ length events
    pub reached : (P : Prog) (first : Located) → Living M P stepper bytes store₀ h₀ first → Reached P first i store events h at

  pub going_none : Lives M stepper bytes store₀ h₀ → Going 0 store₀ events₀ h₀ 0
  going_none v = record {
    within = omega arith;
    lives = v;
    inside = omega arith;
    reached = λ P first k. record { state = first; shown = []; living = k; running = running_none M P n first store₀ events₀ };
  }

  module _ {i : ℕ} {store events : List ℕ} {h : Header} {at : ℕ} (g : Going i store events h at) (below : i < n) {store' events' : List ℕ} where
    event-room : {step : Step} {o : Option Stepped} (m : MadeStep store events at o store' events' step) → length (shown_bytes m.what.0) ≤ length events - at
    event-room m = leb-true _ _ (and_right (leb (length (store_bytes m.what.1)) (length store)) (leb (length (shown_bytes m.what.0)) (length events - at)) m.room)

    pub going_next : {step : Step} → Advances M stepper bytes store events h at store' events' (Ok step) → Going (i + 1) store' events' step.header step.at
    going_next a =
        let w = g.lives in
        let x = made-living lawful w.living (a.advances w.program w.state w.living) in
        record {
          within = omega arith;
          lives = record { program = w.program; state = x.0.what.1; living = x.1 };
          inside = omega (arith, x.0.place, event-room x.0, ap length x.0.showed, length-sets events at (shown_bytes x.0.what.0), g.inside);
          reached = λ P first k.
              let r = g.reached P first k in
              let y = made-living lawful r.living (a.advances P r.state r.living) in
              let e = same-events M P n first store₀ events₀ r.running in
              record {
                state = y.0.what.1;
                shown = r.shown ++ shown_bytes y.0.what.0;
                living = y.1;
                running = running-next M P n first store₀ events₀ r.running below y.0.what y.0.is
                    (ap (λ (k : ℕ). has_room_lem y.0.what store (k - at)) (sym e) ∙ y.0.room) y.0.wrote y.0.showed y.0.place;
              };
        }

    -- the run has no next step, or none for which there is room: what the call says
    going-ends : (k : ℕ) → k ≡ i → Advances M stepper bytes store events h at store' events' (Err NoStep)
        → Runs M stepper bytes n store₀ events₀ h₀ store' events' (record { steps = k; length = at; full = false })
    going-ends k q a = record {
      runs = λ P first v.
          let r = g.reached P first v in
          let m = made_nothing (a.advances P r.state r.living) in
          did_as r.running (running_none-left M P n first store₀ events₀ r.running below m.none_is) m.store_same m.events-same q;
    }

    going_fills : (k : ℕ) → k ≡ i → Advances M stepper bytes store events h at store' events' (Err NoRoom)
        → Runs M stepper bytes n store₀ events₀ h₀ store' events' (record { steps = k; length = at; full = true })
    going_fills k q a = record {
      runs = λ P first v.
          let r = g.reached P first v in
          let m = made-full (a.advances P r.state r.living) in
          let e = same-events M P n first store₀ events₀ r.running in
          did_as r.running (running-full M P n first store₀ events₀ r.running below m.what m.is (ap (λ (k : ℕ). has_room_lem m.what store (k - at)) (sym e) ∙ m.room)) m.store_same m.events-same q;
    }

    -- .. by what kept it from the step
    pub going-stops : (k : ℕ) → k ≡ i → (e : Stop) {full : Bool} → full ≡ is_full e → Advances M stepper bytes store events h at store' events' (Err e)
        → Runs M stepper bytes n store₀ events₀ h₀ store' events' (record { steps = k; length = at; full = full })
    going-stops k q NoStep {full} f a = subst (λ (b : Bool). Runs M stepper bytes n store₀ events₀ h₀ store' events' (record { steps = k; length = at; full = b })) (sym f) (going-ends k q a)
    going-stops k q NoRoom {full} f a = subst (λ (b : Bool). Runs M stepper bytes n store₀ events₀ h₀ store' events' (record { steps = k; length = at; full = b })) (sym f) (going_fills k q a)

  -- all steps are made
  pub going-all : {i : ℕ} {store events : List ℕ} {h : Header} {at : ℕ} (k : ℕ) → k ≡ i → n ≤ i → Going i store events h at
      → Runs M stepper bytes n store₀ events₀ h₀ store events (record { steps = k; length = at; full = false })
  going-all k q b g = record {
    runs = λ P first v. let r = g.reached P first v in did_as r.running (running-all M P n first store₀ events₀ r.running b) refl refl q;
  }
