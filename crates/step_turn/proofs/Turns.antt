-- What is done in a turn, case by case: nothing where there is no step or no room for it, else the step. Assumes nothing.
use Rattle.std.specs.Prelude.{Ok, Err}
use Prim.Native.Nat.{ℕ, ◌+◌, ◌-◌}
use mathlib.Core.Path.{◌≡◌, refl, sym, ap, ◌∙◌}
use mathlib.Core.Bool.{Bool, true, false, ◌&&◌}
use mathlib.Core.List.{List}
use mathlib.Core.Option.{Option, none, some}
use native.Mathlib.Omega.{arith}
use lib.Dec.{leb}
use lib.ListN.{length}
use lib.Seq.{sets}
use Rattle.step_spec.specs.Located.{Located, Stepped}
use Rattle.step_spec.specs.Store.{header_of, raw_of, store_bytes}
use Rattle.step_spec.specs.Events.{shown_bytes}
use Rattle.step_spec.specs.Calls.{has_room_lem}
use Rattle.step_header.specs.Headers.{tuple_of}
use Rattle.step_write.specs.declared.Step.{Step}
use Rattle.step_write.specs.declared.Stop.{Stop}
use Rattle.step_write.specs.declared.Stop.TheVariants.{NoStep, NoRoom}
use Rattle.step_rule.specs.Rules.{going', resting, Makes, no_step, no_room, one-step}
use Rattle.step_settle.specs.Settling.{flagged}

pub flag_length : (b : Bool) (l : Located) → length (store_bytes (flagged b l)) ≡ length (store_bytes l)
unfolding store_bytes raw_of
flag_length b l = refl

-- a step that was made
pub record MadeStep (store events : List ℕ) (at : ℕ) (o : Option Stepped) (store' events' : List ℕ) (step : Step) : Type 0 where
  pub what : Stepped
  pub is : o ≡ some what
  pub room : has_room_lem what store (length events - at) ≡ true
  pub wrote : store' ≡ sets store 0 (store_bytes what.1)
  pub showed : events' ≡ sets events at (shown_bytes what.0)
  pub heads : tuple_of step.header ≡ header_of (raw_of what.1)
  pub place : step.at ≡ at + length (shown_bytes what.0)

pub made-step : {store events : List ℕ} {at : ℕ} {o : Option Stepped} {store' events' : List ℕ} {step : Step} → Makes store events at o store' events' (Ok step)
    → MadeStep store events at o store' events' step
made-step (one-step {r = r} a b c d e) = record { what = r; is = refl; room = a; wrote = b; showed = c; heads = d; place = e }

-- what becomes of a turn in which no step is made
pub record NoneMade (store events : List ℕ) (o : Option Stepped) (store' events' : List ℕ) : Type 0 where
  pub none_is : o ≡ none
  pub store_same : store' ≡ store
  pub events-same : events' ≡ events

pub made_nothing : {store events : List ℕ} {at : ℕ} {o : Option Stepped} {store' events' : List ℕ} → Makes store events at o store' events' (Err NoStep) → NoneMade store events o store' events'
made_nothing no_step = record { none_is = refl; store_same = refl; events-same = refl }

pub record NoneFits (store events : List ℕ) (at : ℕ) (o : Option Stepped) (store' events' : List ℕ) : Type 0 where
  pub what : Stepped
  pub is : o ≡ some what
  pub room : has_room_lem what store (length events - at) ≡ false
  pub store_same : store' ≡ store
  pub events-same : events' ≡ events

pub made-full : {store events : List ℕ} {at : ℕ} {o : Option Stepped} {store' events' : List ℕ} → Makes store events at o store' events' (Err NoRoom) → NoneFits store events at o store' events'
made-full (no_room {r = r} e) = record { what = r; is = refl; room = e; store_same = refl; events-same = refl }

-- ── a rule leaves the stopped flag clear ──

module _ {store events : List ℕ} {at : ℕ} {o : Option Stepped} {store' events' : List ℕ} where
  rests-nothing : Makes store events at (resting o) store' events' (Err NoStep) → Makes store events at o store' events' (Err NoStep)
  rests-nothing m = go o (made_nothing m)
    where
      go : (o : Option Stepped) → NoneMade store events (resting o) store' events' → Makes store events at o store' events' (Err NoStep)
      go none k = rw (k.store_same, k.events-same) no_step
      go (some r) k = let z : ◌≡◌ {A = ℕ} 0 1 = cc k.none_is in absurd (omega arith)

  -- it takes the bytes that it takes with the flag
  rests-full : Makes store events at (resting o) store' events' (Err NoRoom) → Makes store events at o store' events' (Err NoRoom)
  rests-full m = go o (made-full m)
    where
      go : (o : Option Stepped) → NoneFits store events at (resting o) store' events' → Makes store events at o store' events' (Err NoRoom)
      go none k = let z : ◌≡◌ {A = ℕ} 0 1 = cc k.is in absurd (omega arith)
      go (some r) k =
          let q : (r.0, going' r.1) ≡ k.what = cc k.is in
          rw (k.store_same, k.events-same) (no_room (ap (λ (i : ℕ). leb i (length store) && leb (length (shown_bytes r.0)) (length events - at)) (sym (flag_length false r.1))
          ∙ (ap (λ (z : Stepped). has_room_lem z store (length events - at)) q ∙ k.room)))

  pub rests-stopped : (e : Stop) → Makes store events at (resting o) store' events' (Err e) → Makes store events at o store' events' (Err e)
  rests-stopped NoStep m = rests-nothing m
  rests-stopped NoRoom m = rests-full m
