-- One turn: a rule's step, and then the stopped flag of the state that it leads to. Assumes nothing.
use Rattle.std.specs.Prelude.{Ok}
use Prim.Native.Nat.{ℕ, ◌+◌, ◌-◌, ◌≤◌}
use mathlib.Core.Path.{◌≡◌, refl, sym, ap, ap₂, ◌∙◌, subst}
use mathlib.Core.Bool.{Bool, true, false, ◌&&◌}
use mathlib.Core.List.{List}
use mathlib.Core.Option.{Option, none, some}
use native.Mathlib.Omega.{arith}
use borrow.Author.Tests.{leb-true}
use lib.Dec.{leb}
use lib.ListN.{length}
use lib.Seq.{sets, length-sets}
use Rattle.model.specs.Syntax.{Prog}
use Rattle.model.specs.Machine.{Outcome, no_start}
use Rattle.image_spec.proofs.DirectoryLaws.{and_left}
use Rattle.image_write_bytes.proofs.Covering.{hidden}
use Rattle.step_spec.specs.Located.{Machine, Located, Stepped, project, is_stop, located_step}
use Rattle.step_spec.specs.Store.{header_of, raw_of, store_bytes, state_from}
use Rattle.step_spec.specs.Events.{shown_bytes}
use Rattle.step_spec.specs.Calls.{has_room_lem}
use Rattle.step_spec.specs.Claims.{SameStep, both_show, both-silent, both_halt, both-stop}
use Rattle.step_spec.proofs.Projects.{same_step, stopped-step}
use Rattle.step_spec.proofs.Sound.{Lawful, Sound}
use Rattle.step_spec.proofs.Reached.{sound-next}
use Rattle.step_spec.proofs.Making.{written}
use Rattle.step_spec.proofs.AnyStore.{fits-sound}
use Rattle.step_header.specs.declared.Header.{Header}
use Rattle.step_header.specs.Headers.{tuple_of}
use Rattle.step_write.specs.declared.Step.{Step}
use Rattle.step_places.specs.declared.stepper.Stepper.{Stepper}
use Rattle.step_rule.specs.Rules.{Reads, Stored, going', resting, Makes, one-step}
use Rattle.step_rule.proofs.Views.{views}
use Rattle.step_rule.proofs.Statements.{placed_at}
use Rattle.step_settle.specs.Settling.{flagged, Settles}
use Rattle.step_turn.specs.Turning.{Living}
use Rattle.step_turn.proofs.Turns.{flag_length, MadeStep, made-step}

module _ {M : Machine} (lawful : Lawful M) {P : Prog} {stepper : Stepper} {bytes store : List ℕ} {h : Header} {l : Located} (v : Living M P stepper bytes store h l) where
  sound : Sound v.readable.w v.readable.narrow P l
  sound = fits-sound v.readable.w v.readable.narrow P v.readable.shallow v.readable.defs l (views v.reads).fits

  -- the state goes on: a rule may be asked
  pub goes_on : l.has_ended ≡ false → l.has_stopped ≡ false → Stored M P store h l
  goes_on e s = record { read = v.reads.read; heads = v.reads.heads; goes_on = e; going = s; goes = v.settled s }

  -- the flag of the next state says whether the machine stops there
  flag_is : l.has_stopped ≡ false → (r : Stepped) → located_step M P l ≡ some r → r.1.has_stopped ≡ is_stop (M.step P (project P r.1))
  flag_is s r e = go (located_step M P l) (M.step P (project P l)) (same_step M lawful.followed P v.readable.shallow l (placed_at v.program v.reads) s).0 e
    where
      go : (o : Option Stepped) (c : Outcome) → SameStep M P o c → o ≡ some r → r.1.has_stopped ≡ is_stop (M.step P (project P r.1))
      go o c (both_show {e = e} {l = l'} {s = s} f) g = let q : l' ≡ r.1 = cc in subst (λ (z : Located). z.has_stopped ≡ is_stop (M.step P (project P z))) q (f.stopped_is ∙ ap (λ z. is_stop (M.step P z)) (sym f.is))
      go o c (both-silent {l = l'} {s = s} f) g = let q : l' ≡ r.1 = cc in subst (λ (z : Located). z.has_stopped ≡ is_stop (M.step P (project P z))) q (f.stopped_is ∙ ap (λ z. is_stop (M.step P z)) (sym f.is))
      go o c both_halt g = let z : ◌≡◌ {A = ℕ} 0 1 = cc in absurd (omega arith)
      go o c both-stop g = let z : ◌≡◌ {A = ℕ} 0 1 = cc in absurd (omega arith)

  next-sound : (r : Stepped) → located_step M P l ≡ some r → Sound v.readable.w v.readable.narrow P (going' r.1)
  unfolding project
  next-sound r e = let n = sound-next v.readable.w v.readable.narrow M lawful P v.readable.shallow v.readable.defs l r sound e in record { placed = record { here = n.placed.here; cells = n.placed.cells }; fits = n.fits }

  -- the state that a rule wrote is read again
  rests : (r : Stepped) → located_step M P l ≡ some r → length (store_bytes (going' r.1)) ≤ length store → state_from P (sets store 0 (store_bytes (going' r.1))) ≡ some (going' r.1)
  rests r e k =
      let o = v.readable in
      written o.w o.narrow M lawful P o.shallow o.defs o.few no_start (going' r.1) (next-sound r e) store k v.short

  -- .. with the header that it answered
  made_reads : {events store₁ events₁ : List ℕ} {at : ℕ} {step : Step} (r : Stepped) → located_step M P l ≡ some r → MadeStep store events at (some (r.0, going' r.1)) store₁ events₁ step
      → Reads P store₁ step.header (going' r.1)
  made_reads {events} {store₁} {events₁} {at} r e m =
      let l₁ = going' r.1 in
      let q : m.what ≡ (r.0, l₁) = cc m.is in
      let k : has_room_lem (r.0, l₁) store (length events - at) ≡ true = ap (λ (z : Stepped). has_room_lem z store (length events - at)) (sym q) ∙ m.room in
      let room : length (store_bytes l₁) ≤ length store = leb-true _ _ (and_left (leb (length (store_bytes l₁)) (length store)) (leb (length (shown_bytes r.0)) (length events - at)) k) in
      let wrote : store₁ ≡ sets store 0 (store_bytes l₁) = m.wrote ∙ ap (λ (z : Stepped). sets store 0 (store_bytes z.1)) q in
      record { read = ap (state_from P) wrote ∙ rests r e room; heads = m.heads ∙ ap (λ (z : Stepped). header_of (raw_of z.1)) q }

  -- what a rule wrote is the state that its step leads to
  pub record Rests (store₁ : List ℕ) (h₁ : Header) : Type 0 where
    pub step : Stepped
    pub is : located_step M P l ≡ some step
    pub reads : Reads P store₁ h₁ (going' step.1)

  pub made-rests : {events store₁ events₁ : List ℕ} {at : ℕ} {step : Step} → Makes store events at (resting (located_step M P l)) store₁ events₁ (Ok step) → Rests store₁ step.header
  made-rests {events} {store₁} {events₁} {at} {step} m = go (located_step M P l) refl (made-step m)
    where
      go : (o : Option Stepped) → located_step M P l ≡ o → MadeStep store events at (resting o) store₁ events₁ step → Rests store₁ step.header
      go none e k = let z : ◌≡◌ {A = ℕ} 0 1 = cc k.is in absurd (omega arith)
      go (some r) e k = record { step = r; is = e; reads = made_reads r e k }

  module _ (s : l.has_stopped ≡ false) {events store₁ store₂ events₁ : List ℕ} {at : ℕ} {step : Step} {h₂ : Header} (w : Settles M stepper bytes store₁ step.header store₂ h₂) where
    settled : (r : Stepped) → located_step M P l ≡ some r → MadeStep store events at (some (r.0, going' r.1)) store₁ events₁ step
        → Makes store events at (located_step M P l) store₂ events₁ (Ok (record { header = h₂; at = step.at }))
    unfolding project
    settled r e m =
        let l₁ = going' r.1 in
        let q : m.what ≡ (r.0, l₁) = cc m.is in
        let k : has_room_lem (r.0, l₁) store (length events - at) ≡ true = ap (λ (z : Stepped). has_room_lem z store (length events - at)) (sym q) ∙ m.room in
        let room : length (store_bytes l₁) ≤ length store = leb-true _ _ (and_left (leb (length (store_bytes l₁)) (length store)) (leb (length (shown_bytes r.0)) (length events - at)) k) in
        let wrote : store₁ ≡ sets store 0 (store_bytes l₁) = m.wrote ∙ ap (λ (z : Stepped). sets store 0 (store_bytes z.1)) q in
        let reads : Reads P store₁ step.header l₁ = made_reads r e m in
        let f = w.settles P l₁ v.program reads refl in
        let b = is_stop (M.step P (project P l₁)) in
        let same : flagged b l₁ ≡ r.1 = flag_back r e in
        let size : length (store_bytes l₁) ≡ length (store_bytes r.1) = flag_length false r.1 in
        subst (λ (o : Option Stepped). Makes store events at o store₂ events₁ (Ok (record { header = h₂; at = step.at }))) (sym e) (one-step
        (ap (λ (i : ℕ). leb i (length store) && leb (length (shown_bytes r.0)) (length events - at)) (sym size) ∙ k)
        (f.0 ∙ (ap₂ {C = List ℕ} (λ (z : List ℕ) (y : Located). sets z 0 (store_bytes y)) wrote same ∙ hidden store 0 (store_bytes l₁) (store_bytes r.1) (omega (arith, size)) (omega (arith, room, size))))
        (m.showed ∙ ap (λ (z : Stepped). sets events at (shown_bytes z.0)) q)
        (f.1 ∙ ap (λ (z : Located). header_of (raw_of z)) same)
        (m.place ∙ ap (λ (z : Stepped). at + length (shown_bytes z.0)) q))
      where
        flag_back : (r : Stepped) → located_step M P l ≡ some r → flagged (is_stop (M.step P (project P (going' r.1)))) (going' r.1) ≡ r.1
        flag_back r e = λ i. record { position = r.1.position; environment = r.1.environment; cells = r.1.cells; has_ended = r.1.has_ended; has_stopped = sym (flag_is s r e) i }

    -- a rule's step, and the flag
    pub turned : Makes store events at (resting (located_step M P l)) store₁ events₁ (Ok step) → Makes store events at (located_step M P l) store₂ events₁ (Ok (record { header = h₂; at = step.at }))
    turned m = go (located_step M P l) refl (made-step m)
      where
        go : (o : Option Stepped) → located_step M P l ≡ o → MadeStep store events at (resting o) store₁ events₁ step → Makes store events at (located_step M P l) store₂ events₁ (Ok (record { header = h₂; at = step.at }))
        go none e k = let z : ◌≡◌ {A = ℕ} 0 1 = cc k.is in absurd (omega arith)
        go (some r) e k = settled r e k

  -- a state that makes a step has not stopped
  not_stopped : (r : Stepped) → located_step M P l ≡ some r → l.has_stopped ≡ false
  not_stopped r e = go l.has_stopped refl
    where
      go : (b : Bool) → l.has_stopped ≡ b → b ≡ false
      go true f = let g : none ≡ some r = sym (stopped-step M lawful.followed P v.readable.shallow l f) ∙ e in let z : ◌≡◌ {A = ℕ} 0 1 = cc (g) in absurd (omega arith)
      go false f = refl

  -- the next state lives in the store that was written
  pub next-living : (r : Stepped) → located_step M P l ≡ some r → {store' : List ℕ} {h' : Header} → length (store_bytes r.1) ≤ length store → store' ≡ sets store 0 (store_bytes r.1)
      → tuple_of h' ≡ header_of (raw_of r.1) → Living M P stepper bytes store' h' r.1
  next-living r e {store'} {h'} room w k =
      let o = v.readable in
      let n = sound-next o.w o.narrow M lawful P o.shallow o.defs l r sound e in
      record {
        program = v.program;
        readable = o;
        reads = record { read = ap (state_from P) w ∙ written o.w o.narrow M lawful P o.shallow o.defs o.few no_start r.1 n store room v.short; heads = k };
        settled = λ f. sym (flag_is (not_stopped r e) r e) ∙ f;
        short = omega (arith, v.short, ap length w, length-sets store 0 (store_bytes r.1));
      }

  -- .. by a turn
  pub made-living : {events store' events' : List ℕ} {at : ℕ} {step : Step} → Makes store events at (located_step M P l) store' events' (Ok step)
      → (m : MadeStep store events at (located_step M P l) store' events' step) × Living M P stepper bytes store' step.header m.what.1
  made-living {events} {at = at} k =
      let m = made-step k in
      let b = shown_bytes m.what.0 in
      let room : length (store_bytes m.what.1) ≤ length store = leb-true _ _ (and_left (leb (length (store_bytes m.what.1)) (length store)) (leb (length b) (length events - at)) m.room) in
      (m, next-living m.what m.is room m.wrote m.heads)
