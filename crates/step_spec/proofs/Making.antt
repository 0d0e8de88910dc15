-- What a call for n steps makes: the machine's next steps, their events, and the state after them in the store. Assumes nothing.
use Prim.Native.Nat.{ℕ, zero, suc, ◌+◌, ◌-◌, ◌^◌, ◌≤◌, ◌<◌}
use mathlib.Core.Path.{◌≡◌, refl, sym, ap, ◌∙◌, subst}
use mathlib.Core.Bool.{Bool, true, false}
use mathlib.Core.List.{List, [], ◌++◌, append_assoc, append-nil}
use mathlib.Core.Option.{Option, none, some}
use native.Mathlib.Omega.{arith}
use borrow.Author.Tests.{leb-true}
use lib.Dec.{leb}
use lib.ListN.{length, drop, length-append}
use lib.Seq.{sets, sets-eq, length-sets}
use Rattle.syntax.proofs.Bools.{both_true}
use Rattle.model.specs.Syntax.{Prog}
use Rattle.model.specs.Machine.{Event, Start}
use Rattle.image_spec.specs.Parse.{each, All}
use Rattle.image_spec.specs.Shape.{DefOk}
use Rattle.step_spec.specs.Located.{Machine, Located, Stepped, records_in, located_step}
use Rattle.step_spec.specs.Store.{store_bytes, state_from}
use Rattle.step_spec.specs.Events.{event_bytes, shown_bytes}
use Rattle.step_spec.specs.Calls.{Progress, stays, one_more_lem, has_room_lem, if_room, onward, making}
use Rattle.step_spec.proofs.Stored.{store-size, state-stored}
use Rattle.step_spec.proofs.Representable.{DefsOk}
use Rattle.step_spec.proofs.Sound.{Lawful, Sound, sound-fits}
use Rattle.step_spec.proofs.Reached.{listed, Reached, reached-next}

shown-listed : (e : Option Event) (es : List Event) (b : List ℕ) → b ≡ each event_bytes es → shown_bytes e ++ b ≡ each event_bytes (listed e ++ es)
shown-listed none es b h = h
shown-listed (some e) es b h = ap (λ (z : List ℕ). event_bytes e ++ z) h

module _ (w : ℕ) (narrow : 256 ^ w ≤ 256 ^ 4) (M : Machine) (lawful : Lawful M) (P : Prog) (shallow : All DefOk P.defs)
    (defs : DefsOk w narrow P.defs) (few : length (records_in P) < 256 ^ 4) (start : Start) where
  abbrev R : ℕ → List Event → Located → Type 0
  R n es l = Reached w narrow M lawful P shallow defs start n es l

  -- why a call made p of n steps
  pub data Ends (n left : ℕ) (p : Progress) : Type 0 where
    all_made : p.full ≡ false → p.steps ≡ n → Ends n left p
    no-next : p.full ≡ false → p.steps < n → located_step M P p.state ≡ none → Ends n left p
    no_room : p.full ≡ true → p.steps < n → (r : Stepped) → located_step M P p.state ≡ some r → has_room_lem r p.store (left - length p.shown) ≡ false → Ends n left p

  pub record Made (m : ℕ) (es : List Event) (n : ℕ) (store : List ℕ) (left : ℕ) (p : Progress) : Type 0 where
    pub events : List Event
    pub reached : R (m + p.steps) (es ++ events) p.state
    pub shown : p.shown ≡ each event_bytes events
    pub stored : state_from P p.store ≡ some p.state
    pub size : length p.store ≡ length store
    pub room : length p.shown ≤ left
    pub ends : Ends n left p

  -- the state is in the store after its bytes were written there
  pub written : (l : Located) → Sound w narrow P l → (store : List ℕ) → length (store_bytes l) ≤ length store → length store < 2 ^ 64 → state_from P (sets store 0 (store_bytes l)) ≡ some l
  written l s store h k =
      ap (state_from P) (sets-eq (store_bytes l) store 0 (omega arith))
      ∙ state-stored P few l (sound-fits w narrow P l s) (omega (arith, store-size l)) (drop (0 + length (store_bytes l)) store)

  stayed : (m : ℕ) (es : List Event) (n : ℕ) (l : Located) (store : List ℕ) (left : ℕ) (f : Bool) → R m es l → state_from P store ≡ some l
      → Ends n left (stays f l store) → Made m es n store left (stays f l store)
  stayed m es n l store left f h e x = record {
    events = [];
    reached = subst (λ (z : ℕ). R z (es ++ []) l) (omega arith) (subst (λ (z : List Event). R m z l) (sym (append-nil es)) h);
    shown = refl;
    stored = e;
    size = refl;
    room = omega arith;
    ends = x;
  }

  further : (n left k : ℕ) (b : List ℕ) (p : Progress) → length b + k ≡ left → length p.shown ≤ k → Ends n k p → Ends (suc n) left (one_more_lem b p)
  further n left k b p e c (all_made f g) = all_made f (ap suc g)
  further n left k b p e c (no-next f g h) = no-next f (omega arith) h
  further n left k b p e c (no_room f g r h i) =
      let q : k - length p.shown ≡ left - length (b ++ p.shown) = omega (arith, length-append b p.shown) in
      no_room f (omega arith) r h (ap (λ (z : ℕ). has_room_lem r p.store z) (sym q) ∙ i)

  another : (m : ℕ) (es : List Event) (n : ℕ) (store : List ℕ) (left : ℕ) (r : Stepped) (p : Progress) → length (shown_bytes r.0) ≤ left
      → Made (suc m) (es ++ listed r.0) n (sets store 0 (store_bytes r.1)) (left - length (shown_bytes r.0)) p → Made m es (suc n) store left (one_more_lem (shown_bytes r.0) p)
  another m es n store left r p h d = record {
    events = listed r.0 ++ d.events;
    reached = subst (λ (z : ℕ). R z (es ++ (listed r.0 ++ d.events)) p.state) (omega arith)
        (subst (λ (z : List Event). R (suc m + p.steps) z p.state) (append_assoc es (listed r.0) d.events) d.reached);
    shown = shown-listed r.0 d.events p.shown d.shown;
    stored = d.stored;
    size = d.size ∙ length-sets store 0 (store_bytes r.1);
    room = omega (arith, length-append (shown_bytes r.0) p.shown, d.room);
    ends = further n left (left - length (shown_bytes r.0)) (shown_bytes r.0) p (omega arith) d.room d.ends;
  }

  pub makes : (n m : ℕ) (es : List Event) (l : Located) (store : List ℕ) (left : ℕ) → R m es l → state_from P store ≡ some l → length store < 2 ^ 64
      → Made m es n store left (making M P n l store left)
  unfolding making
  makes zero m es l store left h e k = stayed m es 0 l store left false h e (all_made refl refl)
  makes (suc n) m es l store left h e k = go (located_step M P l) refl (λ m' es' l' store' left' h' e' k'. makes n m' es' l' store' left' h' e' k')
    where
      enough : (r : Stepped) (b : Bool) → located_step M P l ≡ some r → has_room_lem r store left ≡ b
          → ((m' : ℕ) (es' : List Event) (l' : Located) (store' : List ℕ) (left' : ℕ) → R m' es' l' → state_from P store' ≡ some l'
          → length store' < 2 ^ 64 → Made m' es' n store' left' (making M P n l' store' left'))
          → Made m es (suc n) store left
          (if_room b (one_more_lem (shown_bytes r.0) (making M P n r.1 (sets store 0 (store_bytes r.1)) (left - length (shown_bytes r.0)))) (stays true l store))
      enough r true s t ih =
          let b = both_true (leb (length (store_bytes r.1)) (length store)) _ t in
          let a : length (store_bytes r.1) ≤ length store = leb-true _ _ b.0 in
          let c : length (shown_bytes r.0) ≤ left = leb-true _ _ b.1 in
          let d = reached-next w narrow M lawful P shallow defs start m es l r h s in
          let q : length (sets store 0 (store_bytes r.1)) < 2 ^ 64 = omega (arith, length-sets store 0 (store_bytes r.1)) in
          another m es n store left r _ c (ih (suc m) (es ++ listed r.0) r.1 (sets store 0 (store_bytes r.1)) (left - length (shown_bytes r.0)) d (written r.1 d.sound store a k) q)
      enough r false s t ih =
          let q : left ≡ left - 0 = omega arith in
          stayed m es (suc n) l store left true h e (no_room refl (omega arith) r s (ap (λ (z : ℕ). has_room_lem r store z) (sym q) ∙ t))

      go : (o : Option Stepped) → located_step M P l ≡ o
          → ((m' : ℕ) (es' : List Event) (l' : Located) (store' : List ℕ) (left' : ℕ) → R m' es' l' → state_from P store' ≡ some l'
          → length store' < 2 ^ 64 → Made m' es' n store' left' (making M P n l' store' left'))
          → Made m es (suc n) store left (onward o l store left (making M P n))
      go none s ih = stayed m es (suc n) l store left false h e (no-next refl (omega arith) s)
      go (some r) s ih = enough r (has_room_lem r store left) s refl ih
