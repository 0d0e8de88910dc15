-- A store that is moved: calls on two images of one program, from stores of the same length that hold the same state, answer and show the same.
-- (document 02, A.8; AnyStore.antt, `copied`: the moved store is a copy.) Assumes nothing.
use Prim.Native.Nat.{ℕ, zero, suc, ◌-◌, ◌^◌, ◌≤◌, ◌<◌}
use mathlib.Core.Path.{◌≡◌, refl, sym, ap, ap₂, ◌∙◌, subst}
use mathlib.Core.Bool.{Bool, true, false, ◌&&◌}
use mathlib.Core.List.{List, [], ◌∷◌, ◌++◌, map}
use mathlib.Core.Option.{Option, none, some}
use native.Mathlib.Omega.{arith}
use lib.Dec.{leb}
use lib.ListN.{length}
use lib.Seq.{sets, length-sets}
use borrow.Author.Tests.{leb-true}
use Rattle.syntax.proofs.Bools.{both_true}
use Rattle.model.specs.Syntax.{Prog}
use Rattle.model.specs.Machine.{no_start}
use Rattle.image_spec.specs.Reading.{Reading, accept}
use Rattle.step_spec.specs.Located.{Machine, Located, Stepped, located_step}
use Rattle.step_spec.specs.Store.{store_bytes, state_from}
use Rattle.step_spec.specs.Events.{shown_bytes}
use Rattle.step_spec.specs.Calls.{Stepper, Result, Progress, stays, one_more_lem, has_room_lem, if_room, onward, making, made', space_number}
use Rattle.step_spec.specs.Claims.{Request, calls}
use Rattle.step_spec.proofs.OneToOne.{only_its_bytes}
use Rattle.step_spec.proofs.Sound.{Lawful, Sound}
use Rattle.step_spec.proofs.Reached.{sound-next}
use Rattle.step_spec.proofs.Making.{written}
use Rattle.step_spec.proofs.Stepping.{call_is, Readable}
use Rattle.step_spec.proofs.AnyStore.{fits-sound}

-- the same steps, events, state and number; stores of the same length
pub record Alike (p q : Progress) : Type 0 where
  pub steps : p.steps ≡ q.steps
  pub shown : p.shown ≡ q.shown
  pub state : p.state ≡ q.state
  pub full : p.full ≡ q.full
  pub size : length p.store ≡ length q.store

module _ (M : Machine) (P : Prog) where
  more-alike : (b : List ℕ) (p q : Progress) → Alike p q → Alike (one_more_lem b p) (one_more_lem b q)
  more-alike b p q h = record { steps = ap suc h.steps; shown = ap (λ (z : List ℕ). b ++ z) h.shown; state = h.state; full = h.full; size = h.size }

  pub making-alike : (n : ℕ) (l : Located) (s t : List ℕ) (left : ℕ) → length s ≡ length t → Alike (making M P n l s left) (making M P n l t left)
  unfolding making
  making-alike zero l s t left e = record { steps = refl; shown = refl; state = refl; full = refl; size = e }
  making-alike (suc n) l s t left e = go (located_step M P l) (λ l' s' t' left' e'. making-alike n l' s' t' left' e')
    where
      enough : (r : Stepped) (b : Bool) → ((l' : Located) (s' t' : List ℕ) (left' : ℕ) → length s' ≡ length t' → Alike (making M P n l' s' left') (making M P n l' t' left'))
          → Alike (if_room b (one_more_lem (shown_bytes r.0) (making M P n r.1 (sets s 0 (store_bytes r.1)) (left - length (shown_bytes r.0)))) (stays true l s))
          (if_room b (one_more_lem (shown_bytes r.0) (making M P n r.1 (sets t 0 (store_bytes r.1)) (left - length (shown_bytes r.0)))) (stays true l t))
      enough r true ih =
          more-alike (shown_bytes r.0) _ _ (ih r.1 (sets s 0 (store_bytes r.1)) (sets t 0 (store_bytes r.1)) (left - length (shown_bytes r.0))
          (length-sets s 0 (store_bytes r.1) ∙ (e ∙ sym (length-sets t 0 (store_bytes r.1)))))
      enough r false ih = record { steps = refl; shown = refl; state = refl; full = refl; size = e }

      go : (o : Option Stepped) → ((l' : Located) (s' t' : List ℕ) (left' : ℕ) → length s' ≡ length t' → Alike (making M P n l' s' left') (making M P n l' t' left'))
          → Alike (onward o l s left (making M P n)) (onward o l t left (making M P n))
      go none ih = record { steps = refl; shown = refl; state = refl; full = refl; size = e }
      go (some r) ih =
          subst (λ (b : Bool). Alike (onward (some r) l s left (making M P n))
          (if_room b (one_more_lem (shown_bytes r.0) (making M P n r.1 (sets t 0 (store_bytes r.1)) (left - length (shown_bytes r.0)))) (stays true l t)))
          (ap (λ (z : ℕ). leb (length (store_bytes r.1)) z && leb (length (shown_bytes r.0)) left) e) (enough r (has_room_lem r s left) ih)

-- ── lists of calls ──

module _ (M : Machine) (lawful : Lawful M) (P : Prog) (o : Readable P) where
  -- the store holds the state after a call too
  record Held (p : Progress) (size : ℕ) : Type 0 where
    stored : state_from P p.store ≡ some p.state
    sound : Sound o.w o.narrow P p.state
    same : length p.store ≡ size

  held_more : (b : List ℕ) (p : Progress) (size : ℕ) → Held p size → Held (one_more_lem b p) size
  held_more b p size h = record { stored = h.stored; sound = h.sound; same = h.same }

  making-held : (n : ℕ) (l : Located) (s : List ℕ) (left : ℕ) → state_from P s ≡ some l → Sound o.w o.narrow P l → length s < 2 ^ 64 → Held (making M P n l s left) (length s)
  unfolding making
  making-held zero l s left e h k = record { stored = e; sound = h; same = refl }
  making-held (suc n) l s left e h k = go (located_step M P l) refl (λ l' s' left' e' h' k'. making-held n l' s' left' e' h' k')
    where
      enough : (r : Stepped) (b : Bool) → located_step M P l ≡ some r → has_room_lem r s left ≡ b
          → ((l' : Located) (s' : List ℕ) (left' : ℕ) → state_from P s' ≡ some l' → Sound o.w o.narrow P l' → length s' < 2 ^ 64 → Held (making M P n l' s' left') (length s'))
          → Held (if_room b (one_more_lem (shown_bytes r.0) (making M P n r.1 (sets s 0 (store_bytes r.1)) (left - length (shown_bytes r.0)))) (stays true l s)) (length s)
      enough r true f t ih =
          let a : length (store_bytes r.1) ≤ length s = leb-true _ _ (both_true (leb (length (store_bytes r.1)) (length s)) _ t).0 in
          let d = sound-next o.w o.narrow M lawful P o.shallow o.defs l r h f in
          let q : length (sets s 0 (store_bytes r.1)) ≡ length s = length-sets s 0 (store_bytes r.1) in
          held_more (shown_bytes r.0) _ (length s)
          (subst (Held (making M P n r.1 (sets s 0 (store_bytes r.1)) (left - length (shown_bytes r.0)))) q
          (ih r.1 (sets s 0 (store_bytes r.1)) (left - length (shown_bytes r.0)) (written o.w o.narrow M lawful P o.shallow o.defs o.few no_start r.1 d s a k) d (omega arith)))
      enough r false f t ih = record { stored = e; sound = h; same = refl }

      go : (x : Option Stepped) → located_step M P l ≡ x
          → ((l' : Located) (s' : List ℕ) (left' : ℕ) → state_from P s' ≡ some l' → Sound o.w o.narrow P l' → length s' < 2 ^ 64 → Held (making M P n l' s' left') (length s'))
          → Held (onward x l s left (making M P n)) (length s)
      go none f ih = record { stored = e; sound = h; same = refl }
      go (some r) f ih = enough r (has_room_lem r s left) f refl ih

-- what a call says and shows
abbrev pub told : Result → ℕ × ℕ × ℕ × List ℕ
told r = (r.number, r.steps, r.length, r.events)

told-alike : (p q : Progress) (events : List ℕ) → Alike p q → told (made' p events) ≡ told (made' q events)
told-alike p q events h = λ i. (space_number (h.full i), h.steps i, length (h.shown i), sets events 0 (h.shown i))

-- document 02, A.8: from which the same stepper's calls, given the same room, show exactly the events that the old one would have shown, in order, and
-- then end, stop or get stuck where it would have. S and T are one machine's steppers, for images of two layouts
pub moved-calls : (M : Machine) → Lawful M → (P : Prog) → Readable P
    → (asksS asksT : List ℕ → Reading) (image image' : List ℕ) → asksS image ≡ accept P → asksT image' ≡ accept P
    → (qs : List Request) (l : Located) (s t : List ℕ) → length s ≡ length t → length s < 2 ^ 64 → state_from P s ≡ some l → state_from P t ≡ some l
    → map told (calls (record { machine = M; asks = asksS }) image s qs) ≡ map told (calls (record { machine = M; asks = asksT }) image' t qs)
unfolding calls
moved-calls M lawful P o asksS asksT image image' a b [] l s t e k f g = refl
moved-calls M lawful P o asksS asksT image image' a b (q ∷ qs) l s t e k f g =
    let S : Stepper = record { machine = M; asks = asksS } in
    let T : Stepper = record { machine = M; asks = asksT } in
    let p = making M P q.steps l s (length q.events) in
    let r = making M P q.steps l t (length q.events) in
    let h = making-alike M P q.steps l s t (length q.events) e in
    let d = fits-sound o.w o.narrow P o.shallow o.defs l (only_its_bytes P s l f).fits in
    let x = making-held M lawful P o q.steps l s (length q.events) f d k in
    let y = making-held M lawful P o q.steps l t (length q.events) g d (omega arith) in
    let u = call_is S P image a q.steps s q.events l f in
    let v = call_is T P image' b q.steps t q.events l g in
    ap₂ {C = List (ℕ × ℕ × ℕ × List ℕ)} (λ (c : ℕ × ℕ × ℕ × List ℕ) (cs : List (ℕ × ℕ × ℕ × List ℕ)). c ∷ cs)
    (ap told u ∙ (told-alike p r q.events h ∙ sym (ap told v)))
    (ap (λ (z : Result). map told (calls S image z.store qs)) u
    ∙ (moved-calls M lawful P o asksS asksT image image' a b qs p.state p.store r.store h.size (omega (arith, x.same)) x.stored (y.stored ∙ ap some (sym h.state))
    ∙ ap (λ (z : Result). map told (calls T image' z.store qs)) (sym v)))
