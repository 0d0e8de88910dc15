-- Steps one after another, as a loop makes them: what is left of a call's steps. Assumes nothing.
use Prim.Native.Nat.{ℕ, suc, ◌+◌, ◌-◌, ◌≤◌, ◌<◌}
use mathlib.Core.Path.{◌≡◌, refl, sym, ap, ap₂, ◌∙◌}
use mathlib.Core.Bool.{Bool, true, false}
use mathlib.Core.List.{List, [], ◌++◌, append_assoc}
use mathlib.Core.Option.{Option, none, some}
use native.Mathlib.Omega.{arith}
use borrow.Author.Tests.{leb-true}
use lib.Dec.{leb}
use lib.ListN.{length, length-append}
use lib.Seq.{sets, length-sets}
use Rattle.model.specs.Syntax.{Prog}
use Rattle.image_spec.proofs.DirectoryLaws.{and_right}
use Rattle.image_write_parts.proofs.Putting.{sets_append}
use Rattle.step_spec.specs.Located.{Machine, Located, Stepped, located_step}
use Rattle.step_spec.specs.Store.{store_bytes}
use Rattle.step_spec.specs.Events.{shown_bytes}
use Rattle.step_spec.specs.Calls.{Progress, stays, one_more_lem, has_room_lem, if_room, onward, making}

-- so many steps with these bytes come before
abbrev pub preceded : ℕ → List ℕ → Progress → Progress
preceded i b p = record { steps = i + p.steps; shown = b ++ p.shown; state = p.state; store = p.store; full = p.full }

module _ (M : Machine) (P : Prog) (n : ℕ) (first : Located) (store₀ events₀ : List ℕ) where
  -- i of the n steps are made: they have shown these bytes and led to l, and the rest is what a call for the other steps makes
  pub record Running (i : ℕ) (l : Located) (store events : List ℕ) (at : ℕ) (shown : List ℕ) : Type 0 where
    pub within : i ≤ n
    pub rest : making M P n first store₀ (length events₀) ≡ preceded i shown (making M P (n - i) l store (length events₀ - at))
    pub written : events ≡ sets events₀ 0 shown
    pub place : at ≡ length shown
    pub inside : at ≤ length events₀

  pub running_none : Running 0 first store₀ events₀ 0 []
  running_none =
      let a : length events₀ ≡ length events₀ - 0 = omega arith in
      let b : n ≡ n - 0 = omega arith in
      let e : (p : Progress) → p ≡ preceded 0 [] p = same_progress in
      record {
        within = omega arith;
        rest = ap₂ {C = Progress} (λ (k m : ℕ). making M P k first store₀ m) b a ∙ e (making M P (n - 0) first store₀ (length events₀ - 0));
        written = refl;
        place = refl;
        inside = omega arith;
      }
    where
      same_progress : (p : Progress) → p ≡ preceded 0 [] p
      same_progress p = let k : p.steps ≡ 0 + p.steps = omega arith in λ i. record { steps = k i; shown = p.shown; state = p.state; store = p.store; full = p.full }

  module _ {i : ℕ} {l : Located} {store events : List ℕ} {at : ℕ} {shown : List ℕ} (r : Running i l store events at shown) where
    turn : i < n → making M P (n - i) l store (length events₀ - at) ≡ onward (located_step M P l) l store (length events₀ - at) (making M P (n - (i + 1)))
    unfolding making
    turn h = let k : n - i ≡ suc (n - (i + 1)) = omega arith in ap (λ (m : ℕ). making M P m l store (length events₀ - at)) k

    pub same-events : length events ≡ length events₀
    same-events = ap length r.written ∙ length-sets events₀ 0 shown

    -- all are made
    pub running-all : n ≤ i → making M P n first store₀ (length events₀) ≡ preceded i shown (stays false l store)
    unfolding making
    running-all h = let k : n - i ≡ 0 = omega arith in r.rest ∙ ap (λ (m : ℕ). preceded i shown (making M P m l store (length events₀ - at))) k

    -- there is no next step
    pub running_none-left : i < n → located_step M P l ≡ none → making M P n first store₀ (length events₀) ≡ preceded i shown (stays false l store)
    running_none-left h e = r.rest ∙ ap (preceded i shown) (turn h ∙ ap (λ (o : Option Stepped). onward o l store (length events₀ - at) (making M P (n - (i + 1)))) e)

    -- there is no room for it
    pub running-full : i < n → (s : Stepped) → located_step M P l ≡ some s → has_room_lem s store (length events₀ - at) ≡ false
        → making M P n first store₀ (length events₀) ≡ preceded i shown (stays true l store)
    running-full h s e f =
        r.rest ∙ ap (preceded i shown) (turn h ∙ (ap (λ (o : Option Stepped). onward o l store (length events₀ - at) (making M P (n - (i + 1)))) e
        ∙ ap (λ (b : Bool). if_room b (one_more_lem (shown_bytes s.0) (making M P (n - (i + 1)) s.1 (sets store 0 (store_bytes s.1)) (length events₀ - at - length (shown_bytes s.0)))) (stays true l store)) f))

    -- one more is made
    pub running-next : i < n → (s : Stepped) → located_step M P l ≡ some s → has_room_lem s store (length events₀ - at) ≡ true → {store' events' : List ℕ} {m : ℕ}
        → store' ≡ sets store 0 (store_bytes s.1) → events' ≡ sets events at (shown_bytes s.0) → m ≡ at + length (shown_bytes s.0)
        → Running (i + 1) s.1 store' events' m (shown ++ shown_bytes s.0)
    running-next h s e f {store'} {events'} {m} p q t =
        let b = shown_bytes s.0 in
        let k : length b ≤ length events₀ - at = leb-true (length b) (length events₀ - at) (and_right (leb (length (store_bytes s.1)) (length store)) (leb (length b) (length events₀ - at)) f) in
        let u : at ≡ 0 + length shown = omega (arith, r.place) in
        let w : length events₀ - at - length b ≡ length events₀ - m = omega (arith, t, k) in
        let x = making M P (n - (i + 1)) s.1 (sets store 0 (store_bytes s.1)) (length events₀ - at - length b) in
        let y : x ≡ making M P (n - (i + 1)) s.1 store' (length events₀ - m) = ap₂ {C = Progress} (λ (z : List ℕ) (j : ℕ). making M P (n - (i + 1)) s.1 z j) (sym p) w in
        record {
          within = omega arith;
          rest = r.rest ∙ (ap (preceded i shown) (turn h ∙ (ap (λ (o : Option Stepped). onward o l store (length events₀ - at) (making M P (n - (i + 1)))) e
              ∙ ap (λ (c : Bool). if_room c (one_more_lem b x) (stays true l store)) f)) ∙ (joined i shown b x ∙ ap (preceded (i + 1) (shown ++ b)) y));
          written = q ∙ (ap₂ {C = List ℕ} (λ (z : List ℕ) (j : ℕ). sets z j b) r.written u ∙ sym (sets_append shown events₀ 0 b));
          place = omega (arith, t, r.place, length-append shown b);
          inside = omega (arith, t, k, r.inside);
        }
      where
        joined : (i : ℕ) (a b : List ℕ) (p : Progress) → preceded i a (one_more_lem b p) ≡ preceded (i + 1) (a ++ b) p
        joined i a b p =
            let k : i + suc p.steps ≡ i + 1 + p.steps = omega arith in
            let w : a ++ (b ++ p.shown) ≡ (a ++ b) ++ p.shown = sym (append_assoc a b p.shown) in
            λ j. record { steps = k j; shown = w j; state = p.state; store = p.store; full = p.full }
