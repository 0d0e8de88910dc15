-- The Rust's loop of `filter_by_set` gives what document 01 says of it. Assumes nothing.
use mathlib.Core.Path.{◌≡◌, refl, sym, ◌∙◌, ap, subst}
use mathlib.Core.Bool.{Bool, true, false}
use mathlib.Core.List.{List, [], ◌∷◌, ◌++◌}
use mathlib.Core.Option.{Option, none, some}
use Prim.Native.Nat.{ℕ, zero, suc, ◌≤◌}
use native.Mathlib.Omega.{arith}
use lib.ListN.{length, length-append}
use lib.Seq.{append_snoc}
use Rattle.syntax.specs.Context.{Context}
use Rattle.syntax.specs.Filter.{retained, filtered, in_set, filter_by_set_lem}
use Rattle.syntax.specs.FilterLoop.{before, last_kept, filter_loop}
use Rattle.syntax.specs.declared.names.VarId.{VarId}
use Rattle.syntax.proofs.Filters.{filtered_none, filtered_in, filtered_on, filtered-drop}

module _ {A : Type 0} (p : A → Bool) where
  retained-no : (x : A) (l : List A) → p x ≡ false → retained p (x ∷ l) ≡ retained p l
  unfolding retained
  retained-no x l e = rw e

  -- the last that is kept stands between what is before it and what is dropped
  record Splits (l l₁ : List A) (c : A) : Type 0 where
    l₂ : List A
    whole : l ≡ l₁ ++ c ∷ l₂
    yes : p c ≡ true
    dropped : retained p l₂ ≡ []

  abbrev Last : List A → Option (List A × A) → Type 0
  Last l none = retained p l ≡ []
  Last l (some r) = Splits l r.0 r.1

  last-kept : (l : List A) → Last l (last_kept p l)
  unfolding last_kept retained
  last-kept [] = refl
  last-kept (x ∷ l) = by (p x) refl (last_kept p l) (last-kept l)
    where
      by : (t : Bool) → p x ≡ t → (o : Option (List A × A)) → Last l o → Last (x ∷ l) (before p x t o)
      by true e (some r) h = record { l₂ = h.l₂; whole = ap (λ (q : List A). x ∷ q) h.whole; yes = h.yes; dropped = h.dropped }
      by false e (some r) h = record { l₂ = h.l₂; whole = ap (λ (q : List A). x ∷ q) h.whole; yes = h.yes; dropped = h.dropped }
      by true e none h = record { l₂ = l; whole = refl; yes = e; dropped = h }
      by false e none h = retained-no x l e ∙ h

  -- ── the three cases of a position ──

  loop_keeps : (n : ℕ) (x : A) (l : List A) → p x ≡ true → filter_loop p (suc n) (x ∷ l) ≡ x ∷ filter_loop p n l
  unfolding filter_loop
  loop_keeps n x l e = rw (e, filter_loop)

  loop_ends : (n : ℕ) (x : A) (l : List A) → p x ≡ false → last_kept p l ≡ none → filter_loop p (suc n) (x ∷ l) ≡ []
  unfolding filter_loop
  loop_ends n x l e q = rw (e, q, filter_loop)

  loop_moves : (n : ℕ) (x : A) (l : List A) (r : List A × A) → p x ≡ false → last_kept p l ≡ some r → filter_loop p (suc n) (x ∷ l) ≡ r.1 ∷ filter_loop p n r.0
  unfolding filter_loop
  loop_moves n x l r e q = rw (e, q, filter_loop)

  loop_none : (n : ℕ) → filter_loop p n [] ≡ filtered p []
  unfolding filter_loop
  loop_none zero = sym (filtered_none p)
  loop_none (suc n) = sym (filtered_none p)

  ends : (x : A) (l : List A) → p x ≡ false → retained p l ≡ [] → filtered p (x ∷ l) ≡ []
  ends x l e h = filtered-drop p [] (x ∷ l) (retained-no x l e ∙ h) ∙ filtered_none p

  moves : (x c : A) (l₁ l₂ : List A) → p x ≡ false → p c ≡ true → retained p l₂ ≡ [] → filtered p (x ∷ (l₁ ++ c ∷ l₂)) ≡ c ∷ filtered p l₁
  moves x c l₁ l₂ e f h =
      ap (λ (r : List A). filtered p (x ∷ r)) (sym (append_snoc l₁ c l₂))
      ∙ filtered-drop p (x ∷ (l₁ ++ (c ∷ []))) l₂ h
      ∙ filtered_on p x l₁ c e f

  pub loop_filters : (n : ℕ) (l : List A) → length l ≤ n → filter_loop p n l ≡ filtered p l
  loop_filters zero [] h = loop_none zero
  loop_filters zero (x ∷ l) h = absurd (omega arith)
  loop_filters (suc n) [] h = loop_none (suc n)
  loop_filters (suc n) (x ∷ l) h = by (p x) refl (last_kept p l) refl (λ m k. loop_filters n m k)
    where
      by : (t : Bool) → p x ≡ t → (o : Option (List A × A)) → last_kept p l ≡ o → ((m : List A) → length m ≤ n → filter_loop p n m ≡ filtered p m) →
          filter_loop p (suc n) (x ∷ l) ≡ filtered p (x ∷ l)
      by true e o q ih = loop_keeps n x l e ∙ ap (λ (r : List A). x ∷ r) (ih l (omega arith)) ∙ sym (filtered_in p x l e)
      by false e none q ih = loop_ends n x l e q ∙ sym (ends x l e (subst (Last l) q (last-kept l)))
      by false e (some r) q ih =
          let s : Splits l r.0 r.1 = subst (Last l) q (last-kept l) in
          let k : length r.0 ≤ n = omega (arith, ap length s.whole, length-append r.0 (r.1 ∷ s.l₂)) in
          loop_moves n x l r e q ∙ ap (λ (m : List A). r.1 ∷ m) (ih r.0 k)
          ∙ sym (ap (λ (m : List A). filtered p (x ∷ m)) s.whole ∙ moves x r.1 r.0 s.l₂ e s.yes s.dropped)

-- the Rust's loop over a whole context is the rule
pub rust_loop_filters : (s : List VarId) (Γ : Context) → filter_loop (in_set s) (length Γ) Γ ≡ filter_by_set_lem s Γ
rust_loop_filters s Γ = loop_filters (in_set s) (length Γ) Γ (omega arith)
