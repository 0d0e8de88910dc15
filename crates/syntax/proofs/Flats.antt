-- Bindings as they stand in an array, and arrays that are seen through what their elements stand for. Assumes nothing.
use mathlib.Core.Path.{◌≡◌, sym, ap, ◌∙◌, subst}
use mathlib.Core.Bool.{Bool, true, false}
use mathlib.Core.List.{List, [], ◌∷◌, ◌++◌, map}
use Prim.Native.Nat.{ℕ, ◌+◌, ◌-◌, ◌<◌}
use lib.ListN.{length, take, get_or, set, get_or-map}
use Rattle.std.proofs.lemmas.List.{take_more_set, map-set}
use Rattle.syntax.proofs.Filters.{Filtering, filtering_in, filtering-out}

-- ── arrays, seen through f ──

module _ {A B : Type 0} (f : A → B) where
  -- what is read (`get_or-map`, turned)
  pub seen_at : (l : List A) (i : ℕ) (d : A) → f (get_or l i d) ≡ get_or (map f l) i (f d)
  seen_at l i d = sym (get_or-map f l i d)

  -- one element more
  pub seen_stored : (l : List A) (n : ℕ) (a : A) (b : B) → f a ≡ b → n < length (map f l) → take (n + 1) (map f (set l n a)) ≡ take n (map f l) ++ (b ∷ [])
  seen_stored l n a b e h = rw (map-set f l n a, e) (take_more_set (map f l) n b h)

  -- an element put in another's place
  pub seen-moved : (l : List A) (i j : ℕ) (d : A) → map f (set l i (get_or l j d)) ≡ set (map f l) i (get_or (map f l) j (f d))
  seen-moved l i j d = map-set f l i (get_or l j d) ∙ ap (set (map f l) i) (seen_at l j d)

-- ── the loop that filters in place, over an array that is seen through f ──

module _ {A B : Type 0} (f : A → B) (p : B → Bool) (l : List A) {whole : List B} {n i : ℕ} (d : A) (h : i < n) (s : Filtering p whole (map f l) n i) where
  pub seen_in : p (f (get_or l i d)) ≡ true → Filtering p whole (map f l) n (i + 1)
  seen_in e = filtering_in p (f d) h (ap p (sym (seen_at f l i d)) ∙ e) s

  pub seen-out : p (f (get_or l i d)) ≡ false → Filtering p whole (map f (set l i (get_or l (n - 1) d))) (n - 1) i
  seen-out e = subst (λ (v : List B). Filtering p whole v (n - 1) i) (sym (seen-moved f l i (n - 1) d)) (filtering-out p (f d) h (ap p (sym (seen_at f l i d)) ∙ e) s)
