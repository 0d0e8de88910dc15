-- Laws of lists of any elements: members of a rearrangement and of what is filtered; `map` past `reverse` and the filter's rule.
-- Assumes nothing.
use mathlib.Core.Path.{◌≡◌, refl, sym, ap, ◌∙◌}
use mathlib.Core.Logic.{◌⊎◌, inl, inr}
use mathlib.Core.Bool.{Bool, true, false, cond, true≢false}
use mathlib.Core.List.Memᴰ
use mathlib.Core.List.{List, [], ◌∷◌, map, map-id, reverse, reverse_aux, Memᴰ}
use Prim.Native.Nat.{ℕ, zero, suc, ◌<◌}
use native.Mathlib.Omega.{arith}
use lib.ListN.{length, get_or, take, drop, length-map, take-append-drop}
use Rattle.std.proofs.lemmas.List.{take-map, drop-map}
use Rattle.syntax.specs.Filter.{retained, fill, filtered}
use Rattle.syntax.proofs.Permutations.{Perm, nil, keep, swap, trans, perm_sym}
use Rattle.syntax.proofs.Filters.{filtered_perm}

-- the element stands in the list
abbrev pub In : {A : Type 0} → A → List A → Type 0
In a l = Memᴰ a l

module _ {A : Type 0} where
  pub in_case : {a b : A} {l : List A} → In a (b ∷ l) → (a ≡ b) ⊎ In a l
  in_case h = Memᴰ.cases_cons h

  -- ── a rearrangement ──

  pub in_perm : {s t : List A} {a : A} → Perm s t → In a s → In a t
  in_perm nil h = h
  in_perm {a = a} (keep b {s} {t} p) h = go (λ k. in_perm p k) (in_case h)
    where
      go : (In a s → In a t) → (a ≡ b) ⊎ In a s → In a (b ∷ t)
      go ih (inl e) = Memᴰ.head e
      go ih (inr k) = Memᴰ.tail (ih k)
  in_perm {a = a} (swap b c s) h = first (in_case h)
    where
      second : (a ≡ c) ⊎ In a s → In a (c ∷ b ∷ s)
      second (inl e) = Memᴰ.head e
      second (inr k) = Memᴰ.tail (Memᴰ.tail k)

      first : (a ≡ b) ⊎ In a (c ∷ s) → In a (c ∷ b ∷ s)
      first (inl e) = Memᴰ.tail (Memᴰ.head e)
      first (inr k) = second (in_case k)
  in_perm (trans p q) h = in_perm q (in_perm p h)

  -- what stands at a place
  pub in_get_d : (l : List A) (i : ℕ) (d : A) → i < length l → In (get_or l i d) l
  in_get_d [] i d h = absurd (omega arith)
  in_get_d (x ∷ l) zero d h = Memᴰ.head refl
  in_get_d (x ∷ l) (suc i) d h = Memᴰ.tail (in_get_d l i d (omega arith))

  pub in_take : (k : ℕ) (l : List A) (a : A) → In a (take k l) → In a l
  in_take k l a h = rw (take-append-drop k l) at (Memᴰ.append_left (drop k l) h)

  pub in_drop : (k : ℕ) (l : List A) (a : A) → In a (drop k l) → In a l
  in_drop k l a h = rw (take-append-drop k l) at (Memᴰ.append_right (take k l) h)

-- ── what is filtered ──

module _ {A : Type 0} (p : A → Bool) where
  retained_in : (l : List A) (a : A) → In a (retained p l) → In a l
  unfolding retained
  retained_in [] a h = h
  retained_in (x ∷ l) a h = go (p x) (λ k. retained_in l a k) h
    where
      step : (In a (retained p l) → In a l) → (a ≡ x) ⊎ In a (retained p l) → In a (x ∷ l)
      step ih (inl e) = Memᴰ.head e
      step ih (inr k) = Memᴰ.tail (ih k)

      go : (t : Bool) → (In a (retained p l) → In a l) → In a (cond t (x ∷ retained p l) (retained p l)) → In a (x ∷ l)
      go true ih k = step ih (in_case k)
      go false ih k = Memᴰ.tail (ih k)

  in_retained : (l : List A) (a : A) → In a l → p a ≡ true → In a (retained p l)
  unfolding retained
  in_retained [] a h e = h
  in_retained (x ∷ l) a h e = go (p x) refl (λ k. in_retained l a k e) (in_case h)
    where
      go : (t : Bool) → p x ≡ t → (In a l → In a (retained p l)) → (a ≡ x) ⊎ In a l → In a (cond t (x ∷ retained p l) (retained p l))
      go true q ih (inl d) = Memᴰ.head d
      go true q ih (inr k) = Memᴰ.tail (ih k)
      go false q ih (inl d) = absurd (true≢false (sym e ∙ ap p d ∙ q))
      go false q ih (inr k) = ih k

  -- what is filtered stood in the list
  pub filtered-of : (l : List A) (a : A) → In a (filtered p l) → In a l
  filtered-of l a h = retained_in l a (in_perm (perm_sym (filtered_perm p l)) h)

  -- what stood in the list and passes is filtered
  pub of-filtered : (l : List A) (a : A) → In a l → p a ≡ true → In a (filtered p l)
  of-filtered l a h e = in_perm (filtered_perm p l) (in_retained l a h e)

-- ── map ──

module _ {A B : Type 0} (f : A → B) where
  reverse_aux_map : (l r : List A) → map f (reverse_aux l r) ≡ reverse_aux (map f l) (map f r)
  reverse_aux_map [] r = refl
  reverse_aux_map (x ∷ l) r = reverse_aux_map l (x ∷ r)

  pub reverse-map : (l : List A) → map f (reverse l) ≡ reverse (map f l)
  reverse-map l = reverse_aux_map l []

  pub perm_map : {s t : List A} → Perm s t → Perm (map f s) (map f t)
  perm_map nil = nil
  perm_map (keep a p) = keep (f a) (perm_map p)
  perm_map (swap a b s) = swap (f a) (f b) (map f s)
  perm_map (trans p q) = trans (perm_map p) (perm_map q)

-- two tests that agree on the list, one of them on the elements' images
module _ {A B : Type 0} (f : A → B) (q : A → Bool) (p : B → Bool) where
  abbrev pub SameTest : List A → Type 0
  SameTest l = (a : A) → In a l → q a ≡ p (f a)

  retained-map : (l : List A) → SameTest l → map f (retained q l) ≡ retained p (map f l)
  unfolding retained
  retained-map [] h = refl
  retained-map (x ∷ l) h = rw (h x (Memᴰ.head refl)) (by (p (f x)) (retained-map l (λ a k. h a (Memᴰ.tail k))))
    where
      by : (t : Bool) → map f (retained q l) ≡ retained p (map f l) → map f (cond t (x ∷ retained q l) (retained q l)) ≡ cond t (f x ∷ retained p (map f l)) (retained p (map f l))
      by true ih = ap (λ (r : List B). f x ∷ r) ih
      by false ih = ih

  fill-map : (l spares : List A) → SameTest l → map f (fill q l spares) ≡ fill p (map f l) (map f spares)
  unfolding fill
  fill-map [] spares h = refl
  fill-map (x ∷ l) [] h = rw (h x (Memᴰ.head refl)) (by (p (f x)) (fill-map l [] (λ a k. h a (Memᴰ.tail k))))
    where
      by : (t : Bool) → map f (fill q l []) ≡ fill p (map f l) [] → map f (cond t (x ∷ fill q l []) (fill q l [])) ≡ cond t (f x ∷ fill p (map f l) []) (fill p (map f l) [])
      by true ih = ap (λ (r : List B). f x ∷ r) ih
      by false ih = ih
  fill-map (x ∷ l) (s ∷ ss) h = rw (h x (Memᴰ.head refl)) (by (p (f x)) (fill-map l (s ∷ ss) (λ a k. h a (Memᴰ.tail k))) (fill-map l ss (λ a k. h a (Memᴰ.tail k))))
    where
      by : (t : Bool) → map f (fill q l (s ∷ ss)) ≡ fill p (map f l) (f s ∷ map f ss) → map f (fill q l ss) ≡ fill p (map f l) (map f ss)
          → map f (cond t (x ∷ fill q l (s ∷ ss)) (s ∷ fill q l ss)) ≡ cond t (f x ∷ fill p (map f l) (f s ∷ map f ss)) (f s ∷ fill p (map f l) (map f ss))
      by true ih jh = ap (λ (r : List B). f x ∷ r) ih
      by false ih jh = ap (λ (r : List B). f s ∷ r) jh

  -- the filter's rule goes by the test alone
  pub filtered-map : (l : List A) → SameTest l → map f (filtered q l) ≡ filtered p (map f l)
  unfolding filtered
  filtered-map l h =
      let k = length (retained q l) in
      let count : length (retained p (map f l)) ≡ k = ap length (sym (retained-map l h)) ∙ length-map (retained q l) f in
      fill-map (take k l) (reverse (retained q (drop k l))) (λ a i. h a (in_take k l a i))
      ∙ rw (count, ← take-map f k l, reverse-map f (retained q (drop k l)), retained-map (drop k l) (λ a i. h a (in_drop k l a i)), sym (drop-map f k l))

-- tests that agree on the list filter it alike
pub filtered-same : {A : Type 0} (q p : A → Bool) (l : List A) → ((a : A) → In a l → q a ≡ p a) → filtered q l ≡ filtered p l
filtered-same {A} q p l h = sym (map-id (filtered q l)) ∙ filtered-map (λ (a : A). a) q p l h ∙ ap (filtered p) (map-id l)
