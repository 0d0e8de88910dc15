-- Laws of the filter's rule: what is filtered is a rearrangement of what is retained; the rule at both ends of a list, which is what a
-- turn of the loop in place does; and of contexts filtered by a set: members, distinctness, length. Assumes nothing.
use mathlib.Core.Path.{◌≡◌, refl, sym, ap, ◌∙◌, subst}
use mathlib.Core.Logic.{◌⊎◌, inl, inr}
use mathlib.Core.Bool.{Bool, true, false, cond}
use mathlib.Core.List.{List, [], ◌∷◌, ◌++◌, reverse, reverse-append, append-nil, map-append}
use Prim.Native.Nat.{ℕ, zero, suc, ◌+◌, ◌-◌, ◌≤◌, ◌<◌}
use native.Mathlib.Omega.{arith}
use native.Mathlib.Nat.{eq-or-lt_of_le}
use native.Mathlib.Numerals.{add-one}
use lib.ListN.{length, take, drop, get_or, set, length-append, length-map, length-set, take-append-drop}
use lib.Seq.{take-append-le, drop-append-le, take-set-le, get_or-set_same, append_snoc}
use Rattle.std.proofs.lemmas.List.{take_more}
use Rattle.syntax.specs.Sets.{elem, ◌∈◌, Distinct}
use Rattle.syntax.specs.Context.{Context, id_of, ids}
use Rattle.syntax.specs.Filter.{retained, fill, filtered, in_set, filter_by_set_lem}
use Rattle.syntax.specs.declared.names.VarId.{VarId}
use Rattle.syntax.proofs.Bools.{Answers}
use Rattle.syntax.proofs.Lists.{rest, rest_cons, rest_end, rest_snoc, rest-set}
use Rattle.syntax.proofs.Members.{elem?}
use Rattle.syntax.proofs.Permutations.{Perm, nil, keep, swap, trans, perm_refl, perm_sym, perm_middle, perm_after, perm_reverse, perm_length}

module _ {A : Type 0} (p : A → Bool) where
  -- ── what is retained ──

  pub retained-++ : (a b : List A) → retained p (a ++ b) ≡ retained p a ++ retained p b
  unfolding retained
  retained-++ [] b = refl
  retained-++ (x ∷ a) b = by (p x) (retained-++ a b)
    where
      by : (t : Bool) → retained p (a ++ b) ≡ retained p a ++ retained p b → cond t (x ∷ retained p (a ++ b)) (retained p (a ++ b)) ≡ cond t (x ∷ retained p a) (retained p a) ++ retained p b
      by true h = ap (λ (l : List A). x ∷ l) h
      by false h = h

  pub retained-fewer : (l : List A) → length (retained p l) ≤ length l
  unfolding retained
  retained-fewer [] = omega arith
  retained-fewer (x ∷ xs) = by (p x) (retained-fewer xs)
    where
      by : (t : Bool) → length (retained p xs) ≤ length xs → length (cond t (x ∷ retained p xs) (retained p xs)) ≤ suc (length xs)
      by true h = omega arith
      by false h = omega arith

  -- ── a rearrangement ──

  fill_perm : (xs spares : List A) → Perm (retained p xs ++ spares) (fill p xs spares)
  unfolding retained fill
  fill_perm [] spares = perm_refl spares
  fill_perm (x ∷ xs) [] = by (p x) (fill_perm xs [])
    where
      by : (t : Bool) → Perm (retained p xs ++ []) (fill p xs []) → Perm (cond t (x ∷ retained p xs) (retained p xs) ++ []) (cond t (x ∷ fill p xs []) (fill p xs []))
      by true ih = keep x ih
      by false ih = ih
  fill_perm (x ∷ xs) (s ∷ ss) = by (p x) (fill_perm xs (s ∷ ss)) (fill_perm xs ss)
    where
      by : (t : Bool) → Perm (retained p xs ++ s ∷ ss) (fill p xs (s ∷ ss)) → Perm (retained p xs ++ ss) (fill p xs ss) →
          Perm (cond t (x ∷ retained p xs) (retained p xs) ++ s ∷ ss) (cond t (x ∷ fill p xs (s ∷ ss)) (s ∷ fill p xs ss))
      by true a b = keep x a
      by false a b = trans (perm_middle s (retained p xs) ss) (keep s b)

  pub filtered_perm : (l : List A) → Perm (retained p l) (filtered p l)
  unfolding filtered
  filtered_perm l =
      let k = length (retained p l) in
      let e : retained p (take k l) ++ retained p (drop k l) ≡ retained p l = sym (retained-++ (take k l) (drop k l)) ∙ ap (retained p) (take-append-drop k l) in
      trans
      (subst (λ (r : List A). Perm r (retained p (take k l) ++ reverse (retained p (drop k l)))) e
      (perm_after (retained p (take k l)) (perm_reverse (retained p (drop k l)))))
      (fill_perm (take k l) (reverse (retained p (drop k l))))

  pub filtered-fewer : (l : List A) → length (filtered p l) ≤ length l
  filtered-fewer l = omega (arith, perm_length (filtered_perm l), retained-fewer l)

  -- ── the rule at both ends of a list ──

  retained_on : (l : List A) (y : A) → p y ≡ true → retained p (l ++ (y ∷ [])) ≡ retained p l ++ (y ∷ [])
  unfolding retained
  retained_on l y e = retained-++ l (y ∷ []) ∙ rw e refl

  retained-drop : (l m : List A) → retained p m ≡ [] → retained p (l ++ m) ≡ retained p l
  retained-drop l m e = retained-++ l m ∙ rw (e, append-nil) refl

  pub filtered_none : filtered p [] ≡ []
  unfolding filtered retained fill
  filtered_none = refl

  -- a first one that is retained stays
  pub filtered_in : (x : A) (l : List A) → p x ≡ true → filtered p (x ∷ l) ≡ x ∷ filtered p l
  unfolding filtered retained fill
  filtered_in x l e = rw e (by (reverse (retained p (drop (length (retained p l)) l))))
    where
      by : (ss : List A) → fill p (x ∷ take (length (retained p l)) l) ss ≡ x ∷ fill p (take (length (retained p l)) l) ss
      by [] = rw e refl
      by (s ∷ ss) = rw e refl

  -- last ones that are not retained go
  pub filtered-drop : (l m : List A) → retained p m ≡ [] → filtered p (l ++ m) ≡ filtered p l
  unfolding filtered
  filtered-drop l m e = rw (
    retained-drop l m e,
    take-append-le (length (retained p l)) l m (retained-fewer l),
    drop-append-le (length (retained p l)) l m (retained-fewer l),
    retained-drop (drop (length (retained p l)) l) m e,
  ) refl

  filtered_off : (l : List A) (y : A) → p y ≡ false → filtered p (l ++ (y ∷ [])) ≡ filtered p l
  unfolding retained
  filtered_off l y e = filtered-drop l (y ∷ []) (rw e refl)

  -- a last one that is retained takes the place of a first one that is not
  pub filtered_on : (x : A) (l : List A) (y : A) → p x ≡ false → p y ≡ true → filtered p (x ∷ (l ++ (y ∷ []))) ≡ y ∷ filtered p l
  unfolding filtered retained fill
  filtered_on x l y e f = rw (
    e,
    retained_on l y f,
    length_snoc (retained p l),
    take-append-le (length (retained p l)) l (y ∷ []) (retained-fewer l),
    drop-append-le (length (retained p l)) l (y ∷ []) (retained-fewer l),
    retained_on (drop (length (retained p l)) l) y f,
    reverse-append (retained p (drop (length (retained p l)) l)) (y ∷ []),
    e,
  ) refl
    where
      length_snoc : (r : List A) → length (r ++ (y ∷ [])) ≡ suc (length r)
      length_snoc r = length-append r (y ∷ []) ∙ add-one _

  -- whatever goes from the first place, the same comes to it
  filtered-first : (x y : A) (l : List A) → p x ≡ false → p y ≡ false → filtered p (x ∷ l) ≡ filtered p (y ∷ l)
  unfolding filtered retained fill
  filtered-first x y l e f = rw (e, f) (by (length (retained p l)))
    where
      first : (xs ss : List A) → fill p (x ∷ xs) ss ≡ fill p (y ∷ xs) ss
      first xs [] = rw (e, f) refl
      first xs (s ∷ ss) = rw (e, f) refl

      by : (k : ℕ) → fill p (take k (x ∷ l)) (reverse (retained p (drop k (x ∷ l)))) ≡ fill p (take k (y ∷ l)) (reverse (retained p (drop k (y ∷ l))))
      by zero = rw (e, f) refl
      by (suc j) = first (take j l) (reverse (retained p (drop j l)))

  filtered-swap : (x : A) (l : List A) (y : A) → p x ≡ false → filtered p (x ∷ (l ++ (y ∷ []))) ≡ filtered p (y ∷ l)
  filtered-swap x l y e = by (p y) refl
    where
      by : (t : Bool) → p y ≡ t → filtered p (x ∷ (l ++ (y ∷ []))) ≡ filtered p (y ∷ l)
      by true f = filtered_on x l y e f ∙ sym (filtered_in y l f)
      by false f = filtered_off (x ∷ l) y f ∙ filtered-first x y l e f

  -- ── the loop in place: i places are done, and what is left is from i to n ──

  pub record Filtering (whole : List A) (l : List A) (n i : ℕ) : Type 0 where
    pub within : n ≤ length l
    pub below : i ≤ n
    pub rule : whole ≡ take i l ++ filtered p (rest l n i)

  pub filtering-start : (l : List A) (n : ℕ) → n ≤ length l → Filtering (filtered p (take n l)) l n 0
  filtering-start l n h = record { within = h; below = omega arith; rule = refl }

  -- the one at i stays
  pub filtering_in : {whole l : List A} {n i : ℕ} (d : A) → i < n → p (get_or l i d) ≡ true → Filtering whole l n i → Filtering whole l n (i + 1)
  filtering_in {whole} {l} {n} {i} d h e s = record {
    within = s.within;
    below = omega arith;
    rule = s.rule ∙ rw (rest_cons l n i d h s.within, filtered_in (get_or l i d) (rest l n (i + 1)) e, take_more l i d (omega (arith, s.within)))
        (sym (append_snoc (take i l) (get_or l i d) _));
  }

  swapped : (l : List A) (m i : ℕ) (d : A) → i ≤ m → m < length l → p (get_or l i d) ≡ false →
      filtered p (rest l (suc m) i) ≡ filtered p (rest (set l i (get_or l m d)) m i)
  swapped l m i d h k e = by (eq-or-lt_of_le h)
    where
      by : (i ≡ m) ⊎ (i < m) → filtered p (rest l (suc m) i) ≡ filtered p (rest (set l i (get_or l m d)) m i)
      by (inl q) = rw (rest_snoc l m i d h k, rest_end l m i (omega (arith, q)), rest_end (set l i (get_or l m d)) m i (omega (arith, q))) (filtered_off [] (get_or l m d) (rw (← q) e))
      by (inr q) =
          ap (filtered p) (rest_cons l (suc m) i d (omega arith) (omega arith) ∙ ap (λ (t : List A). get_or l i d ∷ t) (rest_snoc l m (i + 1) d (omega arith) k)) ∙
          filtered-swap (get_or l i d) (rest l m (i + 1)) (get_or l m d) e ∙
          ap (filtered p) (sym (rest_cons (set l i (get_or l m d)) m i d q (rw length-set (omega arith)) ∙
          rw (get_or-set_same l i (get_or l m d) d (omega arith), rest-set l m i (get_or l m d) q) refl))

  -- the one at i goes, and the last comes to its place
  pub filtering-out : {whole l : List A} {n i : ℕ} (d : A) → i < n → p (get_or l i d) ≡ false → Filtering whole l n i → Filtering whole (set l i (get_or l (n - 1) d)) (n - 1) i
  filtering-out {whole} {l} {n} {i} d h e s =
      let q : n ≡ suc (n - 1) = omega arith in
      let k = s.within in
      record {
        within = rw length-set (omega arith);
        below = omega arith;
        rule = s.rule ∙ ap (λ (t : ℕ). take i l ++ filtered p (rest l t i)) q ∙
            rw (take-set-le i l i (get_or l (n - 1) d) (omega arith), swapped l (n - 1) i d (omega arith) (omega arith) e) refl;
      }

  -- the loop has ended: the first n are the whole
  pub filtering-done : {whole l : List A} {n i : ℕ} → n ≤ i → Filtering whole l n i → take n l ≡ whole
  filtering-done {whole} {l} {n} {i} h s =
      let q : i ≡ n = omega (arith, s.below) in
      sym (s.rule ∙ rw (rest_end l n i h, filtered_none, append-nil, q) refl)

-- ── contexts filtered by a set ──

pub ids-++ : (Γ Δ : Context) → ids (Γ ++ Δ) ≡ ids Γ ++ ids Δ
ids-++ Γ Δ = map-append id_of Γ Δ

pub ids-length : (Γ : Context) → length (ids Γ) ≡ length Γ
ids-length Γ = length-map Γ id_of

pub perm_in : {s t : Context} → Perm s t → (x : VarId) → x ∈ ids s → x ∈ ids t
perm_in nil x h = h
perm_in (keep a p) x (inl e) = inl e
perm_in (keep a p) x (inr m) = inr (perm_in p x m)
perm_in (swap a b s) x (inl e) = inr (inl e)
perm_in (swap a b s) x (inr (inl e)) = inl e
perm_in (swap a b s) x (inr (inr m)) = inr (inr m)
perm_in (trans p q) x h = perm_in q x (perm_in p x h)

pub perm_distinct : {s t : Context} → Perm s t → Distinct (ids s) → Distinct (ids t)
perm_distinct nil d = d
perm_distinct (keep a p) d = (λ m. d.0 (perm_in (perm_sym p) (id_of a) m), perm_distinct p d.1)
perm_distinct (swap a b s) d = (apart, (λ m. d.0 (inr m), d.1.1))
  where
    apart : ¬ (id_of b ∈ (id_of a ∷ ids s))
    apart (inl e) = d.0 (inl (sym e))
    apart (inr m) = d.1.0 m
perm_distinct (trans p q) d = perm_distinct q (perm_distinct p d)

retained_in : (s : List VarId) (Γ : Context) (x : VarId) → x ∈ ids (retained (in_set s) Γ) → x ∈ ids Γ
unfolding retained
retained_in s [] x h = h
retained_in s (b ∷ Γ) x h = go (in_set s b) (λ m. retained_in s Γ x m) h
  where
    go : (t : Bool) → (x ∈ ids (retained (in_set s) Γ) → x ∈ ids Γ) → x ∈ ids (cond t (b ∷ retained (in_set s) Γ) (retained (in_set s) Γ)) → x ∈ ids (b ∷ Γ)
    go true ih (inl e) = inl e
    go true ih (inr m) = inr (ih m)
    go false ih m = inr (ih m)

in_retained : (s : List VarId) (Γ : Context) (x : VarId) → x ∈ ids Γ → x ∈ s → x ∈ ids (retained (in_set s) Γ)
unfolding retained
in_retained s [] x h k = h
in_retained s (b ∷ Γ) x h k = go (elem? (id_of b) s) (λ m. in_retained s Γ x m k) h
  where
    go : Answers (elem (id_of b) s) (id_of b ∈ s) → (x ∈ ids Γ → x ∈ ids (retained (in_set s) Γ)) → x ∈ ids (b ∷ Γ) → x ∈ ids (retained (in_set s) (b ∷ Γ))
    go (inl p) ih (inl e) = rw p.0 (inl e)
    go (inl p) ih (inr m) = rw p.0 (inr (ih m))
    go (inr p) ih (inl e) = absurd (p.1 (subst (λ (z : VarId). z ∈ s) e k))
    go (inr p) ih (inr m) = rw p.0 (ih m)

retained-distinct : (s : List VarId) (Γ : Context) → Distinct (ids Γ) → Distinct (ids (retained (in_set s) Γ))
unfolding retained
retained-distinct s [] d = d
retained-distinct s (b ∷ Γ) d = go (in_set s b) (retained-distinct s Γ d.1)
  where
    go : (t : Bool) → Distinct (ids (retained (in_set s) Γ)) → Distinct (ids (cond t (b ∷ retained (in_set s) Γ) (retained (in_set s) Γ)))
    go true ih = (λ m. d.0 (retained_in s Γ (id_of b) m), ih)
    go false ih = ih

-- what is filtered stood in the context
pub filter_in : (s : List VarId) (Γ : Context) (x : VarId) → x ∈ ids (filter_by_set_lem s Γ) → x ∈ ids Γ
filter_in s Γ x h = retained_in s Γ x (perm_in (perm_sym (filtered_perm (in_set s) Γ)) x h)

-- what stood in the context and is in the set is filtered
pub in_filter : (s : List VarId) (Γ : Context) (x : VarId) → x ∈ ids Γ → x ∈ s → x ∈ ids (filter_by_set_lem s Γ)
in_filter s Γ x h k = perm_in (filtered_perm (in_set s) Γ) x (in_retained s Γ x h k)

pub filter-keeps-distinct : (s : List VarId) (Γ : Context) → Distinct (ids Γ) → Distinct (ids (filter_by_set_lem s Γ))
filter-keeps-distinct s Γ d = perm_distinct (filtered_perm (in_set s) Γ) (retained-distinct s Γ d)

pub filter-fewer : (s : List VarId) (Γ : Context) → length (filter_by_set_lem s Γ) ≤ length Γ
filter-fewer s Γ = filtered-fewer (in_set s) Γ
