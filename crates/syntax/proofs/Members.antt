-- Laws of sets of IDs: the tests `elem` and `distinct` answer for `◌∈◌` and `Distinct`; members of `++` and `without`. Assumes nothing.
use mathlib.Core.Path.{◌≡◌, refl, sym, subst}
use mathlib.Core.Logic.{◌⊎◌, inl, inr}
use mathlib.Core.Bool.{Bool, true, false}
use mathlib.Core.List.{List, [], ◌∷◌, ◌++◌}
use native.Mathlib.Omega.{arith}
use lib.Dec.{T, eqb→eq, eqb_refl}
use Rattle.std.specs.List.{list_any}
use Rattle.std.proofs.lemmas.Bool.Decides.{nat_tests}
use Rattle.syntax.specs.Names.{same_var_id}
use Rattle.syntax.specs.Sets.{elem, ◌∈◌, without, distinct, Distinct}
use Rattle.syntax.specs.declared.names.VarId.{VarId}
use Rattle.syntax.proofs.Bools.{Answers}

-- ── equality of IDs ──

-- IDs are equal where their numbers are
pub number_eq : (x y : VarId) → x.0 ≡ y.0 → x ≡ y
number_eq x y p = λ i. record { 0 = p i }

pub same? : (x y : VarId) → Answers (same_var_id x y) (x ≡ y)
same? x y = go (same_var_id x y) refl
  where
    go : (b : Bool) → same_var_id x y ≡ b → Answers (same_var_id x y) (x ≡ y)
    go true e = inl (e, number_eq x y (eqb→eq x.0 y.0 (subst T (sym e) tt)))
    go false e = inr (e, λ p. subst T e (subst (λ (z : VarId). T (same_var_id x z)) p (eqb_refl x.0)))

pub same_self : (x : VarId) → same_var_id x x ≡ true
same_self x = go (same? x x)
  where
    go : Answers (same_var_id x x) (x ≡ x) → same_var_id x x ≡ true
    go (inl p) = p.0
    go (inr p) = absurd (p.1 refl)

pub same_differ : (x y : VarId) → ¬ (x ≡ y) → same_var_id x y ≡ false
same_differ x y n = go (same? x y)
  where
    go : Answers (same_var_id x y) (x ≡ y) → same_var_id x y ≡ false
    go (inl p) = absurd (n p.1)
    go (inr p) = p.0

same_comm : (x y : VarId) → same_var_id x y ≡ same_var_id y x
same_comm x y = grind (arith, nat_tests)

-- ── membership ──

pub elem? : (x : VarId) (s : List VarId) → Answers (elem x s) (x ∈ s)
elem? x [] = inr (refl, λ h. h)
elem? x (y ∷ s) = go (same? x y) (elem? x s)
  where
    go : Answers (same_var_id x y) (x ≡ y) → Answers (elem x s) (x ∈ s) → Answers (elem x (y ∷ s)) (x ∈ (y ∷ s))
    go (inl p) q = inl (rw p.0, inl p.1)
    go (inr p) (inl q) = inl (rw p.0 q.0, inr q.1)
    go (inr p) (inr q) = inr (rw p.0 q.0, neither)
      where
        neither : ¬ (x ∈ (y ∷ s))
        neither (inl e) = p.1 e
        neither (inr m) = q.1 m

pub elem_true : (x : VarId) (s : List VarId) → x ∈ s → elem x s ≡ true
elem_true x s h = go (elem? x s)
  where
    go : Answers (elem x s) (x ∈ s) → elem x s ≡ true
    go (inl p) = p.0
    go (inr p) = absurd (p.1 h)

pub elem_false : (x : VarId) (s : List VarId) → ¬ (x ∈ s) → elem x s ≡ false
elem_false x s h = go (elem? x s)
  where
    go : Answers (elem x s) (x ∈ s) → elem x s ≡ false
    go (inl p) = absurd (h p.1)
    go (inr p) = p.0

pub distinct_true : (s : List VarId) → Distinct s → distinct s ≡ true
distinct_true [] d = refl
distinct_true (x ∷ s) d = rw (elem_false x s d.0, distinct_true s d.1)

-- the search of a slice asks the other way round
pub list_any-elem : (x : VarId) (s : List VarId) → list_any (λ (y : VarId). same_var_id y x) s ≡ elem x s
list_any-elem x [] = refl
list_any-elem x (y ∷ s) = rw (same_comm y x, list_any-elem x s)

-- ── members of a join ──

pub ∈_left : (x : VarId) (s t : List VarId) → x ∈ s → x ∈ (s ++ t)
∈_left x [] t h = absurd h
∈_left x (y ∷ s) t (inl e) = inl e
∈_left x (y ∷ s) t (inr h) = inr (∈_left x s t h)

pub ∈_right : (x : VarId) (s t : List VarId) → x ∈ t → x ∈ (s ++ t)
∈_right x [] t h = h
∈_right x (y ∷ s) t h = inr (∈_right x s t h)

pub ∈_split : (x : VarId) (s t : List VarId) → x ∈ (s ++ t) → (x ∈ s) ⊎ (x ∈ t)
∈_split x [] t h = inr h
∈_split x (y ∷ s) t (inl e) = inl (inl e)
∈_split x (y ∷ s) t (inr h) = go (∈_split x s t h)
  where
    go : (x ∈ s) ⊎ (x ∈ t) → (x ∈ (y ∷ s)) ⊎ (x ∈ t)
    go (inl m) = inl (inr m)
    go (inr m) = inr m

pub Distinct-++ : (s t : List VarId) → Distinct s → Distinct t → ((x : VarId) → x ∈ s → x ∈ t → ⊥) → Distinct (s ++ t)
Distinct-++ [] t ds dt apart = dt
Distinct-++ (x ∷ s) t ds dt apart = (away, Distinct-++ s t ds.1 dt (λ y hs ht. apart y (inr hs) ht))
  where
    away : ¬ (x ∈ (s ++ t))
    away h = go (∈_split x s t h)
      where
        go : (x ∈ s) ⊎ (x ∈ t) → ⊥
        go (inl m) = ds.0 m
        go (inr m) = apart x (inl refl) m

-- ── members of a difference ──

pub ∈_without : (x : VarId) (s r : List VarId) → x ∈ s → ¬ (x ∈ r) → x ∈ without s r
∈_without x [] r h n = h
∈_without x (y ∷ s) r h n = go (λ m. ∈_without x s r m n) (elem? y r) h
  where
    go : (x ∈ s → x ∈ without s r) → Answers (elem y r) (y ∈ r) → x ∈ (y ∷ s) → x ∈ without (y ∷ s) r
    go ih (inl p) (inl e) = absurd (n (subst (λ (z : VarId). z ∈ r) (sym e) p.1))
    go ih (inl p) (inr m) = rw p.0 (ih m)
    go ih (inr p) (inl e) = rw p.0 (inl e)
    go ih (inr p) (inr m) = rw p.0 (inr (ih m))

pub without-∈ : (x : VarId) (s r : List VarId) → x ∈ without s r → (x ∈ s) × ¬ (x ∈ r)
without-∈ x [] r h = absurd h
without-∈ x (y ∷ s) r h = go (λ m. without-∈ x s r m) (elem? y r)
  where
    both : (x ∈ without s r → (x ∈ s) × ¬ (x ∈ r)) → ¬ (y ∈ r) → x ∈ (y ∷ without s r) → (x ∈ (y ∷ s)) × ¬ (x ∈ r)
    both ih n (inl e) = (inl e, λ m. n (subst (λ (z : VarId). z ∈ r) e m))
    both ih n (inr m) = (inr (ih m).0, (ih m).1)

    go : (x ∈ without s r → (x ∈ s) × ¬ (x ∈ r)) → Answers (elem y r) (y ∈ r) → (x ∈ (y ∷ s)) × ¬ (x ∈ r)
    go ih (inl p) = let m = ih (rw p.0 at h) in (inr m.0, m.1)
    go ih (inr p) = both ih p.1 (rw p.0 at h)
