-- Laws of fresh IDs and of `freshen`: what comes out, and a place at a time, for the loop in place. Assumes nothing.
use mathlib.Core.Path.{◌≡◌, refl, sym, ap, ◌∙◌, subst}
use mathlib.Core.Logic.{◌⊎◌, inl, inr}
use mathlib.Core.Bool.{Bool, true, false}
use mathlib.Core.List.{List, [], ◌∷◌, ◌++◌, append-nil}
use Prim.Native.Nat.{ℕ, suc, ◌+◌, ◌*◌, ◌≤◌, ◌<◌}
use native.Mathlib.Omega.{arith}
use lib.ListN.{length, take, get_or, set, length-set}
use lib.Seq.{append_snoc}
use Rattle.std.proofs.lemmas.List.{take_more, take_more_set}
use Rattle.syntax.specs.Sets.{elem, ◌∈◌, Distinct}
use Rattle.syntax.specs.Context.{Context, id_of, ids}
use Rattle.syntax.specs.Fresh.{fresh, drawn, prepend, freshen}
use Rattle.syntax.specs.declared.names.VarId.{VarId}
use Rattle.syntax.specs.declared.context.ContextBinding.{ContextBinding}
use Rattle.syntax.proofs.Bools.{Answers}
use Rattle.syntax.proofs.Lists.{rest, rest_cons, rest_end, rest-set}
use Rattle.syntax.proofs.Members.{elem?, ∈_left, ∈_right, ∈_split}

-- ── all that is known of the rule for fresh IDs ──

pub fresh-above : (m : ℕ) → m < fresh m
unfolding fresh
fresh-above m = omega arith

pub fresh-near : (m : ℕ) → fresh m ≤ m + 2
unfolding fresh
fresh-near m = omega arith

-- ── what comes out of `freshen` ──

-- T is W with fresh IDs for what clashes with C: drawn above m and up to m₁
pub record Renamed (W : Context) (C : List VarId) (m : ℕ) (T : Context) (m₁ : ℕ) : Type 0 where
  pub count : length W ≡ length T
  pub distinct : Distinct (ids T)
  pub apart : (x : VarId) → x ∈ ids T → x ∈ C → ⊥
  pub from : (x : VarId) → x ∈ ids T → (x ∈ ids W) ⊎ (m < x.0)
  pub up_to : (x : VarId) → x ∈ ids T → x.0 ≤ m₁
  pub grows : m ≤ m₁

module _ (b : ContextBinding) (W : Context) (C : List VarId) (m : ℕ) (T : Context) (m₁ : ℕ)
    (hw : (x : VarId) → x ∈ ids (b ∷ W) → x.0 ≤ m) (hc : (x : VarId) → x ∈ C → x.0 ≤ m) where
  -- the ID of the binding drawn first
  abbrev new : VarId
  new = id_of (drawn m b)

  renamed-drawn : Renamed W C (fresh m) T m₁ → Renamed (b ∷ W) C m (drawn m b ∷ T) m₁
  renamed-drawn f = record { count = ap suc f.count; distinct = (not_later, f.distinct); apart = apart; from = from; up_to = up_to; grows = omega (arith, fresh-above m, f.grows) }
    where
      not_later : ¬ (new ∈ ids T)
      not_later h = go (f.from new h)
        where
          go : (new ∈ ids W) ⊎ (fresh m < new.0) → ⊥
          go (inl k) = omega (arith, hw new (inr k), fresh-above m)
          go (inr k) = omega arith

      apart : (x : VarId) → x ∈ (new ∷ ids T) → x ∈ C → ⊥
      apart x (inl e) k = omega (arith, hc x k, fresh-above m, ap (λ (y : VarId). y.0) e)
      apart x (inr h) k = f.apart x h k

      from : (x : VarId) → x ∈ (new ∷ ids T) → (x ∈ ids (b ∷ W)) ⊎ (m < x.0)
      from x (inl e) = inr (omega (arith, fresh-above m, ap (λ (y : VarId). y.0) e))
      from x (inr h) = go (f.from x h)
        where
          go : (x ∈ ids W) ⊎ (fresh m < x.0) → (x ∈ ids (b ∷ W)) ⊎ (m < x.0)
          go (inl k) = inl (inr k)
          go (inr k) = inr (omega (arith, fresh-above m))

      up_to : (x : VarId) → x ∈ (new ∷ ids T) → x.0 ≤ m₁
      up_to x (inl e) = omega (arith, f.grows, ap (λ (y : VarId). y.0) e)
      up_to x (inr h) = f.up_to x h

  renamed-kept : ¬ (id_of b ∈ C) → Renamed W (C ++ (id_of b ∷ [])) m T m₁ → Renamed (b ∷ W) C m (b ∷ T) m₁
  renamed-kept n f = record { count = ap suc f.count; distinct = (λ h. f.apart (id_of b) h (∈_right (id_of b) C (id_of b ∷ []) (inl refl)), f.distinct); apart = apart; from = from; up_to = up_to; grows = f.grows }
    where
      apart : (x : VarId) → x ∈ ids (b ∷ T) → x ∈ C → ⊥
      apart x (inl e) k = n (subst (λ (z : VarId). z ∈ C) e k)
      apart x (inr h) k = f.apart x h (∈_left x C (id_of b ∷ []) k)

      from : (x : VarId) → x ∈ ids (b ∷ T) → (x ∈ ids (b ∷ W)) ⊎ (m < x.0)
      from x (inl e) = inl (inl e)
      from x (inr h) = go (f.from x h)
        where
          go : (x ∈ ids W) ⊎ (m < x.0) → (x ∈ ids (b ∷ W)) ⊎ (m < x.0)
          go (inl k) = inl (inr k)
          go (inr k) = inr k

      up_to : (x : VarId) → x ∈ ids (b ∷ T) → x.0 ≤ m₁
      up_to x (inl e) = omega (arith, hw x (inl e), f.grows)
      up_to x (inr h) = f.up_to x h

pub freshen_renames : (W : Context) (C : List VarId) (m : ℕ) → ((x : VarId) → x ∈ ids W → x.0 ≤ m) → ((x : VarId) → x ∈ C → x.0 ≤ m) →
    Renamed W C m (freshen W C m).0 (freshen W C m).1
unfolding freshen
freshen_renames [] C m hw hc = record { count = refl; distinct = tt; apart = λ x h. absurd h; from = λ x h. absurd h; up_to = λ x h. absurd h; grows = omega arith }
freshen_renames (b ∷ W) C m hw hc =
    go (elem? (id_of b) C)
    (freshen_renames W C (fresh m) (λ x h. omega (arith, hw x (inr h), fresh-above m)) (λ x h. omega (arith, hc x h, fresh-above m)))
    (λ k. freshen_renames W (C ++ (id_of b ∷ [])) m (λ x h. hw x (inr h)) k)
  where
    small : (x : VarId) → x ∈ (C ++ (id_of b ∷ [])) → x.0 ≤ m
    small x h = of (∈_split x C (id_of b ∷ []) h)
      where
        of : (x ∈ C) ⊎ (x ∈ (id_of b ∷ [])) → x.0 ≤ m
        of (inl k) = hc x k
        of (inr (inl e)) = hw x (inl e)
        of (inr (inr k)) = absurd k

    go : Answers (elem (id_of b) C) (id_of b ∈ C)
        → Renamed W C (fresh m) (freshen W C (fresh m)).0 (freshen W C (fresh m)).1
        → (((x : VarId) → x ∈ (C ++ (id_of b ∷ [])) → x.0 ≤ m) → Renamed W (C ++ (id_of b ∷ [])) m (freshen W (C ++ (id_of b ∷ [])) m).0 (freshen W (C ++ (id_of b ∷ [])) m).1)
        → Renamed (b ∷ W) C m (freshen (b ∷ W) C m).0 (freshen (b ∷ W) C m).1
    go (inl p) f g = rw (p.0, freshen) (renamed-drawn b W C m _ _ hw hc f)
    go (inr p) f g = rw (p.0, freshen) (renamed-kept b W C m _ _ hw hc p.1 (g small))

-- ── a binding at a time ──

pub freshen-clash : (b : ContextBinding) (Γ : Context) (C : List VarId) (m : ℕ) → elem (id_of b) C ≡ true →
    freshen (b ∷ Γ) C m ≡ prepend (drawn m b) (freshen Γ C (fresh m))
unfolding freshen
freshen-clash b Γ C m e = rw (e, freshen)

pub freshen-kept : (b : ContextBinding) (Γ : Context) (C : List VarId) (m : ℕ) → elem (id_of b) C ≡ false →
    freshen (b ∷ Γ) C m ≡ prepend b (freshen Γ (C ++ (id_of b ∷ [])) m)
unfolding freshen
freshen-kept b Γ C m e = rw (e, freshen)

pub freshen_none : (C : List VarId) (m : ℕ) → freshen [] C m ≡ ([], m)
unfolding freshen
freshen_none C m = refl

pub freshen-length : (Γ : Context) (C : List VarId) (m : ℕ) → length (freshen Γ C m).0 ≡ length Γ
freshen-length [] C m = rw freshen_none
freshen-length (b ∷ Γ) C m = go (elem (id_of b) C) refl (freshen-length Γ C (fresh m)) (freshen-length Γ (C ++ (id_of b ∷ [])) m)
  where
    go : (t : Bool) → elem (id_of b) C ≡ t → length (freshen Γ C (fresh m)).0 ≡ length Γ → length (freshen Γ (C ++ (id_of b ∷ [])) m).0 ≡ length Γ →
        length (freshen (b ∷ Γ) C m).0 ≡ suc (length Γ)
    go true e h k = rw (freshen-clash b Γ C m e) (ap suc h)
    go false e h k = rw (freshen-kept b Γ C m e) (ap suc k)

-- IDs only grow
pub freshen-grows : (Γ : Context) (C : List VarId) (m : ℕ) → m ≤ (freshen Γ C m).1
freshen-grows [] C m = rw freshen_none (omega arith)
freshen-grows (b ∷ Γ) C m = go (elem (id_of b) C) refl (freshen-grows Γ C (fresh m)) (freshen-grows Γ (C ++ (id_of b ∷ [])) m)
  where
    go : (t : Bool) → elem (id_of b) C ≡ t → fresh m ≤ (freshen Γ C (fresh m)).1 → m ≤ (freshen Γ (C ++ (id_of b ∷ [])) m).1 → m ≤ (freshen (b ∷ Γ) C m).1
    go true e h k = rw (freshen-clash b Γ C m e) (omega (arith, fresh-above m))
    go false e h k = rw (freshen-kept b Γ C m e) k

-- and by at most two for each binding
pub freshen-near : (Γ : Context) (C : List VarId) (m : ℕ) → (freshen Γ C m).1 ≤ m + 2 * length Γ
freshen-near [] C m = rw freshen_none (omega arith)
freshen-near (b ∷ Γ) C m = go (elem (id_of b) C) refl (freshen-near Γ C (fresh m)) (freshen-near Γ (C ++ (id_of b ∷ [])) m)
  where
    go : (t : Bool) → elem (id_of b) C ≡ t → (freshen Γ C (fresh m)).1 ≤ fresh m + 2 * length Γ → (freshen Γ (C ++ (id_of b ∷ [])) m).1 ≤ m + 2 * length Γ →
        (freshen (b ∷ Γ) C m).1 ≤ m + 2 * suc (length Γ)
    go true e h k = rw (freshen-clash b Γ C m e) (omega (arith, fresh-near m))
    go false e h k = rw (freshen-kept b Γ C m e) (omega arith)

-- ── the loop in place: i places are done, and what is left is from i to n ──

pub record Freshening (whole : Context × ℕ) (seen : List VarId) (m : ℕ) (l : Context) (n i : ℕ) : Type 0 where
  pub within : n ≤ length l
  pub below : i ≤ n
  pub list : whole.0 ≡ take i l ++ (freshen (rest l n i) seen m).0
  pub closing : whole.1 ≡ (freshen (rest l n i) seen m).1

module _ {whole : Context × ℕ} {seen : List VarId} {m : ℕ} {l : Context} {n i : ℕ} (d : ContextBinding) (h : i < n) (s : Freshening whole seen m l n i) where
  left-clash : elem (id_of (get_or l i d)) seen ≡ true → freshen (rest l n i) seen m ≡ prepend (drawn m (get_or l i d)) (freshen (rest l n (i + 1)) seen (fresh m))
  left-clash e = rw (rest_cons l n i d h s.within) (freshen-clash (get_or l i d) (rest l n (i + 1)) seen m e)

  left-kept : elem (id_of (get_or l i d)) seen ≡ false → freshen (rest l n i) seen m ≡ prepend (get_or l i d) (freshen (rest l n (i + 1)) (seen ++ (id_of (get_or l i d) ∷ [])) m)
  left-kept e = rw (rest_cons l n i d h s.within) (freshen-kept (get_or l i d) (rest l n (i + 1)) seen m e)

  -- a draw on the way is no more than the closing max_id
  pub freshening-fits : elem (id_of (get_or l i d)) seen ≡ true → fresh m ≤ whole.1
  freshening-fits e = omega (arith, s.closing, ap (λ (w : Context × ℕ). w.1) (left-clash e), freshen-grows (rest l n (i + 1)) seen (fresh m))

  -- the one at i takes a fresh ID
  pub freshening-clash : (r : ContextBinding) → r ≡ drawn m (get_or l i d) → elem (id_of (get_or l i d)) seen ≡ true → Freshening whole seen (id_of r).0 (set l i r) n (i + 1)
  freshening-clash r f e = record {
    within = rw length-set s.within;
    below = omega arith;
    list = s.list ∙ rw (f, left-clash e, rest-set l n i (drawn m (get_or l i d)) h, take_more_set l i (drawn m (get_or l i d)) (omega (arith, s.within)))
        (sym (append_snoc (take i l) (drawn m (get_or l i d)) _));
    closing = s.closing ∙ rw (f, left-clash e, rest-set l n i (drawn m (get_or l i d)) h) refl;
  }

  -- the one at i stays, and is seen from then on
  pub freshening-kept : (seen' : List VarId) → seen' ≡ seen ++ (id_of (get_or l i d) ∷ []) → elem (id_of (get_or l i d)) seen ≡ false → Freshening whole seen' m l n (i + 1)
  freshening-kept seen' f e = record {
    within = s.within;
    below = omega arith;
    list = s.list ∙ rw (f, left-kept e, take_more l i d (omega (arith, s.within))) (sym (append_snoc (take i l) (get_or l i d) _));
    closing = s.closing ∙ rw (f, left-kept e) refl;
  }

module _ {whole : Context × ℕ} {seen : List VarId} {m : ℕ} {l : Context} {n i : ℕ} (h : n ≤ i) (s : Freshening whole seen m l n i) where
  -- the loop has ended: the first n are the whole
  pub freshening-done : take n l ≡ whole.0
  freshening-done =
      let q : i ≡ n = omega (arith, s.below) in
      sym (s.list ∙ rw (rest_end l n i h, freshen_none, append-nil, q) refl)

  pub freshening-max : m ≡ whole.1
  freshening-max = sym (s.closing ∙ rw (rest_end l n i h, freshen_none) refl)
