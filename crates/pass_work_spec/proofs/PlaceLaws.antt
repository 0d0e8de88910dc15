-- Entries keep their places: in what is kept, moved and put under fresh names, and where binders come into scope; and what is kept can be
-- told by the places. Assumes nothing.
use mathlib.Core.Path.{◌≡◌, refl, sym, ap, ◌∙◌, subst}
use mathlib.Core.Logic.{◌⊎◌, inl, inr}
use mathlib.Core.Bool.{Bool, true, false, cond}
use mathlib.Core.List.Memᴰ
use mathlib.Core.List.{List, [], ◌∷◌, ◌++◌, append_assoc}
use Prim.Native.Nat.{ℕ, ◌+◌, ◌<◌}
use native.Mathlib.Omega.{arith}
use lib.ListN.{length, get_or, length-append, length-map, get_or-append}
use lib.Seq.{get_or_at}
use Rattle.syntax.specs.Context.{Context, id_of, ids}
use Rattle.syntax.specs.Sets.{elem}
use Rattle.syntax.specs.Filter.{filtered}
use Rattle.syntax.specs.declared.names.VarId.{VarId}
use Rattle.syntax.specs.declared.context.ContextBinding.{ContextBinding}
use Rattle.syntax.proofs.Permutations.{perm_sym}
use Rattle.pass_work_spec.specs.declared.Entry.{Entry}
use Rattle.pass_work_spec.specs.Work.{Work, own, owns, kept, moved_behind, respelled_unless}
use Rattle.pass_work_spec.specs.Placed.{PlacedAt, Placed}
use Rattle.pass_work_spec.proofs.Lists.{In, in_case, in_perm, in_get_d, filtered-same}
use Rattle.pass_work_spec.proofs.Entries.{kept_of, moved_behind_perm, From, respelled-from}
use Rattle.pass_work_spec.proofs.Lengths.{kept-fewer, moved_length, respelled-fewer, owns-length, joined_length}

-- ── the same scope ──

module _ {Δ : List VarId} {W : Work} (p : Placed Δ W) where
  pub placed_index : (i : ℕ) (d : Entry) → i < length W → PlacedAt Δ (get_or W i d)
  placed_index i d h = p.each (get_or W i d) (in_get_d W i d h)

  pub placed-kept : (s : List VarId) → Placed Δ (kept s W)
  placed-kept s = record { fits = omega (arith, kept-fewer s W); each = λ e h. p.each e (kept_of s W e h) }

  pub placed-moved : (j : ℕ) → Placed Δ (moved_behind j W)
  placed-moved j = record { fits = omega (arith, moved_length j W); each = λ e h. p.each e (in_perm (perm_sym (moved_behind_perm j W)) h) }

  pub placed-fresh : (right : Bool) (T : Context) → Placed Δ (respelled_unless right W T)
  unfolding respelled_unless
  placed-fresh true T = p
  placed-fresh false T = record { fits = omega (arith, respelled-fewer W T); each = λ e h. from e (respelled-from W T e h) }
    where
      from : (e : Entry) → From W T e → PlacedAt Δ e
      from e f = let a = p.each f.old f.is_in in record { below = rw f.place a.below; source = λ d. rw (f.place, f.source) (a.source d) }

  -- a test of places that says which variables in scope are in the set keeps what the set keeps
  pub kept-by-place : (s : List VarId) (t : ℕ → Bool) → ((i : ℕ) → i < length Δ → (d : VarId) → t i ≡ elem (get_or Δ i d) s) → filtered (λ (e : Entry). t e.place) W ≡ kept s W
  kept-by-place s t f =
      filtered-same (λ (e : Entry). t e.place) (λ (e : Entry). elem e.source s) W λ e h.
      let a = p.each e h in
      f e.place a.below e.source ∙ ap (λ (x : VarId). elem x s) (a.source e.source)

-- ── binders in scope ──

-- what is in scope stays at its place
placed-more : (Δ xs : List VarId) (e : Entry) → PlacedAt Δ e → PlacedAt (Δ ++ xs) e
placed-more Δ xs e a = record { below = omega (arith, length-append Δ xs, a.below); source = λ d. get_or-append Δ xs d e.place a.below ∙ a.source d }

-- the binders, from the place behind the scope on
owns-placed : (Δ : List VarId) (n : ℕ) (ps : Context) → length Δ ≡ n → (e : Entry) → In e (owns n ps) → PlacedAt (Δ ++ ids ps) e
owns-placed Δ n [] q e h = absurd (Memᴰ.not-nil h)
owns-placed Δ n (b ∷ ps) q e h = go (λ k. owns-placed (Δ ++ (id_of b ∷ [])) (n + 1) ps (omega (arith, length-append Δ (id_of b ∷ []))) e k) (in_case h)
  where
    first : PlacedAt (Δ ++ (id_of b ∷ ids ps)) (own n b)
    first = record { below = omega (arith, length-append Δ (id_of b ∷ ids ps)); source = λ d. get_or_at Δ (id_of b) (ids ps) d n q }

    go : (In e (owns (n + 1) ps) → PlacedAt ((Δ ++ (id_of b ∷ [])) ++ ids ps) e) → (e ≡ own n b) ⊎ In e (owns (n + 1) ps) → PlacedAt (Δ ++ (id_of b ∷ ids ps)) e
    go ih (inl r) = subst (PlacedAt (Δ ++ (id_of b ∷ ids ps))) (sym r) first
    go ih (inr k) = subst (λ (E : List VarId). PlacedAt E e) (append_assoc Δ (id_of b ∷ []) (ids ps)) (ih k)

module _ {Δ : List VarId} {W : Work} (p : Placed Δ W) (n : ℕ) (q : length Δ ≡ n) where
  -- a clause's parameters, before the context or behind it
  pub placed-joined : (before : Bool) (ps : Context) → Placed (Δ ++ ids ps) (cond before (owns n ps ++ W) (W ++ owns n ps))
  placed-joined before ps = record { fits = omega (arith, joined_length before n ps W, length-append Δ (ids ps), length-map ps id_of, p.fits); each = λ e h. either e (members before e h) }
    where
      either : (e : Entry) → In e W ⊎ In e (owns n ps) → PlacedAt (Δ ++ ids ps) e
      either e (inl h) = placed-more Δ (ids ps) e (p.each e h)
      either e (inr h) = owns-placed Δ n ps q e h

      swapped : (e : Entry) → In e (owns n ps) ⊎ In e W → In e W ⊎ In e (owns n ps)
      swapped e (inl h) = inr h
      swapped e (inr h) = inl h

      members : (t : Bool) (e : Entry) → In e (cond t (owns n ps ++ W) (W ++ owns n ps)) → In e W ⊎ In e (owns n ps)
      members true e h = swapped e (Memᴰ.append_cases (owns n ps) h)
      members false e h = Memᴰ.append_cases W h

  -- a statement's variable, behind the context
  pub placed-behind : (b : ContextBinding) → Placed (Δ ++ (id_of b ∷ [])) (W ++ (own n b ∷ []))
  placed-behind b = placed-joined false (b ∷ [])

-- a body begins with its parameters
pub placed-body : (ps : Context) → Placed (ids ps) (owns 0 ps)
placed-body ps = record { fits = omega (arith, owns-length 0 ps, length-map ps id_of); each = λ e h. owns-placed [] 0 ps refl e h }
