-- What the pass over contexts at work keeps, beside the model's invariant: each entry stands for its source, and each free variable has an
-- entry; and how this is kept when max_id grows, when the context is narrowed or moved, when binders are added, when it is put under
-- fresh names. Assumes nothing.
use mathlib.Core.Path.{◌≡◌, refl, sym, ap, ◌∙◌, subst}
use mathlib.Core.Logic.{◌⊎◌, inl, inr}
use mathlib.Core.Bool.{Bool, true, false, cond}
use mathlib.Core.List.Memᴰ
use mathlib.Core.List.{List, [], ◌∷◌, ◌++◌}
use Prim.Native.Nat.{ℕ, ◌≤◌}
use lib.ListN.{length, length-map}
use Rattle.syntax.specs.Context.{Context, id_of, ids}
use Rattle.syntax.specs.Sets.{elem, ◌∈◌, without}
use Rattle.syntax.specs.Filter.{filter_by_set_lem}
use Rattle.syntax.specs.declared.names.VarId.{VarId}
use Rattle.syntax.specs.declared.context.ContextBinding.{ContextBinding}
use Rattle.syntax.proofs.Bools.{Answers}
use Rattle.syntax.proofs.Members.{elem?, ∈_without, without-∈}
use Rattle.syntax.proofs.Filters.{perm_in, perm_distinct}
use Rattle.syntax.proofs.Permutations.{Perm, perm_sym}
use Rattle.model.specs.Renaming.{Renaming, rename_id, rename_ids, ◌⨾◌, renaming, rename_unless}
use Rattle.model.proofs.Scoping.{◌⊆◌, Binds}
use Rattle.model.proofs.Good.{Good, good-later, good-part, selects_filter, good-behind, good-before, new-unmoved, new-clash}
use Rattle.model.proofs.Rearrange.{Drawn}
use Rattle.model.proofs.Renames.{good-fresh}
use Rattle.pass_work_spec.specs.declared.Entry.{Entry}
use Rattle.pass_work_spec.specs.Work.{Work, bindings, own, owns, kept, moved_behind, respelled_unless}
use Rattle.pass_work_spec.proofs.Lists.{In, in_perm, perm_map}
use Rattle.pass_work_spec.proofs.Entries.{AllStand, Stands, HasEntry, Reads, kept_filters, kept_of, kept-has, moved_behind_perm, bindings-++, owns-bindings}
use Rattle.pass_work_spec.proofs.Entries.{owns-stand, owns-has, respelled-bindings, respelled-stand, respelled-has}

-- with Δ in scope and fv free: the context at work W, at max_id m, does what the model does by the renaming ρ
pub record Standing (M : ℕ) (Δ : List VarId) (ρ : Renaming) (fv : List VarId) (W : Work) (m : ℕ) : Type 0 where
  pub good : Good M Δ ρ (bindings W) m
  pub stand : AllStand ρ W
  pub has : (x : VarId) → x ∈ fv → HasEntry W x

module _ {M : ℕ} {Δ : List VarId} {ρ : Renaming} {fv : List VarId} {W : Work} {m : ℕ} (s : Standing M Δ ρ fv W m) where
  pub later : {m' : ℕ} → m ≤ m' → Standing M Δ ρ fv W m'
  later h = record { good = good-later h s.good; stand = s.stand; has = s.has }

  pub fewer : {fv' : List VarId} → fv' ⊆ fv → Standing M Δ ρ fv' W m
  fewer h = record { good = s.good; stand = s.stand; has = λ x k. s.has x (h x k) }

  -- ── a part of the context ──

  pub kept_is : (z : List VarId) → Reads ρ W z → bindings (kept z W) ≡ filter_by_set_lem (rename_ids ρ z) (bindings W)
  kept_is z r = kept_filters s.good.once s.stand z r

  pub part : (z : List VarId) → Reads ρ W z → {fv' : List VarId} → fv' ⊆ fv → fv' ⊆ z → Standing M Δ ρ fv' (kept z W) m
  part z r sub inz = record {
    good = subst (λ (Γ : Context). Good M Δ ρ Γ m) (sym (kept_is z r)) (good-part s.good (selects_filter (rename_ids ρ z) (bindings W)));
    stand = λ e h. s.stand e (kept_of z W e h);
    has = λ x h. kept-has z W x (s.has x (sub x h)) (inz x h);
  }

  pub moved : (j : ℕ) → Standing M Δ ρ fv (moved_behind j W) m
  moved j =
      let q : Perm W (moved_behind j W) = moved_behind_perm j W in
      let p : Perm (bindings W) (bindings (moved_behind j W)) = perm_map (λ (e : Entry). e.binding) q in
      record {
        good = good-part {Z = []} s.good (record { once = perm_distinct p; only = λ x h. perm_in (perm_sym p) x h; all = λ x h k. perm_in p x h });
        stand = λ e h. s.stand e (in_perm (perm_sym q) h);
        has = λ x h. let r = s.has x h in (r.0, in_perm q r.1, r.2);
      }

  -- ── under fresh names ──

  pub respelled_is : (right : Bool) (C : List VarId) (T : Context) {m₁ : ℕ} → Drawn right (bindings W) C m T m₁ → bindings (respelled_unless right W T) ≡ T
  unfolding respelled_unless
  respelled_is true C T d = sym (d.kept refl)
  respelled_is false C T d = respelled-bindings W T (sym (length-map W (λ (e : Entry). e.binding)) ∙ d.count)

  pub fresh : (right : Bool) (C : List VarId) (T : Context) {m₁ : ℕ} → Drawn right (bindings W) C m T m₁
      → Standing M Δ (rename_unless right ρ (renaming (bindings W) T)) fv (respelled_unless right W T) m₁
  unfolding respelled_unless rename_unless
  fresh true C T d = later d.grows
  fresh false C T {m₁} d =
      let count : length W ≡ length T = sym (length-map W (λ (e : Entry). e.binding)) ∙ d.count in
      record {
        good = subst (λ (Γ : Context). Good M Δ (ρ ⨾ renaming (bindings W) T) Γ m₁) (sym (respelled-bindings W T count)) (good-fresh s.good T m₁ (d.drew refl));
        stand = respelled-stand ρ W T s.good.once s.stand;
        has = λ x h. respelled-has W T x count (s.has x h);
      }

-- ── binders added ──

module _ {M : ℕ} (fv : List VarId) {Δ : List VarId} {ρ : Renaming} {W : Work} {m : ℕ} (ps : Context) (s : Standing M Δ ρ (without fv (ids ps)) W m) (b : Binds M Δ (ids ps)) where
  -- what is free below the binders has an entry, or is one of them
  pub below-read : Reads ρ W fv
  below-read x h = go (elem? x (ids ps))
    where
      go : Answers (elem x (ids ps)) (x ∈ ids ps) → HasEntry W x ⊎ (¬ (rename_id ρ x ∈ ids (bindings W)))
      go (inl p) = inr (rw (new-unmoved ps s.good b x p.1) (λ k. new-clash ps s.good b x k p.1))
      go (inr p) = inl (s.has x (∈_without x fv (ids ps) h p.1))

  module _ (n : ℕ) where
    stands : (e : Entry) → In e W ⊎ In e (owns n ps) → Stands ρ e
    stands e (inl h) = s.stand e h
    stands e (inr h) = owns-stand ρ n ps (λ x k. new-unmoved ps s.good b x k) e h

    entry : (x : VarId) → x ∈ fv → HasEntry (owns n ps) x ⊎ HasEntry W x
    entry x h = go (elem? x (ids ps))
      where
        go : Answers (elem x (ids ps)) (x ∈ ids ps) → HasEntry (owns n ps) x ⊎ HasEntry W x
        go (inl p) = inl (owns-has n ps x p.1)
        go (inr p) = inr (s.has x (∈_without x fv (ids ps) h p.1))

    pub behind_is : bindings (W ++ owns n ps) ≡ bindings W ++ ps
    behind_is = bindings-++ W (owns n ps) ∙ ap (λ (r : Context). bindings W ++ r) (owns-bindings n ps)

    pub before_is : bindings (owns n ps ++ W) ≡ ps ++ bindings W
    before_is = bindings-++ (owns n ps) W ∙ ap (λ (r : Context). r ++ bindings W) (owns-bindings n ps)

    -- behind the context
    pub behind : Standing M (ids ps ++ Δ) ρ fv (W ++ owns n ps) m
    behind = record {
      good = subst (λ (Γ : Context). Good M (ids ps ++ Δ) ρ Γ m) (sym behind_is) (good-behind ps s.good b);
      stand = λ e h. stands e (Memᴰ.append_cases W h);
      has = λ x h. go x (entry x h);
    }
      where
        go : (x : VarId) → HasEntry (owns n ps) x ⊎ HasEntry W x → HasEntry (W ++ owns n ps) x
        go x (inl r) = (r.0, Memᴰ.append_right W r.1, r.2)
        go x (inr r) = (r.0, Memᴰ.append_left (owns n ps) r.1, r.2)

    -- before the context
    pub before : Standing M (ids ps ++ Δ) ρ fv (owns n ps ++ W) m
    before = record {
      good = subst (λ (Γ : Context). Good M (ids ps ++ Δ) ρ Γ m) (sym before_is) (good-before ps s.good b);
      stand = λ e h. stands e (swapped (Memᴰ.append_cases (owns n ps) h));
      has = λ x h. go x (entry x h);
    }
      where
        swapped : {A B : Type 0} → A ⊎ B → B ⊎ A
        swapped (inl a) = inr a
        swapped (inr c) = inl c

        go : (x : VarId) → HasEntry (owns n ps) x ⊎ HasEntry W x → HasEntry (owns n ps ++ W) x
        go x (inl r) = (r.0, Memᴰ.append_left W r.1, r.2)
        go x (inr r) = (r.0, Memᴰ.append_right (owns n ps) r.1, r.2)

    -- before or behind it
    pub joined : (first : Bool) → Standing M (ids ps ++ Δ) ρ fv (cond first (owns n ps ++ W) (W ++ owns n ps)) m
    joined true = before
    joined false = behind

    pub joined_is : (first : Bool) → bindings (cond first (owns n ps ++ W) (W ++ owns n ps)) ≡ cond first (ps ++ bindings W) (bindings W ++ ps)
    joined_is true = before_is
    joined_is false = behind_is

-- ── the context for what follows a binder: what the set keeps, and the binder behind it ──

module _ {M : ℕ} (fv : List VarId) {Δ : List VarId} {ρ : Renaming} {W : Work} {m : ℕ} (b : ContextBinding)
    (s : Standing M Δ ρ (without fv (id_of b ∷ [])) W m) (new : Binds M Δ (id_of b ∷ [])) (z : List VarId) (reads : Reads ρ W z) (n : ℕ) where
  pub next-stands : fv ⊆ z → {m₁ : ℕ} → m ≤ m₁ → Standing M (id_of b ∷ Δ) ρ fv (kept z W ++ (own n b ∷ [])) m₁
  next-stands sub h = behind fv (b ∷ []) (later (part s z reads (λ x k. k) (λ x k. sub x (without-∈ x fv (id_of b ∷ []) k).0)) h) new n

  pub next_is_lem : bindings (kept z W ++ (own n b ∷ [])) ≡ filter_by_set_lem (rename_ids ρ z) (bindings W) ++ (b ∷ [])
  next_is_lem = bindings-++ (kept z W) (own n b ∷ []) ∙ ap (λ (r : Context). r ++ (b ∷ [])) (kept_is s z reads)
