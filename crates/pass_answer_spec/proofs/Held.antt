-- What a layout can hold, it can hold of what the pass makes of it: renamed identifiers, filtered and freshened contexts.
-- w is the number of bytes of an ID. Assumes nothing.
use Prim.Native.Nat.{ℕ, ◌^◌, ◌<◌}
use mathlib.Core.Path.{◌≡◌, refl, sym, subst}
use mathlib.Core.Bool.{Bool, true, false, cond}
use mathlib.Core.List.{List, [], ◌∷◌, ◌++◌}
use mathlib.Core.Option.{Option, none, some}
use native.Mathlib.Omega.{arith}
use Rattle.syntax.specs.Names.{same_var_id}
use Rattle.syntax.specs.Context.{Context, id_of, vars}
use Rattle.syntax.specs.Sets.{elem}
use Rattle.syntax.specs.Fresh.{fresh, freshen}
use Rattle.syntax.specs.Filter.{retained, filtered, filter_by_set_lem}
use Rattle.syntax.specs.declared.names.VarId.{VarId}
use Rattle.syntax.specs.declared.names.Identifier.{Identifier}
use Rattle.syntax.specs.declared.context.ContextBinding.{ContextBinding}
use Rattle.syntax.proofs.Permutations.{Perm, nil, keep, swap, trans}
use Rattle.syntax.proofs.Filters.{filtered_perm}
use Rattle.syntax.proofs.Drawing.{freshen-clash, freshen-kept, freshen_none, freshen-grows}
use Rattle.model.specs.Lists.{zip}
use Rattle.model.specs.Renaming.{Renaming, rename, or_self, rename_option, rename_context, then_rename, ◌⨾◌, renaming, rename_unless}
use Rattle.model.specs.Rules.{freshen_unless_lem, fresh_var_lem, fresh_var_unless, move_behind_lem}
use Rattle.model.proofs.Good.{move_perm}
use Rattle.image_spec.specs.Parse.{All, Marked}
use Rattle.image_spec.specs.Fields.{IdentifierOk, BindingOk, PairOk}
use Rattle.image_spec.proofs.ListLaws.{all-++}

-- ── each of a list ──

module _ {A : Type 0} (P : A → Type 0) where
  all_perm : {s t : List A} → Perm s t → All P s → All P t
  all_perm nil h = h
  all_perm (keep a p) h = (h.0, all_perm p h.1)
  all_perm (swap a b s) h = (h.1.0, (h.0, h.1.1))
  all_perm (trans p q) h = all_perm q (all_perm p h)

  all_retained : (p : A → Bool) (l : List A) → All P l → All P (retained p l)
  unfolding retained
  all_retained p [] h = tt
  all_retained p (x ∷ l) h = go (p x) (all_retained p l h.1)
    where
      go : (t : Bool) → All P (retained p l) → All P (cond t (x ∷ retained p l) (retained p l))
      go true k = (h.0, k)
      go false k = k

  all-filtered : (p : A → Bool) (l : List A) → All P l → All P (filtered p l)
  all-filtered p l h = all_perm (filtered_perm p l) (all_retained p l h)

module _ (w : ℕ) where
  -- ── contexts ──

  pub one_more : (Γ : Context) (b : ContextBinding) → All (BindingOk w) Γ → BindingOk w b → All (BindingOk w) (Γ ++ (b ∷ []))
  one_more Γ b h k = all-++ (BindingOk w) Γ (b ∷ []) h (k, tt)

  -- a clause's parameters come before the context, or behind it
  pub joined-holds : (before : Bool) (ps Γ : Context) → All (BindingOk w) ps → All (BindingOk w) Γ → All (BindingOk w) (cond before (ps ++ Γ) (Γ ++ ps))
  joined-holds true ps Γ h k = all-++ (BindingOk w) ps Γ h k
  joined-holds false ps Γ h k = all-++ (BindingOk w) Γ ps k h

  pub filter-holds : (s : List VarId) (Γ : Context) → All (BindingOk w) Γ → All (BindingOk w) (filter_by_set_lem s Γ)
  filter-holds s Γ h = all-filtered (BindingOk w) _ Γ h

  pub behind-holds : (j : ℕ) (Γ : Context) → All (BindingOk w) Γ → All (BindingOk w) (move_behind_lem j Γ)
  behind-holds j Γ h = all_perm (BindingOk w) (move_perm j Γ) h

  pub pairs_hold : (T W : Context) → All (BindingOk w) T → All (BindingOk w) W → All (PairOk w) (zip T (vars W))
  pairs_hold [] W h k = tt
  pairs_hold (b ∷ T) [] h k = tt
  pairs_hold (b ∷ T) (c ∷ W) h k = ((h.0, k.0.0), pairs_hold T W h.1 k.1)

  -- ── renamings ──

  -- the layout can hold what the renaming names
  unfoldable pub RenamingOk : Renaming → Type 0
  RenamingOk ρ = (i : VarId) → Marked (IdentifierOk w) (ρ i)

  pub rename-holds : (ρ : Renaming) → RenamingOk ρ → (x : Identifier) → IdentifierOk w x → IdentifierOk w (rename ρ x)
  unfolding RenamingOk
  rename-holds ρ r x h = go (ρ x.id) (r x.id)
    where
      go : (o : Option Identifier) → Marked (IdentifierOk w) o → IdentifierOk w (or_self o x)
      go none k = h
      go (some y) k = k

  pub rename_option-holds : (ρ : Renaming) → RenamingOk ρ → (o : Option Identifier) → Marked (IdentifierOk w) o → Marked (IdentifierOk w) (rename_option ρ o)
  rename_option-holds ρ r none h = tt
  rename_option-holds ρ r (some x) h = rename-holds ρ r x h

  pub rename_context-holds : (ρ : Renaming) → RenamingOk ρ → (Γ : Context) → All (BindingOk w) Γ → All (BindingOk w) (rename_context ρ Γ)
  rename_context-holds ρ r [] h = tt
  rename_context-holds ρ r (b ∷ Γ) h = ((rename-holds ρ r b.var h.0.0, h.0.1), rename_context-holds ρ r Γ h.1)

  renaming-holds : (N T : Context) → All (BindingOk w) T → RenamingOk (renaming N T)
  unfolding RenamingOk
  renaming-holds [] T h i = tt
  renaming-holds (b ∷ N) [] h i = tt
  renaming-holds (b ∷ N) (c ∷ T) h i = go (same_var_id i (id_of b)) (renaming-holds N T h.1 i)
    where
      go : (t : Bool) → Marked (IdentifierOk w) (renaming N T i) → Marked (IdentifierOk w) (cond t (some c.var) (renaming N T i))
      go true k = h.0.0
      go false k = k

  then_holds : (ρ σ : Renaming) → RenamingOk ρ → RenamingOk σ → RenamingOk (ρ ⨾ σ)
  unfolding RenamingOk
  then_holds ρ σ r s i = go (ρ i) (r i)
    where
      go : (o : Option Identifier) → Marked (IdentifierOk w) o → Marked (IdentifierOk w) (then_rename o (σ i) σ)
      go none k = s i
      go (some y) k = rename-holds σ s y k

  -- Create's
  pub rename_unless-holds : (right : Bool) (ρ : Renaming) (N T : Context) → RenamingOk ρ → All (BindingOk w) T → RenamingOk (rename_unless right ρ (renaming N T))
  unfolding rename_unless
  rename_unless-holds true ρ N T r h = r
  rename_unless-holds false ρ N T r h = then_holds ρ (renaming N T) r (renaming-holds N T h)

  -- ── draws: where the closing max_id fits, so does each ID that is drawn ──

  freshen-holds : (Γ : Context) (C : List VarId) (m : ℕ) → All (BindingOk w) Γ → (freshen Γ C m).1 < 256 ^ w → All (BindingOk w) (freshen Γ C m).0
  freshen-holds [] C m h k = rw (freshen_none C m) tt
  freshen-holds (b ∷ Γ) C m h k = go (elem (id_of b) C) refl (λ e. freshen-holds Γ C (fresh m) h.1 e) (λ e. freshen-holds Γ (C ++ (id_of b ∷ [])) m h.1 e) k
    where
      Holds : Context × ℕ → Type 0
      Holds r = r.1 < 256 ^ w → All (BindingOk w) r.0

      go : (t : Bool) → elem (id_of b) C ≡ t → Holds (freshen Γ C (fresh m)) → Holds (freshen Γ (C ++ (id_of b ∷ [])) m) → Holds (freshen (b ∷ Γ) C m)
      go true e f g = subst Holds (sym (freshen-clash b Γ C m e)) (λ e. (((h.0.0.0, omega (arith, freshen-grows Γ C (fresh m))), h.0.1), f e))
      go false e f g = subst Holds (sym (freshen-kept b Γ C m e)) (λ e. (h.0, g e))

  pub freshen_unless-holds : (right : Bool) (Γ : Context) (C : List VarId) (m : ℕ) → All (BindingOk w) Γ → (freshen_unless_lem right Γ C m).1 < 256 ^ w
      → All (BindingOk w) (freshen_unless_lem right Γ C m).0
  unfolding freshen_unless_lem
  freshen_unless-holds true Γ C m h k = h
  freshen_unless-holds false Γ C m h k = freshen-holds Γ C m h k

  pub fresh_var_unless-holds : (right : Bool) (b : ContextBinding) (C : List VarId) (m : ℕ) → BindingOk w b → (fresh_var_unless right b C m).1 < 256 ^ w
      → BindingOk w (fresh_var_unless right b C m).0
  unfolding fresh_var_unless
  fresh_var_unless-holds true b C m h k = h
  fresh_var_unless-holds false b C m h k = go (elem (id_of b) C) k
    where
      go : (clash : Bool) → (fresh_var_lem clash b m).1 < 256 ^ w → BindingOk w (fresh_var_lem clash b m).0
      go true e = ((h.0.0, e), h.1)
      go false e = h
