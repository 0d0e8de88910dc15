-- Contexts as the pass keeps them: each ID is in scope or drawn, none stands twice, and a renaming leaves new binders alone; and how this
-- is kept when the context is narrowed, when variables are added, when max_id grows, when the context is renamed. Assumes nothing.
use mathlib.Core.Path.{◌≡◌, subst}
use mathlib.Core.Logic.{◌⊎◌, inl, inr, ⊎_swap}
use mathlib.Core.List.{List, ◌++◌}
use mathlib.Core.Option.{none}
use Prim.Native.Nat.{ℕ, ◌≤◌, ◌<◌}
use native.Mathlib.Omega.{arith}
use lib.ListN.{take, drop, take-append-drop}
use Rattle.syntax.specs.Context.{Context, ids}
use Rattle.syntax.specs.Sets.{◌∈◌, Distinct}
use Rattle.syntax.specs.Filter.{filter_by_set_lem}
use Rattle.syntax.specs.declared.names.VarId.{VarId}
use Rattle.syntax.proofs.Members.{∈_left, ∈_right, ∈_split, Distinct-++}
use Rattle.syntax.proofs.Filters.{ids-++, perm_in, perm_distinct, filter_in, in_filter, filter-keeps-distinct}
use Rattle.syntax.proofs.Permutations.{Perm, perm_sym, perm_swap}
use Rattle.model.specs.Renaming.{Renaming}
use Rattle.model.specs.Rules.{move_behind_lem}
use Rattle.model.proofs.Scoping.{Binds}

-- an ID that may stand in a context: in scope, or drawn, that is above the program's max_id M
abbrev pub Known : ℕ → List VarId → VarId → Type 0
Known M Δ x = (x ∈ Δ) ⊎ (M < x.0)

-- with Δ in scope, the context Γ and the renaming ρ are as the pass keeps them at max_id m
pub record Good (M : ℕ) (Δ : List VarId) (ρ : Renaming) (Γ : Context) (m : ℕ) : Type 0 where
  pub once : Distinct (ids Γ)
  pub known : (x : VarId) → x ∈ ids Γ → Known M Δ x
  pub up_to : (x : VarId) → x ∈ ids Γ → x.0 ≤ m
  pub above : M ≤ m
  pub moved : (x : VarId) → (ρ x ≡ none) ⊎ Known M Δ x

pub good-later : {M : ℕ} {Δ : List VarId} {ρ : Renaming} {Γ : Context} {m m' : ℕ} → m ≤ m' → Good M Δ ρ Γ m → Good M Δ ρ Γ m'
good-later h g = record { once = g.once; known = g.known; up_to = λ x k. omega (arith, g.up_to x k); above = omega (arith, g.above); moved = g.moved }

-- ── a part of the context ──

-- N holds what Γ has in the set Z, and nothing else that Γ has not
pub record Selects (Z : List VarId) (Γ N : Context) : Type 0 where
  pub once : Distinct (ids Γ) → Distinct (ids N)
  pub only : (x : VarId) → x ∈ ids N → x ∈ ids Γ
  pub all : (x : VarId) → x ∈ ids Γ → x ∈ Z → x ∈ ids N

pub selects_filter : (Z : List VarId) (Γ : Context) → Selects Z Γ (filter_by_set_lem Z Γ)
selects_filter Z Γ = record { once = filter-keeps-distinct Z Γ; only = filter_in Z Γ; all = in_filter Z Γ }

pub move_perm : (j : ℕ) (Γ : Context) → Perm Γ (move_behind_lem j Γ)
unfolding move_behind_lem
move_perm j Γ = subst (λ (r : Context). Perm r (move_behind_lem j Γ)) (take-append-drop j Γ) (perm_swap (take j Γ) (drop j Γ))

pub selects_behind : (Z : List VarId) (j : ℕ) (Γ : Context) → Selects Z Γ (filter_by_set_lem Z (move_behind_lem j Γ))
selects_behind Z j Γ = record {
  once = λ d. filter-keeps-distinct Z (move_behind_lem j Γ) (perm_distinct (move_perm j Γ) d);
  only = λ x h. perm_in (perm_sym (move_perm j Γ)) x (filter_in Z (move_behind_lem j Γ) x h);
  all = λ x h k. in_filter Z (move_behind_lem j Γ) x (perm_in (move_perm j Γ) x h) k;
}

pub good-part : {M : ℕ} {Δ : List VarId} {ρ : Renaming} {Γ : Context} {m : ℕ} {Z : List VarId} {N : Context} → Good M Δ ρ Γ m → Selects Z Γ N → Good M Δ ρ N m
good-part g s = record { once = s.once g.once; known = λ x h. g.known x (s.only x h); up_to = λ x h. g.up_to x (s.only x h); above = g.above; moved = g.moved }

-- ── variables added ──

module _ {M : ℕ} {Δ : List VarId} {ρ : Renaming} {Γ : Context} {m : ℕ} (ps : Context) (g : Good M Δ ρ Γ m) (b : Binds M Δ (ids ps)) where
  -- a binder is neither in scope nor drawn
  new_unknown : (x : VarId) → x ∈ ids ps → Known M Δ x → ⊥
  new_unknown x h (inl k) = b.new x h k
  new_unknown x h (inr k) = omega (arith, b.small x h)

  -- .. so the renaming leaves it alone, and it is not in the context
  pub new-unmoved : (x : VarId) → x ∈ ids ps → ρ x ≡ none
  new-unmoved x h = go (g.moved x)
    where
      go : (ρ x ≡ none) ⊎ Known M Δ x → ρ x ≡ none
      go (inl e) = e
      go (inr k) = absurd (new_unknown x h k)

  pub new-clash : (x : VarId) → x ∈ ids Γ → x ∈ ids ps → ⊥
  new-clash x h k = new_unknown x k (g.known x h)

  still_known : (x : VarId) → Known M Δ x → Known M (ids ps ++ Δ) x
  still_known x (inl k) = inl (∈_right x (ids ps) Δ k)
  still_known x (inr k) = inr k

  still_moved : (x : VarId) → (ρ x ≡ none) ⊎ Known M Δ x → (ρ x ≡ none) ⊎ Known M (ids ps ++ Δ) x
  still_moved x (inl e) = inl e
  still_moved x (inr k) = inr (still_known x k)

  joined-known : (x : VarId) → (x ∈ ids Γ) ⊎ (x ∈ ids ps) → Known M (ids ps ++ Δ) x
  joined-known x (inl h) = still_known x (g.known x h)
  joined-known x (inr h) = inl (∈_left x (ids ps) Δ h)

  joined-up_to : (x : VarId) → (x ∈ ids Γ) ⊎ (x ∈ ids ps) → x.0 ≤ m
  joined-up_to x (inl h) = g.up_to x h
  joined-up_to x (inr h) = omega (arith, b.small x h, g.above)

  -- behind the context
  pub good-behind : Good M (ids ps ++ Δ) ρ (Γ ++ ps) m
  good-behind = record {
    once = rw (ids-++ Γ ps) (Distinct-++ (ids Γ) (ids ps) g.once b.once new-clash);
    known = λ x h. joined-known x (∈_split x (ids Γ) (ids ps) (rw (ids-++ Γ ps) at h));
    up_to = λ x h. joined-up_to x (∈_split x (ids Γ) (ids ps) (rw (ids-++ Γ ps) at h));
    above = g.above;
    moved = λ x. still_moved x (g.moved x);
  }

  -- before the context
  pub good-before : Good M (ids ps ++ Δ) ρ (ps ++ Γ) m
  good-before = record {
    once = rw (ids-++ ps Γ) (Distinct-++ (ids ps) (ids Γ) b.once g.once (λ x h k. new-clash x k h));
    known = λ x h. joined-known x (⊎_swap (∈_split x (ids ps) (ids Γ) (rw (ids-++ ps Γ) at h)));
    up_to = λ x h. joined-up_to x (⊎_swap (∈_split x (ids ps) (ids Γ) (rw (ids-++ ps Γ) at h)));
    above = g.above;
    moved = λ x. still_moved x (g.moved x);
  }
