-- Create's renaming: the remaining statement's context under fresh names. Assumes nothing.
use mathlib.Core.Path.{◌≡◌, refl, sym, ◌∙◌, ap, subst}
use mathlib.Core.Logic.{◌⊎◌, inl, inr}
use mathlib.Core.Bool.{Bool, true, false}
use mathlib.Core.List.{List, [], ◌∷◌}
use mathlib.Core.Option.{Option, none, some}
use Prim.Native.Nat.{ℕ, ◌<◌}
use native.Mathlib.Omega.{arith}
use lib.ListN.{length, length-map}
use Rattle.syntax.specs.Names.{same_var_id}
use Rattle.syntax.specs.Context.{Context, id_of, ids, vars}
use Rattle.syntax.specs.Sets.{◌∈◌, Distinct}
use Rattle.syntax.specs.declared.names.VarId.{VarId}
use Rattle.syntax.specs.declared.names.Identifier.{Identifier}
use Rattle.syntax.specs.declared.context.ContextBinding.{ContextBinding}
use Rattle.syntax.proofs.Bools.{Answers}
use Rattle.syntax.proofs.Members.{same?}
use Rattle.syntax.proofs.Drawing.{Renamed}
use Rattle.model.specs.Lists.{lookup, zip}
use Rattle.model.specs.Renaming.{Renaming, rename_id, or_self_id, then_rename, ◌⨾◌, renaming, rename_unless}
use Rattle.model.specs.Machine.{Value, Entries}
use Rattle.model.proofs.Alist.{firsts-zip, in_lookup, lookup-same, lookup-other}
use Rattle.model.proofs.Good.{Known, Good}
use Rattle.model.proofs.Invariant.{Agrees, Fits, rename-id, later, free_in}
use Rattle.model.proofs.Rearrange.{Drawn}

-- first ρ, then σ
pub rename_id-⨾ : (ρ σ : Renaming) (x : VarId) → rename_id (ρ ⨾ σ) x ≡ rename_id σ (rename_id ρ x)
rename_id-⨾ ρ σ x = go (ρ x)
  where
    go : (o : Option Identifier) → or_self_id (then_rename o (σ x) σ) x ≡ rename_id σ (or_self_id o x)
    go none = refl
    go (some y) = rename-id σ y

count-vars : (N T : Context) → length N ≡ length T → length (ids N) ≡ length (vars T)
count-vars N T e = length-map N id_of ∙ e ∙ sym (length-map T (λ (b : ContextBinding). b.var))

-- the first variable of N becomes the first of T, another one what the rest makes of it
rename_first : (b c : ContextBinding) (N T : Context) (y : VarId) → same_var_id y (id_of b) ≡ true → rename_id (renaming (b ∷ N) (c ∷ T)) y ≡ id_of c
rename_first b c N T y e = rw e

rename_later : (b c : ContextBinding) (N T : Context) (y : VarId) → same_var_id y (id_of b) ≡ false → rename_id (renaming (b ∷ N) (c ∷ T)) y ≡ rename_id (renaming N T) y
rename_later b c N T y e = rw e

-- a variable of N becomes one of T
renaming_in : (N T : Context) (y : VarId) → length N ≡ length T → y ∈ ids N → rename_id (renaming N T) y ∈ ids T
renaming_in [] T y e h = absurd h
renaming_in (b ∷ N) [] y e h = absurd (omega arith)
renaming_in (b ∷ N) (c ∷ T) y e h = go (λ k. renaming_in N T y (omega arith) k) (same? y (id_of b)) h
  where
    go : (y ∈ ids N → rename_id (renaming N T) y ∈ ids T) → Answers (same_var_id y (id_of b)) (y ≡ id_of b) → y ∈ ids (b ∷ N) → rename_id (renaming (b ∷ N) (c ∷ T)) y ∈ ids (c ∷ T)
    go ih (inl p) k = inl (rename_first b c N T y p.0)
    go ih (inr p) (inl q) = absurd (p.1 q)
    go ih (inr p) (inr k) =
        inr (subst (λ (z : VarId). z ∈ ids T) (sym (rename_later b c N T y p.0)) (ih k))

-- and keeps its value
moved_value : (N T : Context) (us : List Value) (y : VarId) → length N ≡ length T → length N ≡ length us → Distinct (ids T) → y ∈ ids N
    → lookup (rename_id (renaming N T) y) (zip (ids T) us) ≡ lookup y (zip (ids N) us)
moved_value [] T us y e h d k = absurd k
moved_value (b ∷ N) [] us y e h d k = absurd (omega arith)
moved_value (b ∷ N) (c ∷ T) [] y e h d k = absurd (omega arith)
moved_value (b ∷ N) (c ∷ T) (u ∷ us) y e h d k = go (λ q. moved_value N T us y (omega arith) (omega arith) d.1 q) (same? y (id_of b)) k
  where
    away : y ∈ ids N → ¬ (rename_id (renaming N T) y ≡ id_of c)
    away q p = d.0 (subst (λ (z : VarId). z ∈ ids T) p (renaming_in N T y (omega arith) q))

    go : (y ∈ ids N → lookup (rename_id (renaming N T) y) (zip (ids T) us) ≡ lookup y (zip (ids N) us)) → Answers (same_var_id y (id_of b)) (y ≡ id_of b) → y ∈ ids (b ∷ N)
        → lookup (rename_id (renaming (b ∷ N) (c ∷ T)) y) (zip (ids (c ∷ T)) (u ∷ us)) ≡ lookup y (zip (ids (b ∷ N)) (u ∷ us))
    go ih (inl p) q =
        let held : lookup y (zip (ids (b ∷ N)) (u ∷ us)) ≡ some u = rw p.0 in
        ap (λ (z : VarId). lookup z (zip (ids (c ∷ T)) (u ∷ us))) (rename_first b c N T y p.0) ∙ lookup-same (id_of c) u (zip (ids T) us) ∙ sym held
    go ih (inr p) (inl q) = absurd (p.1 q)
    go ih (inr p) (inr q) =
        let held : lookup y (zip (ids (b ∷ N)) (u ∷ us)) ≡ lookup y (zip (ids N) us) = rw p.0 in
        ap (λ (z : VarId). lookup z (zip (ids (c ∷ T)) (u ∷ us))) (rename_later b c N T y p.0) ∙ lookup-other (rename_id (renaming N T) y) (id_of c) u (zip (ids T) us) (away q) ∙ ih q ∙ sym held

-- the context under fresh names, and the renaming made to match, are as the pass keeps them
module _ {M : ℕ} {Δ : List VarId} {ρ : Renaming} {N : Context} {m : ℕ} (f : Good M Δ ρ N m) {C : List VarId} (T : Context) (m₁ : ℕ) (g : Renamed N C m T m₁) where
  known : (x : VarId) → (x ∈ ids N) ⊎ (m < x.0) → Known M Δ x
  known x (inl h) = f.known x h
  known x (inr h) = inr (omega (arith, f.above))

  renamed : (x : VarId) (o : Option Identifier) → renaming N T x ≡ o → (o ≡ none) ⊎ Known M Δ x
  renamed x none e = inl refl
  renamed x (some y) e = inr (f.known x (rw (firsts-zip (ids N) (vars T) (count-vars N T g.count)) at (in_lookup x y (zip (ids N) (vars T)) e)))

  moved : (x : VarId) → (ρ x ≡ none) ⊎ Known M Δ x → ((ρ ⨾ renaming N T) x ≡ none) ⊎ Known M Δ x
  moved x (inl e) = rw e (renamed x (renaming N T x) refl)
  moved x (inr k) = inr k

  pub good-fresh : Good M Δ (ρ ⨾ renaming N T) T m₁
  good-fresh = record {
    once = g.distinct;
    known = λ x h. known x (g.from x h);
    up_to = g.up_to;
    above = omega (arith, f.above, g.grows);
    moved = λ x. moved x (f.moved x);
  }

module _ {M : ℕ} {fv Δ : List VarId} {ρ : Renaming} {N : Context} {m : ℕ} {ε : Entries} (us : List Value) (f : Fits M fv Δ ρ N m ε (zip (ids N) us))
    (count : length N ≡ length us) (C : List VarId) where
  -- the context under fresh names, and the renaming made to match, fit as before
  fresh-fits : (T : Context) (m₁ : ℕ) → Renamed N C m T m₁ → Fits M fv Δ (ρ ⨾ renaming N T) T m₁ ε (zip (ids T) us)
  fresh-fits T m₁ g = record {
    good = good-fresh f.good T m₁ g;
    ordered = firsts-zip (ids T) us (length-map T id_of ∙ sym g.count ∙ count);
    agrees = agrees;
  }
    where
      agrees : Agrees fv (ρ ⨾ renaming N T) ε (zip (ids T) us)
      agrees x h =
          let a = f.agrees x h in
          (a.0, a.1, ap (λ (y : VarId). lookup y (zip (ids T) us)) (rename_id-⨾ ρ (renaming N T) x) ∙ moved_value N T us (rename_id ρ x) g.count count g.distinct (free_in f x h) ∙ a.2)

  pub renamed-fits : (right : Bool) (T : Context) (m₁ : ℕ) → Drawn right N C m T m₁ → Fits M fv Δ (rename_unless right ρ (renaming N T)) T m₁ ε (zip (ids T) us)
  unfolding rename_unless
  renamed-fits true T m₁ d = subst (λ (r : Context). Fits M fv Δ ρ r m₁ ε (zip (ids r) us)) (sym (d.kept refl)) (later f d.grows)
  renamed-fits false T m₁ d = fresh-fits T m₁ (d.drew refl)
