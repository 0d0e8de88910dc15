-- Equality of bindings and contexts: the tests answer for `≡`; the comparison of two contexts a place at a time, for loops.
-- Assumes nothing.
use mathlib.Core.Path.{◌≡◌, refl, sym, ap, ap₂, subst}
use mathlib.Core.Bool.{true, false, ◌&&◌, and-false}
use mathlib.Core.List.{[], ◌∷◌}
use Prim.Native.Nat.{ℕ, suc, ◌+◌, ◌≤◌, ◌<◌}
use borrow.Author.Tests.{eqb-true}
use lib.Dec.{T}
use lib.ListN.{length, get_or}
use Rattle.syntax.specs.Names.{same_name, same_var_id, same_identifier}
use Rattle.syntax.specs.Types.{same_chirality, same_ty}
use Rattle.syntax.specs.Context.{Context, same_binding, same_context}
use Rattle.syntax.specs.declared.names.Name.{Name}
use Rattle.syntax.specs.declared.names.Identifier.{Identifier}
use Rattle.syntax.specs.declared.types.Ty.{Ty}
use Rattle.syntax.specs.declared.types.Ty.TheVariants.{I64, Decl}
use Rattle.syntax.specs.declared.context.Chirality.{Chirality}
use Rattle.syntax.specs.declared.context.Chirality.TheVariants.{Prd, Cns, Ext}
use Rattle.syntax.specs.declared.context.ContextBinding.{ContextBinding}
use Rattle.syntax.proofs.Bools.{both_true}
use Rattle.syntax.proofs.Lists.{rest, rest_cons, rest_end}
use Rattle.syntax.proofs.Members.{same_self}

-- ── what is found equal is equal ──

pub same_name-sound : (a b : Name) → same_name a b ≡ true → a ≡ b
same_name-sound a b e = let p = eqb-true a.0 b.0 e in λ i. record { 0 = p i }

pub same_identifier-sound : (a b : Identifier) → same_identifier a b ≡ true → a ≡ b
same_identifier-sound a b e =
    let p = both_true (same_name a.name b.name) (same_var_id a.id b.id) e in
    let q = same_name-sound a.name b.name p.0 in
    let r = eqb-true a.id.0 b.id.0 p.1 in
    λ i. record { name = q i; id = record { 0 = r i } }

same_chirality-sound : (a b : Chirality) → same_chirality a b ≡ true → a ≡ b
same_chirality-sound Prd Prd e = refl
same_chirality-sound Prd Cns e = absurd (subst T (sym e) tt)
same_chirality-sound Prd Ext e = absurd (subst T (sym e) tt)
same_chirality-sound Cns Prd e = absurd (subst T (sym e) tt)
same_chirality-sound Cns Cns e = refl
same_chirality-sound Cns Ext e = absurd (subst T (sym e) tt)
same_chirality-sound Ext Prd e = absurd (subst T (sym e) tt)
same_chirality-sound Ext Cns e = absurd (subst T (sym e) tt)
same_chirality-sound Ext Ext e = refl

same_ty-sound : (a b : Ty) → same_ty a b ≡ true → a ≡ b
same_ty-sound I64 I64 e = refl
same_ty-sound I64 (Decl b) e = absurd (subst T (sym e) tt)
same_ty-sound (Decl a) I64 e = absurd (subst T (sym e) tt)
same_ty-sound (Decl a) (Decl b) e = ap Decl (same_identifier-sound a b e)

pub same_binding-sound : (a b : ContextBinding) → same_binding a b ≡ true → a ≡ b
same_binding-sound a b e =
    let p = both_true (same_identifier a.var b.var) (same_chirality a.chi b.chi && same_ty a.ty b.ty) e in
    let q = both_true (same_chirality a.chi b.chi) (same_ty a.ty b.ty) p.1 in
    let v = same_identifier-sound a.var b.var p.0 in
    let χ = same_chirality-sound a.chi b.chi q.0 in
    let τ = same_ty-sound a.ty b.ty q.1 in
    λ i. record { var = v i; chi = χ i; ty = τ i }

pub same_context-sound : (Γ Δ : Context) → same_context Γ Δ ≡ true → Γ ≡ Δ
same_context-sound [] [] e = refl
same_context-sound [] (b ∷ Δ) e = absurd (subst T (sym e) tt)
same_context-sound (a ∷ Γ) [] e = absurd (subst T (sym e) tt)
same_context-sound (a ∷ Γ) (b ∷ Δ) e =
    let p = both_true (same_binding a b) (same_context Γ Δ) e in
    ap₂ (λ (x : ContextBinding) (r : Context). x ∷ r) (same_binding-sound a b p.0) (same_context-sound Γ Δ p.1)

-- ── and what is equal is found so ──

pub same_name_self : (a : Name) → same_name a a ≡ true
same_name_self a = same_self (record { 0 = a.0 })

same_identifier_self : (a : Identifier) → same_identifier a a ≡ true
same_identifier_self a = rw (same_name_self a.name, same_self a.id)

same_chirality_self : (a : Chirality) → same_chirality a a ≡ true
same_chirality_self Prd = refl
same_chirality_self Cns = refl
same_chirality_self Ext = refl

same_ty_self : (a : Ty) → same_ty a a ≡ true
same_ty_self I64 = refl
same_ty_self (Decl a) = same_identifier_self a

pub same_context_self : (Γ : Context) → same_context Γ Γ ≡ true
same_context_self [] = refl
same_context_self (a ∷ Γ) = rw (same_identifier_self a.var, same_chirality_self a.chi, same_ty_self a.ty) (same_context_self Γ)

-- ── a place at a time ──

module _ (xs ys : Context) (n i : ℕ) (d : ContextBinding) where
  pub same_step : i < n → n ≤ length xs → n ≤ length ys →
      same_context (rest xs n i) (rest ys n i) ≡ (same_binding (get_or xs i d) (get_or ys i d) && same_context (rest xs n (i + 1)) (rest ys n (i + 1)))
  same_step h ka kb = rw (rest_cons xs n i d h ka, rest_cons ys n i d h kb)

pub same_end : (xs ys : Context) (n i : ℕ) → n ≤ i → same_context (rest xs n i) (rest ys n i) ≡ true
same_end xs ys n i h = rw (rest_end xs n i h, rest_end ys n i h)

-- contexts of two lengths differ
pub same-lengths : (Γ Δ : Context) → (length Γ ≡ length Δ → ⊥) → same_context Γ Δ ≡ false
same-lengths [] [] h = absurd (h refl)
same-lengths [] (b ∷ Δ) h = refl
same-lengths (a ∷ Γ) [] h = refl
same-lengths (a ∷ Γ) (b ∷ Δ) h = rw (same-lengths Γ Δ (λ e. h (ap suc e))) (and-false (same_binding a b))
