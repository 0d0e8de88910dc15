-- Laws of the masks of free variables: a mask by its members and by its bits, joins, longer scopes; how many numbers the rows have.
-- Assumes nothing.
use Prim.Native.Nat.{ℕ, zero, suc, ◌+◌, ◌*◌, ◌/◌, ◌%◌, ◌^◌, ◌≤◌, ◌<◌, max}
use mathlib.Core.Path.{◌≡◌, refl, sym, ap, ap₂, ◌∙◌}
use mathlib.Core.Logic.{inl, inr}
use mathlib.Core.Bool.{Bool, true, false, ◌||◌}
use mathlib.Core.List.{List, [], ◌∷◌, ◌++◌}
use native.Mathlib.Omega.{arith}
use native.Mathlib.Nat.{pow-suc, div-div-eq-div-mul}
use lib.Arith.{mod-mul}
use lib.Bits.{bit_or, or_step}
use lib.Pow.{pow_pos}
use lib.ListN.{length, get_or}
use Rattle.syntax.specs.Sets.{elem, ◌∈◌, without}
use Rattle.syntax.specs.declared.names.VarId.{VarId}
use Rattle.syntax.proofs.Bools.{Answers}
use Rattle.syntax.proofs.Members.{elem?, ∈_without, without-∈}
use Rattle.scope_spec.specs.FreeRows.{bit, mask_of}
use Rattle.scope_spec.proofs.WalkLaws.{elem-++}

-- ── the bits of a mask ──

bit-small : (b : Bool) → bit b ≤ 1
bit-small true = omega arith
bit-small false = omega arith

pow_more : (n : ℕ) → 2 ^ suc n ≡ 2 * 2 ^ n
pow_more n = pow-suc 2 n ∙ omega arith

-- the mask of a scope of n variables has n bits
pub mask_lt : (s Δ : List VarId) → mask_of s Δ < 2 ^ length Δ
unfolding mask_of
mask_lt s [] = omega arith
mask_lt s (x ∷ Δ) = omega (arith, mask_lt s Δ, bit-small (elem x s), pow_more (length Δ))

pub mask_empty : (s : List VarId) → mask_of s [] ≡ 0
unfolding mask_of
mask_empty s = refl

-- its lowest bit, and the others
mask_head : (s : List VarId) (x : VarId) (Δ : List VarId) → mask_of s (x ∷ Δ) % 2 ≡ bit (elem x s)
unfolding mask_of
mask_head s x Δ = omega (arith, bit-small (elem x s))

mask_tail : (s : List VarId) (x : VarId) (Δ : List VarId) → mask_of s (x ∷ Δ) / 2 ≡ mask_of s Δ
unfolding mask_of
mask_tail s x Δ = omega (arith, bit-small (elem x s))

-- the bit of the variable that was bound p-th
pub mask_at : (s Δ : List VarId) (p : ℕ) (none : VarId) → p < length Δ → mask_of s Δ / 2 ^ p % 2 ≡ bit (elem (get_or Δ p none) s)
mask_at s [] p none h = absurd (omega arith)
mask_at s (x ∷ Δ) zero none h = ap (λ (n : ℕ). n % 2) (omega arith) ∙ mask_head s x Δ
mask_at s (x ∷ Δ) (suc p) none h =
    ap (λ (n : ℕ). mask_of s (x ∷ Δ) / n % 2) (pow_more p)
    ∙ ap (λ (n : ℕ). n % 2) (sym (div-div-eq-div-mul (mask_of s (x ∷ Δ)) 2 (2 ^ p)) ∙ ap (λ (n : ℕ). n / 2 ^ p) (mask_tail s x Δ))
    ∙ mask_at s Δ p none (omega arith)

-- ── a mask depends on the members only ──

pub mask_same : (s t Δ : List VarId) → ((x : VarId) → x ∈ Δ → elem x s ≡ elem x t) → mask_of s Δ ≡ mask_of t Δ
unfolding mask_of
mask_same s t [] f = refl
mask_same s t (x ∷ Δ) f = ap₂ (λ (b : Bool) (n : ℕ). bit b + 2 * n) (f x (inl refl)) (mask_same s t Δ (λ y h. f y (inr h)))

pub mask_none : (Δ : List VarId) → mask_of [] Δ ≡ 0
unfolding mask_of
mask_none [] = refl
mask_none (x ∷ Δ) = omega (arith, mask_none Δ)

-- ── joins ──

bit_or_lem : (a b : Bool) → max (bit a) (bit b) ≡ bit (a || b)
bit_or_lem true true = refl
bit_or_lem true false = refl
bit_or_lem false true = refl
bit_or_lem false false = refl

-- the mask of a join
pub mask-++ : (s u Δ : List VarId) → mask_of (s ++ u) Δ ≡ bit_or (mask_of s Δ) (mask_of u Δ)
mask-++ s u [] = mask_empty (s ++ u) ∙ ap₂ bit_or (sym (mask_empty s)) (sym (mask_empty u))
mask-++ s u (x ∷ Δ) =
    whole
    ∙ ap₂ (λ (n b : ℕ). n * 2 + b) (mask-++ s u Δ ∙ ap₂ bit_or (sym (mask_tail s x Δ)) (sym (mask_tail u x Δ)))
    (ap bit (elem-++ x s u) ∙ sym (bit_or_lem (elem x s) (elem x u)) ∙ ap₂ max (sym (mask_head s x Δ)) (sym (mask_head u x Δ)))
    ∙ sym (or_step (mask_of s (x ∷ Δ)) (mask_of u (x ∷ Δ)))
  where
    whole : mask_of (s ++ u) (x ∷ Δ) ≡ mask_of (s ++ u) Δ * 2 + bit (elem x (s ++ u))
    whole = omega (arith, mask_head (s ++ u) x Δ, mask_tail (s ++ u) x Δ)

-- ── longer scopes ──

-- what was bound first has the lowest places
pub mask_front : (s Δ xs : List VarId) → mask_of s (Δ ++ xs) % 2 ^ length Δ ≡ mask_of s Δ
mask_front s [] xs = omega (arith, mask_lt s [])
mask_front s (x ∷ Δ) xs =
    ap (λ (n : ℕ). mask_of s (x ∷ (Δ ++ xs)) % n) (pow-suc 2 (length Δ))
    ∙ mod-mul (mask_of s (x ∷ (Δ ++ xs))) (pow_pos (length Δ)) (omega arith)
    ∙ ap₂ (λ (n b : ℕ). n % 2 ^ length Δ * 2 + b) (mask_tail s x (Δ ++ xs)) (mask_head s x (Δ ++ xs))
    ∙ ap (λ (n : ℕ). n * 2 + bit (elem x s)) (mask_front s Δ xs)
    ∙ omega (arith, mask_head s x Δ, mask_tail s x Δ)

-- ── binders ──

-- binders that are new to the scope take nothing from a mask
pub mask_without : (s xs Δ : List VarId) → ((x : VarId) → x ∈ Δ → x ∈ xs → ⊥) → mask_of (without s xs) Δ ≡ mask_of s Δ
mask_without s xs Δ apart = mask_same (without s xs) s Δ (λ x k. go x k (elem? x s) (elem? x (without s xs)))
  where
    go : (x : VarId) → x ∈ Δ → Answers (elem x s) (x ∈ s) → Answers (elem x (without s xs)) (x ∈ without s xs) → elem x (without s xs) ≡ elem x s
    go x k (inl a) (inl b) = b.0 ∙ sym a.0
    go x k (inl a) (inr b) = absurd (b.1 (∈_without x s xs a.1 (λ m. apart x k m)))
    go x k (inr a) (inl b) = absurd (a.1 (without-∈ x s xs b.1).0)
    go x k (inr a) (inr b) = b.0 ∙ sym a.0
