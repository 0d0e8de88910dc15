-- What the walk finds at a use, as the code holds it: the places of what was used, and the verdict. Assumes nothing.
use Prim.Native.Nat.{ℕ, zero, suc, ◌+◌, ◌*◌, ◌/◌, ◌%◌, max}
use mathlib.Core.Path.{◌≡◌, refl, sym, ap, ap₂, ◌∙◌}
use mathlib.Core.Bool.{Bool, true, false, not, ◌&&◌, ◌||◌, or-false}
use mathlib.Core.List.{List, [], ◌∷◌}
use native.Mathlib.Omega.{arith}
use Rattle.std.proofs.lemmas.Bool.Decides.{nat_tests}
use borrow.Author.Tests.{ne_eqb}
use lib.Arith.{bin_ind}
use lib.Bits.{bit_or, or_step, or_zero_r}
use lib.Dec.{eqb}
use Rattle.syntax.specs.Sets.{elem}
use Rattle.syntax.specs.declared.names.VarId.{VarId}
use Rattle.scope_spec.specs.Walk.{use_all}
use Rattle.scope_spec.specs.FreeRows.{bit, mask_of}
use Rattle.scope_spec.proofs.RowLaws.{mask-++, mask_none}
use Rattle.scope_places.specs.Scoping.{used_all_lem}
use Rattle.scope_places.specs.declared.scoping.Using.{Using}

-- ── masks ──

or_half : (a b : ℕ) → bit_or a b / 2 ≡ bit_or (a / 2) (b / 2)
or_half a b = omega (arith, or_step a b)

or_odd : (a b : ℕ) → bit_or a b % 2 ≡ max (a % 2) (b % 2)
or_odd a b = omega (arith, or_step a b)

max_assoc : (a b c : ℕ) → max (max a b) c ≡ max a (max b c)
max_assoc a b c = omega arith

or_assoc : (a b c : ℕ) → bit_or (bit_or a b) c ≡ bit_or a (bit_or b c)
or_assoc =
    bin_ind (λ (n : ℕ). (b c : ℕ) → bit_or (bit_or n b) c ≡ bit_or n (bit_or b c)) (λ b c. refl)
    (λ n ih b c. or_step (bit_or n b) c
    ∙ ap₂ (λ (x y : ℕ). x * 2 + y)
    (ap (λ (z : ℕ). bit_or z (c / 2)) (or_half n b) ∙ (ih (b / 2) (c / 2) ∙ ap (bit_or (n / 2)) (sym (or_half b c))))
    (ap (λ (z : ℕ). max z (c % 2)) (or_odd n b) ∙ (max_assoc (n % 2) (b % 2) (c % 2) ∙ ap (max (n % 2)) (sym (or_odd b c))))
    ∙ sym (or_step n (bit_or b c)))

-- a mask is not 0 if its first bit is 1, or the others are not 0
not_zero : (b : Bool) (m : ℕ) → not (eqb (bit b + 2 * m) 0) ≡ (b || not (eqb m 0))
not_zero true m = ap not (ne_eqb (1 + 2 * m) 0 (λ q. omega (arith, q)))
not_zero false zero = refl
not_zero false (suc m) = ap not (ne_eqb (0 + 2 * suc m) 0 (λ q. omega (arith, q))) ∙ sym (ap not (ne_eqb (suc m) 0 (λ q. omega (arith, q))))

-- an ID is in scope exactly if it has a place
mask_in : (x : VarId) (Δ : List VarId) → not (eqb (mask_of (x ∷ []) Δ) 0) ≡ elem x Δ
unfolding mask_of
mask_in x [] = refl
mask_in x (y ∷ Δ) =
    let turned : eqb y.0 x.0 ≡ eqb x.0 y.0 = grind (arith, nat_tests) in
    not_zero (elem y (x ∷ [])) (mask_of (x ∷ []) Δ)
    ∙ ap₂ ◌||◌ (or-false (eqb y.0 x.0) ∙ turned) (mask_in x Δ)

-- ── uses ──

pub used-one : (Δ : List VarId) (x : VarId) (u : Using) {one : ℕ} {b : Bool} → one ≡ mask_of (x ∷ []) Δ → b ≡ (u.verdict.uses && not (eqb one 0))
    → ◌≡◌ {A = Using} (record { mask = bit_or u.mask one; verdict = record { room = u.verdict.room; binders = u.verdict.binders; uses = b; ids = u.verdict.ids } }) (used_all_lem Δ (x ∷ []) u)
used-one Δ x u {one} {b} m e =
    let q : b ≡ (u.verdict.uses && elem x Δ) = e ∙ ap (λ (t : Bool). u.verdict.uses && t) (ap (λ (n : ℕ). not (eqb n 0)) m ∙ mask_in x Δ) in
    λ j. record { mask = bit_or u.mask (m j); verdict = record { room = u.verdict.room; binders = u.verdict.binders; uses = q j; ids = u.verdict.ids } }

pub used_none : (Δ : List VarId) (u : Using) → used_all_lem Δ [] u ≡ u
used_none Δ u = let e : bit_or u.mask (mask_of [] Δ) ≡ u.mask = ap (bit_or u.mask) (mask_none Δ) ∙ or_zero_r u.mask in λ j. record { mask = e j; verdict = u.verdict }

pub used-more : (Δ : List VarId) (x : VarId) (xs : List VarId) (u : Using) → used_all_lem Δ (x ∷ xs) u ≡ used_all_lem Δ xs (used_all_lem Δ (x ∷ []) u)
used-more Δ x xs u =
    let e : bit_or u.mask (mask_of (x ∷ xs) Δ) ≡ bit_or (bit_or u.mask (mask_of (x ∷ []) Δ)) (mask_of xs Δ) =
    ap (bit_or u.mask) (mask-++ (x ∷ []) xs Δ) ∙ sym (or_assoc u.mask (mask_of (x ∷ []) Δ) (mask_of xs Δ)) in
    λ j. record { mask = e j; verdict = use_all Δ (x ∷ xs) u.verdict }

pub used-same : (Δ : List VarId) (u : Using) {xs ys : List VarId} {r : Using} → ys ≡ xs → r ≡ used_all_lem Δ xs u → r ≡ used_all_lem Δ ys u
used-same Δ u q h = h ∙ ap (λ (zs : List VarId). used_all_lem Δ zs u) (sym q)

pub used_then : (Δ : List VarId) (u : Using) (x : VarId) (xs : List VarId) {v r : Using} → v ≡ used_all_lem Δ (x ∷ []) u → r ≡ used_all_lem Δ xs v → r ≡ used_all_lem Δ (x ∷ xs) u
used_then Δ u x xs q h = h ∙ (ap (used_all_lem Δ xs) q ∙ sym (used-more Δ x xs u))
