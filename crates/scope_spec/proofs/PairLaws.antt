-- Pairs of masks, and the numbers that they are: how many, what stands where, and what a store does. Assumes nothing.
use Prim.Native.Nat.{ℕ, zero, suc, ◌+◌, ◌*◌, ◌≤◌, ◌<◌}
use mathlib.Core.Path.{◌≡◌, refl, sym, ap, ◌∙◌}
use mathlib.Core.List.{List, [], ◌∷◌}
use native.Mathlib.Omega.{arith}
use lib.ListN.{length, get_or, set}
use lib.Seq.{sets, set_out}
use Rattle.scope_spec.specs.declared.FreeVars.{FreeVars}
use Rattle.scope_spec.specs.Pairs.{masks_of}

pub masks-length : (fs : List FreeVars) → length (masks_of fs) ≡ 2 * length fs
masks-length [] = refl
masks-length (f ∷ fs) = omega (arith, masks-length fs)

-- what an index past the end stands for
abbrev pub no_masks : FreeVars
no_masks = record { clauses = 0; next = 0 }

-- where the masks of a pair stand
pub masks-first : (fs : List FreeVars) (i : ℕ) (none : FreeVars) → i < length fs → get_or (masks_of fs) (2 * i) 0 ≡ (get_or fs i none).clauses
masks-first [] i none h = absurd (omega arith)
masks-first (f ∷ fs) zero none h = refl
masks-first (f ∷ fs) (suc i) none h =
    let two : 2 * suc i ≡ suc (suc (2 * i)) = omega arith in
    rw two (masks-first fs i none (omega arith))

pub masks-second : (fs : List FreeVars) (i : ℕ) (none : FreeVars) → i < length fs → get_or (masks_of fs) (2 * i + 1) 0 ≡ (get_or fs i none).next
masks-second [] i none h = absurd (omega arith)
masks-second (f ∷ fs) zero none h = refl
masks-second (f ∷ fs) (suc i) none h =
    let two : 2 * suc i + 1 ≡ suc (suc (2 * i + 1)) = omega arith in
    rw two (masks-second fs i none (omega arith))

-- a pair that is stored is two masks that are
pub masks-set : (fs : List FreeVars) (i : ℕ) (f : FreeVars) → masks_of (set fs i f) ≡ sets (masks_of fs) (2 * i) (f.clauses ∷ f.next ∷ [])
masks-set [] i f = refl
masks-set (g ∷ fs) zero f = refl
masks-set (g ∷ fs) (suc i) f =
    let two : 2 * suc i ≡ suc (suc (2 * i)) = omega arith in
    rw two (ap (λ (ms : List ℕ). g.clauses ∷ g.next ∷ ms) (masks-set fs i f))

-- .. and past the end nothing is
pub masks-past : (fs : List FreeVars) (i : ℕ) (f : FreeVars) → length fs ≤ i → masks_of fs ≡ sets (masks_of fs) (2 * i) (f.clauses ∷ f.next ∷ [])
masks-past fs i f h = ap masks_of (sym (set_out fs i f h)) ∙ masks-set fs i f
