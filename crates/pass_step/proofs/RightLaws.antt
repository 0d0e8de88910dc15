-- What a filter retains: equal counts mean equal lists, so the counts say whether the context is right. Assumes nothing.
use Prim.Native.Nat.{ℕ, suc}
use mathlib.Core.Path.{◌≡◌, refl, sym, ap, ◌∙◌}
use mathlib.Core.Bool.{Bool, true, false, cond}
use mathlib.Core.List.{List, [], ◌∷◌}
use native.Mathlib.Omega.{arith}
use borrow.Author.Tests.{eqb-true, eqb-false}
use lib.Dec.{eqb}
use lib.ListN.{length, length-map}
use Rattle.syntax.specs.Context.{same_context}
use Rattle.syntax.specs.Filter.{retained, filtered}
use Rattle.syntax.proofs.Filters.{retained-fewer, filtered_perm, filtered_none, filtered_in}
use Rattle.syntax.proofs.Permutations.{perm_length}
use Rattle.syntax.proofs.Same.{same_context_self, same-lengths}
use Rattle.pass_work_spec.specs.Work.{Work, bindings}
use Rattle.pass_work_spec.specs.declared.Entry.{Entry}
use Rattle.pass_context.specs.Holding.{work_of, HoldsWork}
use Rattle.pass_context.proofs.Counts.{work-count}
use Rattle.pass_context.specs.declared.Held.{Held}

-- where all are retained, nothing changes
retained-all : {A : Type 0} (p : A → Bool) (l : List A) → length (retained p l) ≡ length l → filtered p l ≡ l
unfolding retained
retained-all p [] e = filtered_none p
retained-all {A} p (x ∷ xs) e = by (p x) refl (λ h. retained-all p xs h) e
  where
    by : (t : Bool) → p x ≡ t → (length (retained p xs) ≡ length xs → filtered p xs ≡ xs) → length (cond t (x ∷ retained p xs) (retained p xs)) ≡ suc (length xs) → filtered p (x ∷ xs) ≡ x ∷ xs
    by true f g h = filtered_in p x xs f ∙ ap (λ (r : List A). x ∷ r) (g (omega arith))
    by false f g h = absurd (omega (arith, retained-fewer p xs))

pub filtered-all : {A : Type 0} (p : A → Bool) (l : List A) → length (filtered p l) ≡ length l → filtered p l ≡ l
filtered-all p l e = retained-all p l (perm_length (filtered_perm p l) ∙ e)

-- as many bindings as entries
pub bindings-count : (W : Work) → length (bindings W) ≡ length W
bindings-count W = length-map W (λ (e : Entry). e.binding)

-- so the counts say whether the context is what was retained of it
pub filtered-right : (p : Entry → Bool) (W : Work) → eqb (length (filtered p W)) (length W) ≡ same_context (bindings W) (bindings (filtered p W))
filtered-right p W = by (eqb (length (filtered p W)) (length W)) refl
  where
    by : (t : Bool) → eqb (length (filtered p W)) (length W) ≡ t → t ≡ same_context (bindings W) (bindings (filtered p W))
    by true e = rw (filtered-all p W (eqb-true (length (filtered p W)) (length W) e)) (sym (same_context_self (bindings W)))
    by false e =
        let h : ¬ (length (bindings W) ≡ length (bindings (filtered p W))) = λ q. eqb-false (length (filtered p W)) (length W) e (omega (arith, q, bindings-count W, bindings-count (filtered p W))) in
        sym (same-lengths (bindings W) (bindings (filtered p W)) h)

-- .. as the structs have them
pub kept-right : (p : Entry → Bool) (held : Held) {new : Held} → HoldsWork new (filtered p (work_of held)) → eqb new.len held.len ≡ same_context (bindings (work_of held)) (bindings (filtered p (work_of held)))
kept-right p held h = ap (λ (k : ℕ). eqb k held.len) h.count ∙ ap (eqb (length (filtered p (work_of held)))) (work-count held) ∙ filtered-right p (work_of held)
