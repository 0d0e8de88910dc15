-- When no ID stands twice in two lists together: `distinct_append`, and in a list with one more at its end: `distinct-last`. Assumes nothing.
use mathlib.Core.Path.{◌≡◌, refl, sym, ap, ap₂, ◌∙◌}
use mathlib.Core.Bool.{Bool, true, false, not, ◌&&◌, ◌||◌, and-true, or-false}
use mathlib.Core.List.{List, [], ◌∷◌, ◌++◌}
use native.Mathlib.Omega.{arith}
use Rattle.std.proofs.lemmas.Bool.Decides.{nat_tests}
use Rattle.std.proofs.lemmas.List.Folds.{list_any-append}
use Rattle.syntax.proofs.Members.{list_any-elem}
use Rattle.syntax.specs.Names.{same_var_id}
use Rattle.syntax.specs.Sets.{elem, distinct}
use Rattle.syntax.specs.declared.names.VarId.{VarId}
use Rattle.step_rows.specs.Apart.{apart}
use Rattle.step_rows.proofs.RowLoops.{not_or}

elem-append : (x : VarId) (xs ys : List VarId) → elem x (xs ++ ys) ≡ (elem x xs || elem x ys)
elem-append x xs ys =
    sym (list_any-elem x (xs ++ ys)) ∙ (list_any-append (λ (y : VarId). same_var_id y x) xs ys ∙ ap₂ {C = Bool} (λ (a b : Bool). a || b) (list_any-elem x xs) (list_any-elem x ys))

-- in another order
regroup : (a b c d e : Bool) → (not (a || b) && (c && (d && e))) ≡ (not a && c && (d && (not b && e)))
regroup true b c d e = refl
regroup false true true true e = refl
regroup false true true false e = refl
regroup false true false d e = refl
regroup false false true d e = refl
regroup false false false d e = refl

pub distinct_append : (xs ys : List VarId) → distinct (xs ++ ys) ≡ (distinct xs && (distinct ys && apart xs ys))
distinct_append [] ys = sym (and-true (distinct ys))
distinct_append (x ∷ xs) ys =
    ap₂ (λ (a b : Bool). not a && b) (elem-append x xs ys) (distinct_append xs ys)
    ∙ regroup (elem x xs) (elem x ys) (distinct xs) (distinct ys) (apart xs ys)

turned : (a b : VarId) → same_var_id a b ≡ same_var_id b a
turned a b = grind (arith, nat_tests)

apart-one : (xs : List VarId) (x : VarId) → apart xs (x ∷ []) ≡ not (elem x xs)
apart-one [] x = refl
apart-one (y ∷ xs) x =
    ap₂ (λ (a b : Bool). not a && b) (or-false (same_var_id y x) ∙ turned y x) (apart-one xs x)
    ∙ sym (not_or (same_var_id x y) (elem x xs))

-- one more at the end
pub distinct-last : (xs : List VarId) (x : VarId) → distinct (xs ++ (x ∷ [])) ≡ (distinct xs && not (elem x xs))
distinct-last xs x = distinct_append xs (x ∷ []) ∙ ap (λ (b : Bool). distinct xs && b) (apart-one xs x)
