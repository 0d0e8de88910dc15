-- `ascending` has the members of the set, each once, in ascending order. Assumes nothing.
use mathlib.Core.Path.{◌≡◌, refl, sym, subst}
use mathlib.Core.Logic.{◌⊎◌, inl, inr}
use mathlib.Core.Bool.{Bool, true, false, not}
use mathlib.Core.List.{List, [], ◌∷◌}
use Prim.Native.Nat.{◌<◌}
use native.Mathlib.Omega.{arith}
use lib.Dec.{T, ltb, ltb→lt, nltb→le}
use Rattle.syntax.specs.Names.{same_var_id}
use Rattle.syntax.specs.Sets.{◌∈◌}
use Rattle.syntax.specs.declared.names.VarId.{VarId}
use Rattle.syntax.proofs.Bools.{Answers}
use Rattle.syntax.proofs.Members.{number_eq, same?}
use Rattle.model.specs.FreeVars.{insert, ascending}

-- every member is above x
abbrev pub Above : VarId → List VarId → Type 0
Above x s = (y : VarId) → y ∈ s → x.0 < y.0

abbrev pub Ascending : List VarId → Type 0
Ascending [] = Unit {0}
Ascending (x ∷ s) = Above x s × Ascending s

-- where x goes: before y, at y, behind y
data Place (x y : VarId) : Type 0 where
  before : ltb x.0 y.0 ≡ true → x.0 < y.0 → Place x y
  here : ltb x.0 y.0 ≡ false → same_var_id x y ≡ true → x ≡ y → Place x y
  behind : ltb x.0 y.0 ≡ false → same_var_id x y ≡ false → y.0 < x.0 → Place x y

place : (x y : VarId) → Place x y
place x y = go (ltb x.0 y.0) refl (same? x y)
  where
    go : (b : Bool) → ltb x.0 y.0 ≡ b → Answers (same_var_id x y) (x ≡ y) → Place x y
    go true e a = before e (ltb→lt x.0 y.0 (subst T (sym e) tt))
    go false e (inl p) = here e p.0 p.1
    go false e (inr p) =
        let apart : ¬ (x.0 ≡ y.0) = λ q. p.1 (number_eq x y q) in
        behind e p.0 (omega (arith, nltb→le x.0 y.0 (subst (λ (b : Bool). T (not b)) (sym e) tt)))

insert_in : (x : VarId) (s : List VarId) (y : VarId) → y ∈ insert x s → (y ≡ x) ⊎ (y ∈ s)
insert_in x [] y h = h
insert_in x (z ∷ s) y h = go (place x z) (λ k. insert_in x s y k) h
  where
    deeper : (y ∈ insert x s → (y ≡ x) ⊎ (y ∈ s)) → y ∈ (z ∷ insert x s) → (y ≡ x) ⊎ (y ∈ (z ∷ s))
    deeper ih (inl e) = inr (inl e)
    deeper ih (inr k) = out (ih k)
      where
        out : (y ≡ x) ⊎ (y ∈ s) → (y ≡ x) ⊎ (y ∈ (z ∷ s))
        out (inl e) = inl e
        out (inr m) = inr (inr m)

    go : Place x z → (y ∈ insert x s → (y ≡ x) ⊎ (y ∈ s)) → y ∈ insert x (z ∷ s) → (y ≡ x) ⊎ (y ∈ (z ∷ s))
    go (before e q) ih k = rw e at k
    go (here e f q) ih k = inr (rw (e, f) at k)
    go (behind e f q) ih k = deeper ih (rw (e, f) at k)

in_insert : (x : VarId) (s : List VarId) (y : VarId) → (y ≡ x) ⊎ (y ∈ s) → y ∈ insert x s
in_insert x [] y h = h
in_insert x (z ∷ s) y h = go (place x z) (λ k. in_insert x s y k) h
  where
    go : Place x z → ((y ≡ x) ⊎ (y ∈ s) → y ∈ insert x s) → (y ≡ x) ⊎ (y ∈ (z ∷ s)) → y ∈ insert x (z ∷ s)
    go (before e q) ih k = rw e k
    go (here e f q) ih (inl k) = rw (e, f) (inl (cc))
    go (here e f q) ih (inr k) = rw (e, f) k
    go (behind e f q) ih (inl k) = rw (e, f) (inr (ih (inl k)))
    go (behind e f q) ih (inr (inl k)) = rw (e, f) (inl k)
    go (behind e f q) ih (inr (inr k)) = rw (e, f) (inr (ih (inr k)))

insert-ascending : (x : VarId) (s : List VarId) → Ascending s → Ascending (insert x s)
insert-ascending x [] a = (λ y h. absurd h, tt)
insert-ascending x (z ∷ s) a = go (place x z) (insert-ascending x s a.1)
  where
    first : x.0 < z.0 → Above x (z ∷ s)
    first q y (inl e) = rw e q
    first q y (inr h) = omega (arith, a.0 y h)

    rest : z.0 < x.0 → Above z (insert x s)
    rest q y h = out (insert_in x s y h)
      where
        out : (y ≡ x) ⊎ (y ∈ s) → z.0 < y.0
        out (inl e) = rw e q
        out (inr m) = a.0 y m

    go : Place x z → Ascending (insert x s) → Ascending (insert x (z ∷ s))
    go (before e q) ih = rw e (first q, a)
    go (here e f q) ih = rw (e, f) a
    go (behind e f q) ih = rw (e, f) (rest q, ih)

pub ascending-ascends : (s : List VarId) → Ascending (ascending s)
ascending-ascends [] = tt
ascending-ascends (x ∷ s) = insert-ascending x (ascending s) (ascending-ascends s)

pub in_ascending : (s : List VarId) (x : VarId) → x ∈ s → x ∈ ascending s
in_ascending [] x h = h
in_ascending (y ∷ s) x (inl e) = in_insert y (ascending s) x (inl e)
in_ascending (y ∷ s) x (inr h) = in_insert y (ascending s) x (inr (in_ascending s x h))

pub ascending_in : (s : List VarId) (x : VarId) → x ∈ ascending s → x ∈ s
ascending_in [] x h = h
ascending_in (y ∷ s) x h = go (λ k. ascending_in s x k) (insert_in y (ascending s) x h)
  where
    go : (x ∈ ascending s → x ∈ s) → (x ≡ y) ⊎ (x ∈ ascending s) → x ∈ (y ∷ s)
    go ih (inl e) = inl e
    go ih (inr k) = inr (ih k)
