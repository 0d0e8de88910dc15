-- Rearrangements of a list. Assumes nothing.
use mathlib.Core.Path.{◌≡◌, refl, ap, ◌∙◌}
use mathlib.Core.List.{List, [], ◌∷◌, ◌++◌, append-nil, reverse, reverse_aux}
use Prim.Native.Nat.{suc}
use lib.ListN.{length}

module _ {A : Type 0} where
  pub data Perm : List A → List A → Type 0 where
    nil : Perm [] []
    keep : (a : A) {s t : List A} → Perm s t → Perm (a ∷ s) (a ∷ t)
    swap : (a b : A) (s : List A) → Perm (a ∷ b ∷ s) (b ∷ a ∷ s)
    trans : {s t u : List A} → Perm s t → Perm t u → Perm s u

  pub perm_refl : (s : List A) → Perm s s
  perm_refl [] = nil
  perm_refl (a ∷ s) = keep a (perm_refl s)

  pub perm_sym : {s t : List A} → Perm s t → Perm t s
  perm_sym nil = nil
  perm_sym (keep a p) = keep a (perm_sym p)
  perm_sym (swap a b s) = swap b a s
  perm_sym (trans p q) = trans (perm_sym q) (perm_sym p)

  pub perm_middle : (c : A) (xs ys : List A) → Perm (xs ++ c ∷ ys) (c ∷ (xs ++ ys))
  perm_middle c [] ys = perm_refl (c ∷ ys)
  perm_middle c (x ∷ xs) ys = trans (keep x (perm_middle c xs ys)) (swap x c (xs ++ ys))

  pub perm_swap : (xs ys : List A) → Perm (xs ++ ys) (ys ++ xs)
  perm_swap [] ys = rw append-nil (perm_refl ys)
  perm_swap (x ∷ xs) ys = trans (keep x (perm_swap xs ys)) (perm_sym (perm_middle x ys xs))

  pub perm_after : (xs : List A) {s t : List A} → Perm s t → Perm (xs ++ s) (xs ++ t)
  perm_after [] p = p
  perm_after (x ∷ xs) p = keep x (perm_after xs p)

  perm_reverse_aux : (xs acc : List A) → Perm (xs ++ acc) (reverse_aux xs acc)
  perm_reverse_aux [] acc = perm_refl acc
  perm_reverse_aux (x ∷ xs) acc = trans (perm_sym (perm_middle x xs acc)) (perm_reverse_aux xs (x ∷ acc))

  pub perm_reverse : (xs : List A) → Perm xs (reverse xs)
  perm_reverse xs = rw append-nil at (perm_reverse_aux xs [])

  pub perm_length : {s t : List A} → Perm s t → length s ≡ length t
  perm_length nil = refl
  perm_length (keep a p) = ap suc (perm_length p)
  perm_length (swap a b s) = refl
  perm_length (trans p q) = perm_length p ∙ perm_length q
