-- Laws of what holds of each of a list (`All`), and of what is written of each (`each`). Assumes nothing.
use mathlib.Core.List.{List, [], ◌∷◌, ◌++◌, append_assoc}
use mathlib.Core.Path.{◌≡◌, refl, ap, sym, ◌∙◌}
use Rattle.image_spec.specs.Parse.{each, All}

module _ {A : Type 0} (P : A → Type 0) where
  pub all-++ : (a b : List A) → All P a → All P b → All P (a ++ b)
  all-++ [] b h k = k
  all-++ (x ∷ a) b h k = (h.0, all-++ a b h.1 k)

  pub all_left : (a b : List A) → All P (a ++ b) → All P a
  all_left [] b h = tt
  all_left (x ∷ a) b h = (h.0, all_left a b h.1)

  pub all_right : (a b : List A) → All P (a ++ b) → All P b
  all_right [] b h = h
  all_right (x ∷ a) b h = all_right a b h.1

pub each_append : {X A : Type 0} (e : A → List X) (xs ys : List A) → each e (xs ++ ys) ≡ each e xs ++ each e ys
each_append e [] ys = refl
each_append e (x ∷ xs) ys = ap (λ z. e x ++ z) (each_append e xs ys) ∙ sym (append_assoc (e x) (each e xs) (each e ys))
