-- Lists all of whose members have a property, and small facts of lists and tests. (Of lists behind one another: image_spec/proofs/ListLaws.antt.)
-- Assumes nothing.
use Prim.Native.Nat.{ℕ, zero, suc, ◌<◌}
use mathlib.Core.Path.{◌≡◌, refl, sym, ap, ◌∙◌, subst}
use mathlib.Core.Bool.{Bool, true, false, false≢true}
use mathlib.Core.List.{List, [], ◌∷◌, map}
use mathlib.Core.Option.{some}
use native.Mathlib.Omega.{arith}
use borrow.Author.Tests.{ltb-true, ltb-false}
use lib.Dec.{ltb, eqb}
use lib.ListN.{length, take, drop, drop_of_length-le}
use Rattle.model.specs.Machine.{nth}
use Rattle.image_spec.specs.Parse.{All}
use Rattle.image_spec.specs.Records.{Record}
pub use Rattle.image_spec.proofs.ListLaws.{all-++, all_left, all_right, each_append as each-++}
use Rattle.step_spec.specs.Store.{bit, first_record}

module _ {A : Type 0} (Q : A → Type 0) where
  pub all_take : (n : ℕ) (xs : List A) → All Q xs → All Q (take n xs)
  all_take zero xs h = tt
  all_take (suc n) [] h = tt
  all_take (suc n) (x ∷ xs) h = (h.0, all_take n xs h.1)

  pub all_drop : (n : ℕ) (xs : List A) → All Q xs → All Q (drop n xs)
  all_drop zero xs h = h
  all_drop (suc n) [] h = tt
  all_drop (suc n) (x ∷ xs) h = all_drop n xs h.1

  pub all-at : (xs : List A) (i : ℕ) (a : A) → All Q xs → nth i xs ≡ some a → Q a
  all-at [] zero a h e = let z : ◌≡◌ {A = ℕ} 0 1 = cc in absurd (omega arith)
  all-at [] (suc i) a h e = let z : ◌≡◌ {A = ℕ} 0 1 = cc in absurd (omega arith)
  all-at (x ∷ xs) zero a h e = let q : x ≡ a = cc in subst Q q h.0
  all-at (x ∷ xs) (suc i) a h e = all-at xs i a h.1 e

  pub all_weaker : (R : A → Type 0) (xs : List A) → ((a : A) → Q a → R a) → All Q xs → All R xs
  all_weaker R [] f h = tt
  all_weaker R (x ∷ xs) f h = (f x h.0, all_weaker R xs f h.1)

  pub all_map : {B : Type 0} (R : B → Type 0) (f : A → B) (xs : List A) → ((a : A) → Q a → R (f a)) → All Q xs → All R (map f xs)
  all_map R f [] h o = tt
  all_map R f (x ∷ xs) h o = (h x o.0, all_map R f xs h o.1)

pub nth_inside : {A : Type 0} (i : ℕ) (xs : List A) (a : A) → nth i xs ≡ some a → i < length xs
nth_inside zero [] a e = let z : ◌≡◌ {A = ℕ} 0 1 = cc in absurd (omega arith)
nth_inside (suc i) [] a e = let z : ◌≡◌ {A = ℕ} 0 1 = cc in absurd (omega arith)
nth_inside zero (x ∷ xs) a e = omega arith
nth_inside (suc i) (x ∷ xs) a e = omega (arith, nth_inside i xs a e)

pub all_mapped : {A B : Type 0} (R : B → Type 0) (f : A → B) (xs : List A) → ((a : A) → R (f a)) → All R (map f xs)
all_mapped R f [] h = tt
all_mapped R f (x ∷ xs) h = (h x, all_mapped R f xs h)

-- a record that passes a test is one of the list's
pub record_inside : (f : Record → Bool) (rs : List Record) (i : ℕ) → first_record f (drop i rs) ≡ true → i < length rs
record_inside f rs i e = go (ltb i (length rs)) refl
  where
    go : (t : Bool) → ltb i (length rs) ≡ t → i < length rs
    go true q = ltb-true i (length rs) q
    go false q = absurd (false≢true (ap (first_record f) (sym (drop_of_length-le rs {i = i} (ltb-false i (length rs) q))) ∙ e))

pub bit-back : (b : Bool) → eqb (bit b) 1 ≡ b
bit-back true = refl
bit-back false = refl

pub bit-small : (b : Bool) → bit b < 2
bit-small true = omega arith
bit-small false = omega arith
