-- Elements of an array that are written one after another (`Written`, with its start and step), and behind their count. Assumes nothing.
use Prim.Native.Nat.{ℕ, ◌+◌, ◌*◌, ◌≤◌, ◌<◌}
use mathlib.Core.List.{List, [], ◌∷◌, ◌++◌, map, append-nil}
use mathlib.Core.Path.{◌≡◌, refl, sym, ap, ◌∙◌}
use native.Mathlib.Omega.{arith}
use native.Mathlib.Nat.{mul-zero}
use lib.ListN.{length, take, get_or}
use Rattle.std.proofs.lemmas.List.{take_more}
use Rattle.image_spec.specs.Parse.{each}
use Rattle.image_spec.proofs.ListLaws.{each_append}
use Rattle.image_write_parts.specs.Puts.{Puts}
use Rattle.image_write_parts.proofs.Putting.{puts_none, puts_as, puts_then}

module _ {A : Type 0} (e : A → List ℕ) where
  pub each_map : {B : Type 0} (f : B → A) (xs : List B) → each e (map f xs) ≡ each (λ x. e (f x)) xs
  each_map f [] = refl
  each_map f (x ∷ xs) = ap (λ z. e (f x) ++ z) (each_map f xs)

  each_next : (l : List A) (i : ℕ) (d : A) → i < length l → each e (take (i + 1) l) ≡ each e (take i l) ++ e (get_or l i d)
  each_next l i d h =
      ap (each e) (take_more l i d h) ∙ (each_append e (take i l) (get_or l i d ∷ []) ∙ ap (λ z. each e (take i l) ++ z) (append-nil (e (get_or l i d))))

  -- the first i elements are written, and each took at most k bytes
  pub record Written (k : ℕ) (l : List A) (before : List ℕ) (at : ℕ) (after : List ℕ) (here i : ℕ) : Type 0 where
    pub far : here ≤ at + k * i
    pub puts : Puts before after at here (each e (take i l))

  pub written_none : (k : ℕ) (l : List A) (before : List ℕ) (at : ℕ) → Written k l before at before at 0
  written_none k l before at = record { far = rw (mul-zero k) (omega arith); puts = puts_none before at }

  pub written_next : {k : ℕ} {l : List A} {before : List ℕ} {at : ℕ} {after next : List ℕ} {here n i : ℕ} (d : A) → i < length l
      → length (e (get_or l i d)) ≤ k → Puts after next here n (e (get_or l i d)) → Written k l before at after here i → Written k l before at next n (i + 1)
  written_next {l = l} {i = i} d h m q p = record {
    far = omega (arith, m, q.ends, p.far);
    puts = puts_as (sym (each_next l i d h)) (puts_then p.puts q);
  }

-- a byte by itself
abbrev pub alone : ℕ → List ℕ
alone b = b ∷ []

pub each-alone : (xs : List ℕ) → each alone xs ≡ xs
each-alone [] = refl
each-alone (x ∷ xs) = ap (λ z. x ∷ z) (each-alone xs)

-- a count, then as many elements
pub counted-put : {A : Type 0} (e : A → List ℕ) (xs : List A) {a b c : List ℕ} {at n k m : ℕ} → Puts a b at n (m ∷ []) → m ≡ length xs → Puts b c n k (each e xs)
    → Puts a c at k (length xs ∷ each e xs)
counted-put e xs p q r = puts_then (puts_as (ap (λ j. j ∷ []) q) p) r
