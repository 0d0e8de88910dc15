-- An array that a loop stores into from a place on, one element a turn: what stands before the place is done, what stands from it on is as it was.
-- What is stored is what stands at that place of the whole: of a list's images, or of two lists joined. The array may be seen through a function.
-- Assumes nothing.
use mathlib.Core.Path.{◌≡◌, refl, sym, ap, ◌∙◌, subst}
use mathlib.Core.List.{List, ◌++◌, map}
use Prim.Native.Nat.{ℕ, ◌+◌, ◌-◌, ◌≤◌, ◌<◌}
use native.Mathlib.Omega.{arith}
use lib.ListN.{length, take, drop, get_or, set, length-set, length-append, length-map, get_or-map, get_or-append}
use lib.Seq.{take_at, take-length, drop-drop, drop-set-lt, get_or-take, get_or-append-add, length-take-le}
use Rattle.std.proofs.lemmas.List.{take_more, take_more_set, map-set}

module _ {A : Type 0} where
  -- l₀ is the array as it was, l as it is; the first i are those of the whole
  pub record Built (whole l₀ l : List A) (room i : ℕ) : Type 0 where
    pub size : length l ≡ room
    pub within : length whole ≤ room
    pub below : i ≤ length whole
    pub front : take i l ≡ take i whole
    pub left : drop i l ≡ drop i l₀

  pub built-start : (whole l : List A) {room : ℕ} → length l ≡ room → length whole ≤ room → Built whole l l room 0
  built-start whole l h k = record { size = h; within = k; below = omega arith; front = refl; left = refl }

  -- behind the first n of the array
  pub built-behind : (l more : List A) (n : ℕ) {room : ℕ} → length l ≡ room → n + length more ≤ room → Built (take n l ++ more) l l room n
  built-behind l more n h k =
      let q : length (take n l) ≡ n = length-take-le n l (omega arith) in
      record { size = h; within = omega (arith, length-append (take n l) more); below = omega (arith, length-append (take n l) more); front = sym (take_at (take n l) more n q); left = refl }

  -- the one at i is stored
  pub built-next : {whole l₀ l : List A} {room i : ℕ} (d a : A) → i < length whole → a ≡ get_or whole i d → Built whole l₀ l room i → Built whole l₀ (set l i a) room (i + 1)
  built-next {whole} {l₀} {l} {room} {i} d a h e s = record {
    size = rw length-set s.size;
    within = s.within;
    below = omega arith;
    front = rw (take_more_set l i a (omega (arith, s.size, s.within)), s.front, e, take_more whole i d h);
    left = drop-set-lt (i + 1) l i a (omega arith) ∙ sym (drop-drop 1 i l) ∙ ap (drop 1) s.left ∙ drop-drop 1 i l₀;
  }

  -- the loop has ended
  pub built-done : {whole l₀ l : List A} {room i : ℕ} (n : ℕ) → n ≡ length whole → n ≤ i → Built whole l₀ l room i → take n l ≡ whole
  built-done {whole} {l₀} {l} {room} {i} n q h s =
      let e : i ≡ length whole = omega (arith, s.below) in
      rw (q, ← e, s.front, e) (take-length whole)

-- the array is seen through f, and the one at i is stored
pub built-seen : {A B : Type 0} (f : A → B) (l : List A) {whole l₀ : List B} {room i : ℕ} (d : B) (a : A) → i < length whole → f a ≡ get_or whole i d →
    Built whole l₀ (map f l) room i → Built whole l₀ (map f (set l i a)) room (i + 1)
built-seen {B = B} f l {whole} {l₀} {room} {i} d a h e s = subst (λ (k : List B). Built whole l₀ k room (i + 1)) (sym (map-set f l i a)) (built-next d (f a) h e s)

-- the images of an array's first n
module _ {A B : Type 0} (f : A → B) where
  pub mapped_at : (l : List A) (n i : ℕ) (d : A) → i < n → f (get_or l i d) ≡ get_or (map f (take n l)) i (f d)
  mapped_at l n i d h = sym (get_or-map f (take n l) i d ∙ ap f (get_or-take n l i d h))

  pub mapped_count : (l : List A) (n : ℕ) → n ≤ length l → length (map f (take n l)) ≡ n
  mapped_count l n h = length-map (take n l) f ∙ length-take-le n l h

-- two lists joined, the first with n elements
module _ {A : Type 0} (p q : List A) (n : ℕ) (d : A) (h : length p ≡ n) where
  pub joined-left : (i : ℕ) → i < n → get_or (p ++ q) i d ≡ get_or p i d
  joined-left i k = get_or-append p q d i (omega arith)

  pub joined-behind : (i : ℕ) → get_or (p ++ q) (n + i) d ≡ get_or q i d
  joined-behind i = rw (← h) (get_or-append-add p q i d)

  pub joined-right : (i : ℕ) → n ≤ i → get_or (p ++ q) i d ≡ get_or q (i - n) d
  joined-right i k =
      let e : i ≡ n + (i - n) = omega arith in
      ap (λ (j : ℕ). get_or (p ++ q) j d) e ∙ joined-behind (i - n)

-- the first n of an array, with others behind
module _ {A : Type 0} (l : List A) (n i : ℕ) (d : A) (h : n ≤ length l) where
  pub taken-left : (q : List A) → i < n → get_or l i d ≡ get_or (take n l ++ q) i d
  taken-left q k = sym (joined-left (take n l) q n d (length-take-le n l h) i k ∙ get_or-take n l i d k)

  pub taken-right : (m : List A) (b : ℕ) → n ≤ i → i < n + b → get_or m (i - n) d ≡ get_or (take n l ++ take b m) i d
  taken-right m b k r = sym (joined-right (take n l) (take b m) n d (length-take-le n l h) i k ∙ get_or-take b m (i - n) d (omega arith))
