-- A parser is exact for a writer: it reads what is written of each value within limits, and nothing else.
-- `Exact`, and one law for each way to build a parser, in the order of specs/Parse.antt. Assumes nothing.
use Prim.Native.Nat.{ℕ, zero, suc, ◌+◌, ◌*◌, ◌/◌, ◌%◌, ◌^◌, ◌≤◌, ◌<◌}
use mathlib.Core.List.{List, [], ◌∷◌, ◌++◌, append_assoc, append-nil}
use mathlib.Core.Bool.{Bool, true, false}
use mathlib.Core.Path.{◌≡◌, refl, ap, sym, ◌∙◌, subst}
use mathlib.Core.Option.{Option, none, some}
use native.Mathlib.Omega.{arith}
use native.Mathlib.Nat.{pow-succ', add-zero, add-suc, suc-add, zero-add}
use borrow.Author.Tests.{le-leb, leb-true}
use lib.Dec.{leb}
use lib.ListN.{length, replicate}
use Rattle.image_spec.specs.Parse.{Parsed, refused, got, Parser, and_then, only_if, via, both, times, each, All, code, number, field, zeros, numbered, or_refused, one_of, counted, marked, mark, Marked, whole}

-- what was read of l, if anything, is within limits, and l is what is written of it and then what is left
pub data Sound {X A : Type 0} (e : A → List X) (P : A → Type 0) (l : List X) : Parsed X A → Type 0 where
  none_read : Sound e P l refused
  one-read : {a : A} {m : List X} → P a → l ≡ e a ++ m → Sound e P l (got a m)

pub record Exact {X A : Type 0} (write : A → List X) (Ok : A → Type 0) (read : Parser X A) : Type 0 where
  pub left : (a : A) → Ok a → (l : List X) → read (write a ++ l) ≡ got a l
  pub right : (l : List X) → Sound write Ok l (read l)

pub following : {X A B : Type 0} {e : A → List X} {P : A → Type 0} {f : B → List X} {Q : B → Type 0} {l n : List X}
    {r : Parsed X A} (k : A → List X → Parsed X B) → Sound e P l r
    → ((a : A) (m : List X) → P a → l ≡ e a ++ m → Sound f Q n (k a m)) → Sound f Q n (and_then r k)
following k none_read h = none_read
following k (one-read {a = a} {m = m} pa ea) h = h a m pa ea

-- the same value, under other limits and another writing
pub adapt : {X A : Type 0} {e f : A → List X} {P Q : A → Type 0} {l n : List X} {r : Parsed X A} → Sound e P l r
    → ((a : A) (m : List X) → P a → l ≡ e a ++ m → Q a × (n ≡ f a ++ m)) → Sound f Q n r
adapt none_read h = none_read
adapt (one-read {a = a} {m = m} pa ea) h = one-read (h a m pa ea).0 (h a m pa ea).1

pub tested : {X A : Type 0} {f : A → List X} {Q : A → Type 0} {n : List X}
    (t : Bool) (r : Parsed X A) → (t ≡ true → Sound f Q n r) → Sound f Q n (only_if t r)
tested true r h = h refl
tested false r h = none_read

pub both_exact : {X A B : Type 0} {e : A → List X} {f : B → List X} {P : A → Type 0} {Q : B → Type 0} {p : Parser X A} {q : Parser X B}
    → Exact e P p → Exact f Q q → Exact (λ (t : A × B). e t.0 ++ f t.1) (λ t. P t.0 × Q t.1) (both p q)
both_exact {e = e} {f = f} {p = p} {q = q} x y = record {
  left = λ t o l. rw (append_assoc, x.left t.0 o.0 (f t.1 ++ l), y.left t.1 o.1 l);
  right = λ l. following _ (x.right l) (λ a m pa ea. following _ (y.right m) (λ b n qb eb. one-read (pa, qb) (rw (ea, eb, append_assoc))));
}

-- another value of the same bytes
pub via_exact : {X A B : Type 0} {e : A → List X} {P : A → Type 0} {f : B → List X} {Q : B → Type 0} {p : Parser X A}
    (into : A → B) (out : B → A) → Exact e P p
    → ((b : B) → Q b → P (out b) × (into (out b) ≡ b) × (f b ≡ e (out b)))
    → ((a : A) → P a → Q (into a) × (e a ≡ f (into a)))
    → Exact f Q (via into p)
via_exact {f = f} {p = p} into out x forth back = record {
  left = λ b o l. let h = forth b o in rw (h.2, x.left (out b) h.0 l, h.1);
  right = λ l. following _ (x.right l) (λ a m pa ea. let h = back a pa in one-read h.0 (ea ∙ ap (λ z. z ++ m) h.1));
}

pub code_exact : (n : ℕ) → Exact (λ b. b ∷ []) (λ b. b ≤ n) (code n)
code_exact n = record { left = λ b o l. rw (le-leb b n o); right = right }
  where
    right : (l : List ℕ) → Sound (λ (b : ℕ). b ∷ []) (λ b. b ≤ n) l (code n l)
    right [] = none_read
    right (b ∷ l) = tested (leb b n) (got b l) (λ t. one-read (leb-true b n t) refl)

pub times_exact : {X A : Type 0} {e : A → List X} {P : A → Type 0} {p : Parser X A} → Exact e P p
    → (n : ℕ) → Exact (each e) (λ xs. (length xs ≡ n) × All P xs) (times n p)
times_exact {X} {A} {e} {P} {p} x n = record { left = left n; right = right n }
  where
    left : (n : ℕ) (xs : List A) → (length xs ≡ n) × All P xs → (l : List X) → times n p (each e xs ++ l) ≡ got xs l
    left zero [] o l = refl
    left zero (a ∷ xs) o l = let z = o.0 in absurd (omega arith)
    left (suc n) [] o l = let z = o.0 in absurd (omega arith)
    left (suc n) (a ∷ xs) o l =
        let s : length xs ≡ n = omega (arith, o.0) in
        rw (append_assoc, x.left a o.1.0 (each e xs ++ l), left n xs (s, o.1.1) l)

    right : (n : ℕ) (l : List X) → Sound (each e) (λ xs. (length xs ≡ n) × All P xs) l (times n p l)
    right zero l = one-read (refl, tt) refl
    right (suc n) l = following _ (x.right l) (λ a m pa ea. following _ (right n m) (λ xs k qs es. one-read (ap suc qs.0, (pa, qs.1)) (rw (ea, es, append_assoc))))

pub counted_exact : {A : Type 0} {e : A → List ℕ} {P : A → Type 0} {p : Parser ℕ A} → Exact e P p
    → (limit : ℕ) → Exact (λ xs. length xs ∷ each e xs) (λ xs. (length xs ≤ limit) × All P xs) (counted limit p)
counted_exact {e = e} {p = p} x limit = record {
  left = λ xs o l. rw (le-leb (length xs) limit o.0) ((times_exact x (length xs)).left xs (refl, o.1) l);
  right = λ l. following _ ((code_exact limit).right l) (λ n m o en. adapt ((times_exact x n).right m)
      (λ xs k qs es. ((subst (λ z. z ≤ limit) (sym qs.0) o, qs.1), rw (en, es, qs.0))));
}

pub marked_exact : {A : Type 0} {e : A → List ℕ} {P : A → Type 0} {p : Parser ℕ A} → Exact e P p → Exact (mark e) (Marked P) (marked p)
marked_exact {A} {e} {P} {p} x = record { left = left; right = right }
  where
    left : (a : Option A) → Marked P a → (l : List ℕ) → marked p (mark e a ++ l) ≡ got a l
    left none o l = refl
    left (some a) o l = rw (x.left a o l)

    right : (l : List ℕ) → Sound (mark e) (Marked P) l (marked p l)
    right [] = none_read
    right (zero ∷ l) = one-read tt refl
    right (suc zero ∷ l) = following _ (x.right l) (λ a m pa ea. one-read pa (ap (λ z. 1 ∷ z) ea))
    right (suc (suc b) ∷ l) = none_read

pub zeros_exact : (n : ℕ) → Exact (λ _. replicate n 0) (λ _. Unit {0}) (zeros n)
zeros_exact n = record { left = λ _ _ l. left n l; right = right n }
  where
    left : (n : ℕ) (l : List ℕ) → zeros n (replicate n 0 ++ l) ≡ got tt l
    left zero l = refl
    left (suc n) l = left n l

    right : (n : ℕ) (l : List ℕ) → Sound (λ _. replicate n 0) (λ _. Unit {0}) l (zeros n l)
    right zero l = one-read tt refl
    right (suc n) l = following _ ((code_exact 0).right l) (λ b m o eb. adapt (right n m)
        (λ _ k _ es. (tt, let z : b ≡ 0 = omega arith in rw (eb, es, z))))

pub number_exact : (w : ℕ) → Exact (field w) (λ n. n < 256 ^ w) (number w)
number_exact w = record { left = left w; right = right w }
  where
    left : (w n : ℕ) → n < 256 ^ w → (l : List ℕ) → number w (field w n ++ l) ≡ got n l
    left zero n o l = let z : 0 ≡ n = omega arith in rw z
    left (suc w) n o l =
        let b : n % 256 ≤ 255 = omega arith in
        let h : n / 256 < 256 ^ w = omega (arith, pow-succ' 256 w) in
        let z : n % 256 + 256 * (n / 256) ≡ n = omega arith in
        rw (le-leb (n % 256) 255 b, left w (n / 256) h l, z)

    right : (w : ℕ) (l : List ℕ) → Sound (field w) (λ n. n < 256 ^ w) l (number w l)
    right zero l = one-read {a = 0} (omega arith) refl
    right (suc w) l = following _ ((code_exact 255).right l) (λ b m o eb. following _ (right w m) (λ h k q eh.
        let low : (b + 256 * h) % 256 ≡ b = omega arith in
        let high : (b + 256 * h) / 256 ≡ h = omega arith in
        one-read (omega (arith, pow-succ' 256 w)) (rw (eb, eh, low, high))))

-- each value has the number of its place, counted from k
abbrev pub Numbers : {A : Type 0} → (A → ℕ) → ℕ → List A → Type 0
Numbers number k [] = Unit {0}
Numbers number k (a ∷ vs) = (number a ≡ k) × Numbers number (suc k) vs

numbers_at : {A : Type 0} (number : A → ℕ) (vs : List A) (k i : ℕ) (a : A) → Numbers number k vs → numbered vs i ≡ some a → number a ≡ k + i
numbers_at number [] k i a h e = let z : ◌≡◌ {A = ℕ} 0 1 = cc in absurd (omega arith)
numbers_at number (b ∷ vs) k zero a h e = let q : b ≡ a = cc in ap number (sym q) ∙ (h.0 ∙ sym (add-zero k))
numbers_at number (b ∷ vs) k (suc i) a h e = numbers_at number vs (suc k) i a h.1 e ∙ (suc-add k i ∙ sym (add-suc k i))

-- the numbers of the values decide them
pub one_of_exact : {A : Type 0} (number : A → ℕ) (vs : List A) → Numbers number 0 vs → ((a : A) → numbered vs (number a) ≡ some a)
    → Exact (λ a. number a ∷ []) (λ _. Unit {0}) (one_of vs)
one_of_exact {A} number vs h back = record { left = λ a o l. rw (back a); right = right }
  where
    one : (o : Option A) (b : ℕ) (l : List ℕ) → ((a : A) → o ≡ some a → number a ≡ b) → Sound (λ (a : A). number a ∷ []) (λ _. Unit {0}) (b ∷ l) (or_refused o l)
    one none b l q = none_read
    one (some a) b l q = one-read tt (ap (λ z. z ∷ l) (sym (q a refl)))

    right : (l : List ℕ) → Sound (λ (a : A). number a ∷ []) (λ _. Unit {0}) l (one_of vs l)
    right [] = none_read
    right (b ∷ l) = one (numbered vs b) b l (λ a e. numbers_at number vs 0 b a h e ∙ zero-add b)

-- the same of values that take up the whole list: each is read from what is written of it, and from nothing else
pub whole-left : {X A : Type 0} {e : A → List X} {P : A → Type 0} {p : Parser X A} → Exact e P p → (a : A) → P a → whole (p (e a)) ≡ some a
whole-left {e = e} {p = p} x a o = let h : p (e a) ≡ got a [] = subst (λ z. p z ≡ got a []) (append-nil (e a)) (x.left a o []) in rw h

pub whole_case : {X A : Type 0} {e : A → List X} {P : A → Type 0} {l : List X} {r : Parsed X A} (G : Option A → Type 0)
    → Sound e P l r → G none → ((a : A) → P a → l ≡ e a → G (some a)) → G (whole r)
whole_case G none_read g h = g
whole_case G (one-read {a = a} {m = []} pa ea) g h = h a pa (ea ∙ append-nil _)
whole_case G (one-read {a = a} {m = b ∷ m} pa ea) g h = g

pub whole-right : {X A : Type 0} {e : A → List X} {P : A → Type 0} {p : Parser X A} → Exact e P p → (l : List X) (a : A) → whole (p l) ≡ some a → P a × (l ≡ e a)
whole-right {A = A} {e = e} {P = P} x l a =
    whole_case (λ o. o ≡ some a → P a × (l ≡ e a)) (x.right l) (λ h. let z : ◌≡◌ {A = ℕ} 0 1 = cc in absurd (omega arith))
    (λ b o q h. let k : b ≡ a = cc in (subst P k o, q ∙ ap e k))
