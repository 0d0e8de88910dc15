-- Where parsers stop: one law for each way to build a parser, in the order of `Rattle.image_spec.specs.Parse`, and the turn of a loop.
-- Assumes nothing.
use Rattle.std.specs.Bool.{then_some}
use Rattle.std.specs.Borrow.{Bor}
use Rattle.std.specs.Slice.{IsItemAt}
use Rattle.std.proofs.lemmas.List.{get_or_read}
use Rattle.std.specs.Prelude.{Option, Some, None, option_and_then}
use Prim.Native.Nat.{ℕ, zero, suc, ◌+◌, ◌-◌, ◌*◌, ◌^◌, ◌≤◌, ◌<◌}
use mathlib.Core.List.{List, [], ◌∷◌, ◌++◌}
use mathlib.Core.Bool.{Bool, true, false, cond}
use mathlib.Core.Path.{◌≡◌, refl, ap, sym, ◌∙◌, subst}
use native.Mathlib.Omega.{arith}
use native.Mathlib.Nat.{add-zero, add-suc, suc-add, pow-le-pow_right}
use native.Mathlib.Numerals.{add-one}
use borrow.Author.Rules.{rules}
use borrow.Author.Tests.{le-leb, lt-leb, leb-true, leb-false, ltb-true, ltb-false, eqb-true, eqb-false}
use lib.Dec.{leb, ltb, eqb}
use lib.ListN.{length, drop, get_or, length-drop, length-append, drop_of_length-le}
use lib.Seq.{drop-cons, drop-drop, drop-append_seam}
use Rattle.image_spec.specs.Parse.{Parsed, refused, got, Parser, and_then, only_if, via, both, times, code, number, field, numbered, or_refused, one_of, counted, marked, zeros}
use Rattle.image_spec.proofs.ParseLaws.{Sound, none_read, one-read, Exact, number_exact, code_exact}
use Rattle.image_fields.specs.Found.{found_in, stop, mark_at}

-- a suffix of s is at its length's distance from the end
suffix : {X : Type 0} (s u m : List X) (at : ℕ) → at ≤ length s → drop at s ≡ u ++ m → m ≡ drop (length s - length m) s
suffix s u m at h e =
    let n : length s - at ≡ length u + length m = sym (length-drop at s) ∙ (ap length e ∙ length-append u m) in
    let k : length s - length m ≡ at + length u = omega arith in
    rw k (sym (drop-append_seam u m) ∙ (ap (drop (length u)) (sym e) ∙ drop-drop (length u) at s))

and_then-found : {X A B : Type 0} {e : A → List X} {P : A → Type 0} (n : ℕ) {l : List X} {r : Parsed X A} (q : Parser X B) (s : List X)
    → (n ≡ length s) → ((u m : List X) → l ≡ u ++ m → (m ≡ drop (n - length m) s))
    → Sound e P l r
    → found_in n (and_then r (λ a m. q m)) ≡ option_and_then (λ at. cond (leb at n) (found_in n (q (drop at s))) None) (found_in n r)
and_then-found n q s k h none_read = refl
and_then-found {e = e} n q s k h (one-read {a = a} {m = m} pa ea) =
    let t : n - length m ≤ n = omega arith in
    rw (le-leb _ _ t) (ap (λ z. found_in n (q z)) (h (e a) m ea))

-- one parser after another
stop_then : {X A B : Type 0} {e : A → List X} {P : A → Type 0} {p : Parser X A} (q : Parser X B) → Exact e P p → (s : List X) (at : ℕ)
    → stop (λ l. and_then (p l) (λ a m. q m)) s at ≡ option_and_then (stop q s) (stop p s at)
unfolding stop
stop_then {p = p} q x s at = go (leb at (length s)) refl
  where
    go : (t : Bool) → leb at (length s) ≡ t
        → cond t (found_in (length s) (and_then (p (drop at s)) (λ a m. q m))) None
        ≡ option_and_then (λ at. cond (leb at (length s)) (found_in (length s) (q (drop at s))) None) (cond t (found_in (length s) (p (drop at s))) None)
    go true t = and_then-found (length s) q s refl (λ u m e. suffix s u m at (leb-true at (length s) t) e) (x.right (drop at s))
    go false t = refl

pub found-via : {X A B : Type 0} (g : A → B) (n : ℕ) (r : Parsed X A) → found_in n (and_then r (λ a m. got (g a) m)) ≡ found_in n r
found-via g n refused = refl
found-via g n (got a m) = refl

-- the value does not count
pub stop-via : {X A B : Type 0} (g : A → B) (p : Parser X A) (s : List X) (at : ℕ) → stop (via g p) s at ≡ stop p s at
unfolding stop
stop-via g p s at = ap (λ z. cond (leb at (length s)) z None) (found-via g (length s) (p (drop at s)))

found-both : {X A B : Type 0} (n : ℕ) (r : Parsed X A) (q : Parser X B)
    → found_in {A = A × B} n (and_then r (λ a m. and_then (q m) (λ b k. got (a, b) k))) ≡ found_in n (and_then r (λ a m. q m))
found-both n refused q = refl
found-both {A = A} {B = B} n (got a m) q = found-via {B = A × B} (λ b. (a, b)) n (q m)

both_then : {X A B : Type 0} (p : Parser X A) (q : Parser X B) (s : List X) (at : ℕ) → stop (both p q) s at ≡ stop (λ l. and_then (p l) (λ a m. q m)) s at
unfolding stop
both_then p q s at = ap (λ z. cond (leb at (length s)) z None) (found-both (length s) (p (drop at s)) q)

pub stop-both : {X A B : Type 0} {e : A → List X} {P : A → Type 0} {p : Parser X A} (q : Parser X B) → Exact e P p → (s : List X) (at : ℕ)
    → stop (both p q) s at ≡ option_and_then (stop q s) (stop p s at)
stop-both {p = p} q x s at = both_then p q s at ∙ stop_then q x s at

-- one step more, and a step under another name
pub onward : (f g h : ℕ → Option ℕ) → ((at : ℕ) → h at ≡ option_and_then f (g at)) → (o : Option ℕ) → option_and_then h o ≡ option_and_then f (option_and_then g o)
onward f g h e None = refl
onward f g h e (Some at) = e at

pub alike : (g h : ℕ → Option ℕ) → ((at : ℕ) → h at ≡ g at) → (o : Option ℕ) → option_and_then h o ≡ option_and_then g o
alike g h e None = refl
alike g h e (Some at) = e at

-- a step that stays where it is
pub kept : (f : ℕ → Option ℕ) (o : Option ℕ) → ((at : ℕ) → o ≡ Some at → f at ≡ Some at) → option_and_then f o ≡ o
kept f None h = refl
kept f (Some at) h = h at refl

pub chosen : (t : Bool) (end : ℕ) → then_some t end ≡ cond t (Some end) None
chosen true end = refl
chosen false end = refl

-- a number that runs past the end
number_short : (w : ℕ) (l : List ℕ) → length l < w → number w l ≡ refused
number_short zero l h = absurd (omega arith)
number_short (suc w) [] h = refl
number_short (suc w) (b ∷ l) h = go (leb b 255) (number_short w l (omega arith))
  where
    go : (t : Bool) → number w l ≡ refused → and_then (only_if t (got b l)) (λ b m. and_then (number w m) (λ h n. got (b + 256 * h) n)) ≡ refused
    go true e = rw e
    go false e = refl

-- a number of bytes
number-bytes : (s : List ℕ) → ((i : ℕ) → get_or s i 0 ≤ 255) → (w at : ℕ) → at + w ≤ length s
    → (n : ℕ) × (number w (drop at s) ≡ got n (drop (at + w) s))
number-bytes s b zero at h = (0, rw add-zero)
number-bytes s b (suc w) at h =
    let r = number-bytes s b w (suc at) (omega arith) in
    (get_or s at 0 + 256 * r.0, rw (drop-cons s at 0 (omega arith), le-leb _ _ (b at), r.1, add-suc, suc-add))

pub stop-number : (s : List ℕ) → ((i : ℕ) → get_or s i 0 ≤ 255) → (w at : ℕ) → stop (number w) s at ≡ cond (leb (at + w) (length s)) (Some (at + w)) None
unfolding stop
stop-number s b w at = go (leb (at + w) (length s)) refl (leb at (length s)) refl
  where
    go : (t : Bool) → leb (at + w) (length s) ≡ t → (u : Bool) → leb at (length s) ≡ u
        → cond u (found_in (length s) (number w (drop at s))) None ≡ cond t (Some (at + w)) None
    go true h true k =
        let i = leb-true (at + w) (length s) h in
        let e : length s - (length s - (at + w)) ≡ at + w = omega arith in
        rw ((number-bytes s b w at i).1, length-drop, e)
    go true h false k = absurd (omega (arith, leb-true (at + w) (length s) h, leb-false at (length s) k))
    go false h true k = rw (number_short w (drop at s) (rw length-drop (omega (arith, leb-true at (length s) k, leb-false (at + w) (length s) h))))
    go false h false k = refl

read_ok : {A : Type 0} {e : A → List ℕ} {P : A → Type 0} {l : List ℕ} {a : A} {m : List ℕ} → Sound e P l (got a m) → P a
read_ok (one-read pa ea) = pa

read-bytes : {A : Type 0} {e : A → List ℕ} {P : A → Type 0} {l : List ℕ} {a : A} {m : List ℕ} → Sound e P l (got a m) → l ≡ e a ++ m
read-bytes (one-read pa ea) = ea

-- a number of at most three bytes
pub number_small : (k : ℕ) (l : List ℕ) (n : ℕ) (m : List ℕ) → k ≤ 3 → number k l ≡ got n m → n < 16777216
number_small k l n m h e =
    let b : n < 256 ^ k = read_ok (subst (Sound (field k) (λ n. n < 256 ^ k) l) e ((number_exact k).right l)) in
    let c : 256 ^ k ≤ 256 ^ 3 = pow-le-pow_right (omega arith) h in
    omega arith

-- one byte more in front
pub number_step : (s : List ℕ) → ((i : ℕ) → get_or s i 0 ≤ 255) → (k at n v : ℕ) (m : List ℕ) → at < length s → v ≡ get_or s at 0 + 256 * n
    → number k (drop (suc at) s) ≡ got n m → number (suc k) (drop at s) ≡ got v m
number_step s b k at n v m h q e = rw (drop-cons s at 0 h, le-leb _ _ (b at), e, q)

-- a number of two bytes
pub number-pair : (s : List ℕ) → ((i : ℕ) → get_or s i 0 ≤ 255) → (at : ℕ) → at + 2 ≤ length s
    → number 2 (drop at s) ≡ got (get_or s at 0 + 256 * get_or s (at + 1) 0) (drop (at + 2) s)
number-pair s b at h =
    let p : at + 2 ≡ suc (suc at) = omega arith in
    rw (p, add-one) (number_step s b 1 at (get_or s (suc at) 0) _ _ (omega arith) refl (number_step s b 0 (suc at) 0 _ _ (omega arith) (omega arith) refl))

found_within : {X A : Type 0} (n : ℕ) (r : Parsed X A) (end : ℕ) → found_in n r ≡ Some end → end ≤ n
found_within n refused end h = absurd (cc)
found_within n (got a m) end h = let e : n - length m ≡ end = cc in omega arith

-- a parser stops within what it reads
pub stop-within : {X A : Type 0} (p : Parser X A) (s : List X) (at end : ℕ) → stop p s at ≡ Some end → end ≤ length s
unfolding stop
stop-within p s at end = go (leb at (length s))
  where
    go : (t : Bool) → cond t (found_in (length s) (p (drop at s))) None ≡ Some end → end ≤ length s
    go true h = found_within (length s) (p (drop at s)) end h
    go false h = absurd (cc)

-- a parser that reads one symbol and goes on as q
pub stop-head : {A B : Type 0} (p : Parser ℕ A) (q : Parser ℕ B) (s : List ℕ) (at : ℕ) → at < length s
    → ((l : List ℕ) → found_in (length s) (p (get_or s at 0 ∷ l)) ≡ found_in (length s) (q l))
    → stop p s at ≡ stop q s (at + 1)
unfolding stop
stop-head p q s at h e =
    let i : at ≤ length s = omega arith in
    let j : at + 1 ≤ length s = omega arith in
    rw (le-leb _ _ i, le-leb _ _ j, drop-cons s at 0 h, e, add-one)

-- and one that refuses the symbol
pub stop_bad : {A : Type 0} (p : Parser ℕ A) (s : List ℕ) (at : ℕ) → at < length s → ((l : List ℕ) → p (get_or s at 0 ∷ l) ≡ refused)
    → stop p s at ≡ None
unfolding stop
stop_bad p s at h e =
    let i : at ≤ length s = omega arith in
    rw (le-leb _ _ i, drop-cons s at 0 h, e)

-- at the end
pub stop-past : {A : Type 0} (p : Parser ℕ A) (s : List ℕ) (at : ℕ) → length s ≤ at → p [] ≡ refused → stop p s at ≡ None
unfolding stop
stop-past p s at h e = rw (drop_of_length-le s h, e) (go (leb at (length s)))
  where
    go : (t : Bool) → cond {A = Option ℕ} t None None ≡ None
    go true = refl
    go false = refl

pub stop-zeros : (n : ℕ) (s : List ℕ) (at : ℕ) → stop (zeros (suc n)) s at ≡ option_and_then (stop (zeros n) s) (stop (code 0) s at)
stop-zeros n s at = stop_then (zeros n) (code_exact 0) s at

zero_pair : (l m : List ℕ) → number 2 l ≡ got 0 m → l ≡ 0 ∷ 0 ∷ m
zero_pair l m e = read-bytes (subst (Sound (field 2) (λ n. n < 256 ^ 2) l) e ((number_exact 2).right l))

-- two numbers that are 0
pub zero_pairs : (s : List ℕ) (at : ℕ) → at + 2 + 2 ≤ length s → number 2 (drop at s) ≡ got 0 (drop (at + 2) s)
    → number 2 (drop (at + 2) s) ≡ got 0 (drop (at + 2 + 2) s) → stop (zeros 4) s at ≡ Some (at + 2 + 2)
unfolding stop
zero_pairs s at h p q =
    let i : at ≤ length s = omega arith in
    let e : length s - (length s - (at + 2 + 2)) ≡ at + 2 + 2 = omega arith in
    rw (le-leb _ _ i, zero_pair (drop at s) _ p, zero_pair (drop (at + 2) s) _ q, length-drop, e)

-- a parser that reads nothing
pub stop_none : {X A : Type 0} (a : A) (s : List X) (at : ℕ) → at ≤ length s → stop (λ l. got a l) s at ≡ Some at
unfolding stop
stop_none a s at h =
    let e : length s - (length s - at) ≡ at = omega arith in
    rw (le-leb _ _ h, length-drop, e)

times-both : {X A : Type 0} (n : ℕ) (p : Parser X A) (s : List X) (at : ℕ) → stop (times (suc n) p) s at ≡ stop (both p (times n p)) s at
unfolding stop
times-both {X = X} {A = A} n p s at = ap (λ z. cond (leb at (length s)) z None) (same (p (drop at s)))
  where
    same : (r : Parsed X A) → found_in (length s) (and_then r (λ a m. and_then (times n p m) (λ xs k. got (a ∷ xs) k)))
        ≡ found_in {A = A × List A} (length s) (and_then r (λ a m. and_then (times n p m) (λ xs k. got (a, xs) k)))
    same refused = refl
    same (got a m) = found-via (λ xs. a ∷ xs) (length s) (times n p m) ∙ sym (found-via {B = A × List A} (λ xs. (a, xs)) (length s) (times n p m))

pub stop-times : {X A : Type 0} {e : A → List X} {P : A → Type 0} {p : Parser X A} → Exact e P p → (n : ℕ) (s : List X) (at : ℕ)
    → stop (times (suc n) p) s at ≡ option_and_then (stop (times n p) s) (stop p s at)
stop-times {p = p} x n s at = times-both n p s at ∙ stop-both (times n p) x s at

pub code-good : (n : ℕ) (s : List ℕ) (at : ℕ) → at < length s → get_or s at 0 ≤ n → stop (code n) s at ≡ Some (at + 1)
code-good n s at h b =
    stop-head {B = ℕ} (code n) (λ l. got 0 l) s at h (λ l. rw (le-leb _ _ b)) ∙ stop_none 0 s (at + 1) (omega arith)

pub code_bad : (n : ℕ) (s : List ℕ) (at : ℕ) → at < length s → n < get_or s at 0 → stop (code n) s at ≡ None
code_bad n s at h b = stop_bad (code n) s at h (λ l. rw (lt-leb _ _ b))

pub code-chosen : (n : ℕ) (s : List ℕ) (at : ℕ) → at < length s → then_some (leb (get_or s at 0) n) (at + 1) ≡ stop (code n) s at
code-chosen n s at h = go (leb (get_or s at 0) n) refl
  where
    go : (t : Bool) → leb (get_or s at 0) n ≡ t → then_some t (at + 1) ≡ stop (code n) s at
    go true e = sym (code-good n s at h (leb-true _ _ e))
    go false e = sym (code_bad n s at h (leb-false _ _ e))

pub code-past : (n : ℕ) (s : List ℕ) (at : ℕ) → length s ≤ at → stop (code n) s at ≡ None
code-past n s at h = stop-past (code n) s at h refl

-- there is a byte where a code is
pub code-inside : (n : ℕ) (s : List ℕ) (at end : ℕ) → stop (code n) s at ≡ Some end → at < length s
code-inside n s at end e = go (leb (length s) at) refl
  where
    go : (t : Bool) → leb (length s) at ≡ t → at < length s
    go true h = let k = code-past n s at (leb-true (length s) at h) in absurd (cc)
    go false h = leb-false (length s) at h

-- the bytes of a list of values are those below its length
or_refused-found : {A : Type 0} (n : ℕ) (vs : List A) (k : ℕ) (l : List ℕ) (b : ℕ) → length vs ≡ suc k
    → found_in n (or_refused (numbered vs b) l) ≡ found_in {A = ℕ} n (only_if (leb b k) (got b l))
or_refused-found n [] k l b h = absurd (omega arith)
or_refused-found n (a ∷ vs) k l zero h = let q : 0 ≤ k = omega arith in rw (le-leb _ _ q)
or_refused-found n (a ∷ []) k l (suc b) h = let q : k < suc b = omega arith in rw (lt-leb _ _ q)
or_refused-found {A} n (a ∷ c ∷ vs) zero l (suc b) h = absurd (omega arith)
or_refused-found {A} n (a ∷ c ∷ vs) (suc k) l (suc b) h = or_refused-found n (c ∷ vs) k l b (omega arith) ∙ go (leb b k) refl (leb (suc b) (suc k)) refl
  where
    go : (t : Bool) → leb b k ≡ t → (u : Bool) → leb (suc b) (suc k) ≡ u → found_in {A = ℕ} n (only_if t (got b l)) ≡ found_in {A = ℕ} n (only_if u (got (suc b) l))
    go true x true y = refl
    go true x false y = absurd (omega (arith, leb-true b k x, leb-false (suc b) (suc k) y))
    go false x true y = absurd (omega (arith, leb-false b k x, leb-true (suc b) (suc k) y))
    go false x false y = refl

pub stop-one_of : {A : Type 0} (vs : List A) (k : ℕ) (s : List ℕ) (at : ℕ) → length vs ≡ suc k → stop (one_of vs) s at ≡ stop (code k) s at
unfolding stop
stop-one_of vs k s at h = ap (λ z. cond (leb at (length s)) z None) (same (drop at s))
  where
    same : (l : List ℕ) → found_in (length s) (one_of vs l) ≡ found_in (length s) (code k l)
    same [] = refl
    same (b ∷ l) = or_refused-found (length s) vs k l b h

-- a loop goes past n parts, each by `go`; `here` is where it is after i of them
module _ (past : ℕ → ℕ → Option ℕ) (go : ℕ → Option ℕ) (law : (n at : ℕ) → past (suc n) at ≡ option_and_then (past n) (go at)) where
  turn : (n i here : ℕ) → i < n → past (n - i) here ≡ option_and_then (past (n - (i + 1))) (go here)
  turn n i here h =
      let k : n - i ≡ suc (n - (i + 1)) = omega arith in
      rw k (law (n - (i + 1)) here)

  pub turn-goes : (x : Option ℕ) (n i here next : ℕ) → i < n → x ≡ past (n - i) here → go here ≡ Some next → x ≡ past (n - (i + 1)) next
  turn-goes x n i here next h e g = e ∙ (turn n i here h ∙ ap (option_and_then (past (n - (i + 1)))) g)

  pub turn-stops : (x : Option ℕ) (n i here : ℕ) → i < n → x ≡ past (n - i) here → go here ≡ None → x ≡ None
  turn-stops x n i here h e g = e ∙ (turn n i here h ∙ ap (option_and_then (past (n - (i + 1)))) g)

-- the parts that a count says
pub stop-counted : {A : Type 0} (limit : ℕ) (p : Parser ℕ A) (s : List ℕ) (at : ℕ)
    → stop (counted limit p) s at ≡ option_and_then (stop (times (get_or s at 0) p) s) (stop (code limit) s at)
stop-counted {A} limit p s at = go (leb (length s) at) refl (leb (get_or s at 0) limit) refl
  where
    go : (t : Bool) → leb (length s) at ≡ t → (u : Bool) → leb (get_or s at 0) limit ≡ u
        → stop (counted limit p) s at ≡ option_and_then (stop (times (get_or s at 0) p) s) (stop (code limit) s at)
    go true h u k = let i : length s ≤ at = leb-true (length s) at h in rw (stop-past (counted limit p) s at i refl, stop-past (code limit) s at i refl)
    go false h true k =
        let i : at < length s = leb-false (length s) at h in
        let b : get_or s at 0 ≤ limit = leb-true (get_or s at 0) limit k in
        rw (code-good limit s at i b) (stop-head (counted limit p) (times (get_or s at 0) p) s at i (λ l. rw (le-leb _ _ b)))
    go false h false k =
        let i : at < length s = leb-false (length s) at h in
        let b : limit < get_or s at 0 = leb-false (get_or s at 0) limit k in
        rw (code_bad limit s at i b) (stop_bad (counted limit p) s at i (λ l. rw (lt-leb _ _ b)))

-- what `get` says of a place
pub got_none : (s : List ℕ) (at : ℕ) (r : Option (Bor ℕ)) → IsItemAt s at r → r ≡ None → length s ≤ at
got_none s at None h e = search (rules, h)
got_none s at (Some b) h e = absurd (cc)

pub got_some : (s : List ℕ) (at : ℕ) (r : Option (Bor ℕ)) (b : Bor ℕ) → IsItemAt s at r → r ≡ Some b → (at < length s) × (get_or s at 0 ≡ b.now)
got_some s at None b h e = absurd (cc)
got_some s at (Some v) b h e =
    let k : v ≡ b = cc in
    let i : at < length s = search (rules, h) in
    let g : v.now ≡ get_or s at v.now = search (rules, h) in
    (i, sym (get_or_read s at v.now i g 0) ∙ ap (λ (x : Bor ℕ). x.now) k)

module _ {A : Type 0} (p : Parser ℕ A) (s : List ℕ) (at : ℕ) where
  marked_none : at < length s → get_or s at 0 ≡ 0 → stop (marked p) s at ≡ Some (at + 1)
  marked_none h b = stop-head {B = ℕ} (marked p) (λ l. got 0 l) s at h (λ l. rw b) ∙ stop_none {A = ℕ} 0 s (at + 1) (omega arith)

  marked_some : at < length s → get_or s at 0 ≡ 1 → stop (marked p) s at ≡ stop p s (at + 1)
  marked_some h b = stop-head (marked p) p s at h (λ l. rw b (found-via _ (length s) (p l)))

  marked_bad : at < length s → (get_or s at 0 ≡ 0 → ⊥) → (get_or s at 0 ≡ 1 → ⊥) → stop (marked p) s at ≡ None
  marked_bad h z o = stop_bad (marked p) s at h (λ l. other (get_or s at 0) l z o)
    where
      other : (b : ℕ) (l : List ℕ) → (b ≡ 0 → ⊥) → (b ≡ 1 → ⊥) → marked p (b ∷ l) ≡ refused
      other zero l z o = absurd (z refl)
      other (suc zero) l z o = absurd (o refl)
      other (suc (suc b)) l z o = refl

  -- past a mark, and past what follows it where something does
  pub stop-marked : stop (marked p) s at ≡ option_and_then (λ more. cond more (stop p s (at + 1)) (Some (at + 1))) (mark_at s at)
  stop-marked = go (ltb at (length s)) refl (eqb (get_or s at 0) 0) refl (eqb (get_or s at 0) 1) refl
    where
      go : (t : Bool) → ltb at (length s) ≡ t → (z : Bool) → eqb (get_or s at 0) 0 ≡ z → (o : Bool) → eqb (get_or s at 0) 1 ≡ o
          → stop (marked p) s at ≡ option_and_then (λ more. cond more (stop p s (at + 1)) (Some (at + 1))) (cond t (cond z (Some false) (cond o (Some true) None)) None)
      go true t true z o k = marked_none (ltb-true at (length s) t) (eqb-true (get_or s at 0) 0 z)
      go true t false z true k = marked_some (ltb-true at (length s) t) (eqb-true (get_or s at 0) 1 k)
      go true t false z false k = marked_bad (ltb-true at (length s) t) (eqb-false (get_or s at 0) 0 z) (eqb-false (get_or s at 0) 1 k)
      go false t z e o k = stop-past (marked p) s at (ltb-false at (length s) t) refl

pub never-stops : (X A : Type 0) (s : List X) (at : ℕ) → stop {X = X} {A = A} (λ _. refused) s at ≡ None
unfolding stop
never-stops X A s at = go (leb at (length s))
  where
    go : (t : Bool) → cond {A = Option ℕ} t None None ≡ None
    go true = refl
    go false = refl
