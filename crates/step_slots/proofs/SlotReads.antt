-- Reading and writing sixteen bytes, as code does it. Assumes nothing.
use Prim.Native.Nat.{ℕ, zero, suc, ◌+◌, ◌*◌, ◌^◌, ◌≤◌, ◌<◌}
use mathlib.Core.Path.{◌≡◌, refl, ap, sym, ◌∙◌, subst}
use mathlib.Core.List.{List, [], ◌∷◌, ◌++◌, append_assoc}
use native.Mathlib.Omega.{arith}
use mathlib.Core.Bool.{Bool, true, false, ◌&&◌}
use borrow.Author.Tests.{le-leb, lt-leb, leb-true, leb-false, eq-eqb, ne_eqb}
use lib.Dec.{eqb, leb}
use Rattle.std.specs.List.{list_all}
use lib.ListN.{length, take, drop, get_or}
use lib.Seq.{drop-cons}
use native.Mathlib.Numerals.{add-one}
use Rattle.image_spec.specs.Parse.{refused, got, and_then, only_if, code, number, field, zeros}
use Rattle.image_spec.proofs.ParseLaws.{Sound, one-read, number_exact}
use Rattle.step_slots.proofs.Halves.{field_join}
use Rattle.step_slots.specs.Slots.{slot, slot_parser}
use Rattle.step_slots.specs.Views.{no_slot, slot_from, slot_at}

-- a list from a place inside it
pub drop_head : (s : List ℕ) (at : ℕ) → at < length s → drop at s ≡ get_or s at 0 ∷ drop (at + 1) s
drop_head s at h = drop-cons s at 0 h ∙ ap (λ (k : ℕ). get_or s at 0 ∷ drop k s) (sym (add-one at))

-- what a number that was read is written as
pub record Read (w : ℕ) (l : List ℕ) (n : ℕ) (m : List ℕ) : Type 0 where
  pub bytes : l ≡ field w n ++ m
  pub below : n < 256 ^ w

pub number_read : (w : ℕ) (l : List ℕ) (n : ℕ) (m : List ℕ) → number w l ≡ got n m → Read w l n m
number_read w l n m e = back (subst (Sound (field w) (λ n. n < 256 ^ w) l) e ((number_exact w).right l))
  where
    back : {a : ℕ} {m : List ℕ} → Sound (field w) (λ n. n < 256 ^ w) l (got a m) → Read w l a m
    back (one-read p q) = record { bytes = q; below = p }

-- eight bytes are two numbers of four
pub long-reads : (l m n : List ℕ) (low high : ℕ) → number 4 l ≡ got low m → number 4 m ≡ got high n → number 8 l ≡ got (low + 256 ^ 4 * high) n
long-reads l m n low high a b =
    let p = number_read 4 l low m a in
    let q = number_read 4 m high n b in
    let v = low + 256 ^ 4 * high in
    let j : field 8 v ≡ field 4 low ++ field 4 high = field_join 4 4 low high p.below in
    let e : l ≡ field 8 v ++ n = p.bytes ∙ (ap (λ z. field 4 low ++ z) q.bytes ∙ (sym (append_assoc (field 4 low) (field 4 high) n) ∙ ap (λ z. z ++ n) (sym j))) in
    let t : v < 256 ^ 8 = omega (arith, p.below, q.below) in
    ap (number 8) e ∙ (number_exact 8).left v t n

-- ── zero bytes ──

-- the first n bytes are tested one by one
pub zeros-tested : (n : ℕ) (l : List ℕ) → n ≤ length l → zeros n l ≡ only_if (list_all (λ b. eqb b 0) (take n l)) (got tt (drop n l))
zeros-tested zero l h = refl
zeros-tested (suc n) [] h = absurd (omega arith)
zeros-tested (suc n) (b ∷ l) h = go (leb b 0) refl (zeros-tested n l (omega arith))
  where
    go : (t : Bool) → leb b 0 ≡ t → zeros n l ≡ only_if (list_all (λ b. eqb b 0) (take n l)) (got tt (drop n l))
        → and_then (code 0 (b ∷ l)) (λ _ m. zeros n m) ≡ only_if (eqb b 0 && list_all (λ b. eqb b 0) (take n l)) (got tt (drop n l))
    go true e rest = let is_zero : b ≡ 0 = omega (arith, leb-true b 0 e) in rw (e, eq-eqb b 0 is_zero) rest
    go false e rest = let above : 0 < b = omega (arith, leb-false b 0 e) in rw (e, ne_eqb b 0 (λ q. absurd (omega (arith, q, above)))) refl

-- ── a slot ──

pub slot-got : (b : ℕ) (k m n r : List ℕ) (i p : ℕ) → b ≤ 4 → zeros 3 k ≡ got tt m → number 4 m ≡ got i n → number 8 n ≡ got p r → slot_parser (b ∷ k) ≡ got (slot b i p) r
unfolding slot_parser
slot-got b k m n r i p h z a c = rw (le-leb b 4 h, z, a, c) refl

pub slot-sort : (b : ℕ) (k : List ℕ) → 4 < b → slot_parser (b ∷ k) ≡ refused
unfolding slot_parser
slot-sort b k h = rw (lt-leb b 4 h) refl

pub slot-zeros : (b : ℕ) (k : List ℕ) → b ≤ 4 → zeros 3 k ≡ refused → slot_parser (b ∷ k) ≡ refused
unfolding slot_parser
slot-zeros b k h z = rw (le-leb b 4 h, z) refl

-- what is read at a place
module _ (s : List ℕ) (at : ℕ) (room : at + 16 ≤ length s) where
  pub reads-slot : (i p : ℕ) → get_or s at 0 ≤ 4 → zeros 3 (drop (at + 1) s) ≡ got tt (drop (at + 1 + 3) s) → number 4 (drop (at + 4) s) ≡ got i (drop (at + 4 + 4) s)
      → number 8 (drop (at + 8) s) ≡ got p (drop (at + 8 + 8) s) → slot (get_or s at 0) i p ≡ slot_at s at
  unfolding slot_at
  reads-slot i p h z a b =
      let q : at + 1 + 3 ≡ at + 4 = omega arith in
      let r : at + 4 + 4 ≡ at + 8 = omega arith in
      let m : zeros 3 (drop (at + 1) s) ≡ got tt (drop (at + 4) s) = z ∙ ap (λ (n : ℕ). got tt (drop n s)) q in
      let n : number 4 (drop (at + 4) s) ≡ got i (drop (at + 8) s) = a ∙ ap (λ (n : ℕ). got i (drop n s)) r in
      sym (ap slot_from (ap slot_parser (drop_head s at (omega arith)) ∙ slot-got (get_or s at 0) (drop (at + 1) s) (drop (at + 4) s) (drop (at + 8) s) (drop (at + 8 + 8) s) i p h m n b))

  pub reads_none : slot_parser (get_or s at 0 ∷ drop (at + 1) s) ≡ refused → no_slot ≡ slot_at s at
  unfolding slot_at
  reads_none e = sym (ap slot_from (ap slot_parser (drop_head s at (omega arith)) ∙ e))
