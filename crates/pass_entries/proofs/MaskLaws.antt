-- Laws of masks: past a mask's width no bit is set; a mask that tells which variables in scope are in a set keeps what the set keeps; and a
-- mask with the places of two variables tells of the set with these two. Assumes nothing.
use mathlib.Core.Path.{◌≡◌, refl, sym, ap, ap₂, ◌∙◌}
use mathlib.Core.Logic.{◌⊎◌, inl, inr}
use mathlib.Core.Bool.{Bool, true, false, ◌&&◌, ◌||◌, cond, and-true, and-false, or-true, or-false}
use mathlib.Core.List.Memᴰ
use mathlib.Core.List.{List, [], ◌∷◌}
use Prim.Native.Nat.{ℕ, zero, suc, ◌+◌, ◌/◌, ◌%◌, ◌^◌, ◌≤◌, ◌<◌}
use native.Mathlib.Nat.{lt_of_lt_of_le, div-eq_of_lt, div-one, pow-suc, mul-mod_left, mul-div_cancel}
use native.Mathlib.Omega.{arith}
use borrow.Author.Tests.{lt-ltb, eq-eqb, eqb-true}
use lib.Bits.{bit_or, or_shr, or_mod}
use lib.Dec.{eqb, eqb-zero-suc, eqb-suc-zero, eqb-suc-suc}
use lib.ListN.{length, get_or}
use lib.Pow.{pow_mono, shr-shr}
use Rattle.syntax.specs.Names.{same_var_id}
use Rattle.syntax.specs.Sets.{elem}
use Rattle.syntax.specs.declared.names.VarId.{VarId}
use Rattle.syntax.proofs.Filters.{filtered-fewer}
use Rattle.pass_work_spec.specs.declared.Entry.{Entry}
use Rattle.pass_work_spec.specs.Work.{Work, kept}
use Rattle.pass_work_spec.specs.Placed.{Placed}
use Rattle.pass_work_spec.proofs.Lists.{In, in_case}
use Rattle.pass_work_spec.proofs.PlaceLaws.{kept-by-place}
use Rattle.pass_entries.specs.Masks.{marked, in_mask, kept_by_mask, Marks, with_bit_lem, is_either, with_places_lem, InPlaces}

pub marked-past : (mask w p : ℕ) → mask < 2 ^ w → w ≤ p → marked mask p ≡ false
unfolding marked
marked-past mask w p h k = ap (λ (n : ℕ). eqb (n % 2) 1) (div-eq_of_lt (lt_of_lt_of_le h (pow_mono k)))

pub mask_fewer : (mask : ℕ) (W : Work) → length (kept_by_mask mask W) ≤ length W
mask_fewer mask W = filtered-fewer (in_mask mask) W

-- ── one bit more ──

-- alone it is set at its place and nowhere else
one-marked : (p q : ℕ) → marked (2 ^ p) q ≡ eqb q p
unfolding marked
one-marked zero zero = refl
one-marked zero (suc q) = marked-past 1 1 (suc q) (omega arith) (omega arith) ∙ sym (eqb-suc-zero q)
one-marked (suc p) zero = ap (λ (x : ℕ). eqb (x % 2) 1) (div-one (2 ^ suc p) ∙ pow-suc 2 p) ∙ ap (λ (x : ℕ). eqb x 1) (mul-mod_left (2 ^ p) 2) ∙ sym (eqb-zero-suc p)
one-marked (suc p) (suc q) =
    let one : suc q ≡ 1 + q = omega arith in
    let half : 2 ^ suc p / 2 ≡ 2 ^ p = ap (λ (x : ℕ). x / 2) (pow-suc 2 p) ∙ mul-div_cancel (2 ^ p) (omega arith) in
    ap (λ (x : ℕ). eqb (x % 2) 1) (ap (λ (k : ℕ). 2 ^ suc p / 2 ^ k) one ∙ sym (shr-shr (2 ^ suc p) 1 q) ∙ ap (λ (x : ℕ). x / 2 ^ q) half)
    ∙ one-marked p q
    ∙ sym (eqb-suc-suc q p)

-- a digit of two numbers joined
either_digit : (a b : ℕ) → a < 2 → b < 2 → eqb (bit_or a b) 1 ≡ (eqb a 1 || eqb b 1)
either_digit zero b h k = refl
either_digit (suc zero) zero h k = refl
either_digit (suc zero) (suc zero) h k = refl
either_digit (suc zero) (suc (suc b)) h k = absurd (omega arith)
either_digit (suc (suc a)) b h k = absurd (omega arith)

either-marked : (m n q : ℕ) → marked (bit_or m n) q ≡ (marked m q || marked n q)
unfolding marked
either-marked m n q =
    ap (λ (x : ℕ). eqb (x % 2) 1) (or_shr m n q)
    ∙ ap (λ (x : ℕ). eqb x 1) (or_mod (m / 2 ^ q) (n / 2 ^ q) 1)
    ∙ either_digit (m / 2 ^ q % 2) (n / 2 ^ q % 2) (omega arith) (omega arith)

pub bit-marked : (mask p q : ℕ) → p < 64 → marked (with_bit_lem mask p) q ≡ (marked mask q || eqb q p)
bit-marked mask p q h = rw (lt-ltb p 64 h) (either-marked mask (2 ^ p) q ∙ ap (λ (t : Bool). marked mask q || t) (one-marked p q))

-- ── the places of two variables ──

-- does an entry stand at place q?
abbrev stands_at_lem : ℕ → Work → Bool
stands_at_lem q [] = false
stands_at_lem q (e ∷ W) = eqb q e.place || stands_at_lem q W

stands : (e : Entry) (W : Work) → In e W → stands_at_lem e.place W ≡ true
stands e [] h = absurd (Memᴰ.not-nil h)
stands e (d ∷ W) h = go (λ k. stands e W k) (in_case h)
  where
    go : (In e W → stands_at_lem e.place W ≡ true) → (e ≡ d) ⊎ In e W → stands_at_lem e.place (d ∷ W) ≡ true
    go ih (inl r) = ap (λ (t : Bool). t || stands_at_lem e.place W) (eq-eqb e.place d.place (ap (λ (x : Entry). x.place) r))
    go ih (inr k) = ap (λ (t : Bool). eqb e.place d.place || t) (ih k) ∙ or-true (eqb e.place d.place)

module _ (fst snd : VarId) where
  entry-marked : (e : Entry) (mask q : ℕ) → e.place < 64 → marked (cond (is_either fst snd e) (with_bit_lem mask e.place) mask) q ≡ (marked mask q || (eqb q e.place && is_either fst snd e))
  entry-marked e mask q h = by (is_either fst snd e)
    where
      by : (t : Bool) → marked (cond t (with_bit_lem mask e.place) mask) q ≡ (marked mask q || (eqb q e.place && t))
      by true = bit-marked mask e.place q h ∙ ap (λ (a : Bool). marked mask q || a) (sym (and-true (eqb q e.place)))
      by false = sym (ap (λ (a : Bool). marked mask q || a) (and-false (eqb q e.place)) ∙ or-false (marked mask q))

  -- where entries at one place stand for one variable, its place is marked if it is one of the two
  places-marked : (q : ℕ) (t : Bool) (W : Work) → ((e : Entry) → In e W → (e.place < 64) × (q ≡ e.place → is_either fst snd e ≡ t)) → (mask : ℕ)
      → marked (with_places_lem fst snd W mask) q ≡ (marked mask q || (stands_at_lem q W && t))
  places-marked q t [] f mask = sym (or-false (marked mask q))
  places-marked q t (e ∷ W) f mask =
      places-marked q t W (λ d h. f d (Memᴰ.tail h)) (cond (is_either fst snd e) (with_bit_lem mask e.place) mask)
      ∙ ap (λ (m : Bool). m || (stands_at_lem q W && t)) (entry-marked e mask q (f e (Memᴰ.head refl)).0)
      ∙ joined (marked mask q) (eqb q e.place) (is_either fst snd e) (stands_at_lem q W) (λ h. (f e (Memᴰ.head refl)).1 (eqb-true q e.place h))
    where
      absorbed : (s u : Bool) → (u || (s && u)) ≡ u
      absorbed s true = refl
      absorbed true false = refl
      absorbed false false = refl

      joined : (m a i s : Bool) → (a ≡ true → i ≡ t) → ((m || (a && i)) || (s && t)) ≡ (m || ((a || s) && t))
      joined true a i s h = refl
      joined false true i s h = ap (λ (u : Bool). u || (s && t)) (h refl) ∙ absorbed s t
      joined false false i s h = refl

  -- what the mask says of each entry, it says with the places of the two variables of the set with the two
  pub places_say : (mask : ℕ) (s : List VarId) {W : Work} → InPlaces W → ((e : Entry) → In e W → marked mask e.place ≡ elem e.source s)
      → (e : Entry) → In e W → marked (with_places_lem fst snd W mask) e.place ≡ elem e.source (fst ∷ snd ∷ s)
  places_say mask s {W} p a e h =
      places-marked e.place (is_either fst snd e) W alike mask
      ∙ ap₂ (λ (m u : Bool). m || (u && is_either fst snd e)) (a e h) (stands e W h)
      ∙ turned (elem e.source s) (same_var_id e.source fst) (same_var_id e.source snd)
    where
      alike : (d : Entry) → In d W → (d.place < 64) × (e.place ≡ d.place → is_either fst snd d ≡ is_either fst snd e)
      alike d k =
          let x = p.placed.each d k in
          let y = p.placed.each e h in
          (omega (arith, x.below, p.few), λ r. ap (λ (v : VarId). same_var_id v fst || same_var_id v snd) (sym (x.source e.source) ∙ ap (λ (n : ℕ). get_or p.scope n e.source) (sym r) ∙ y.source e.source))

      turned : (m u v : Bool) → (m || (true && (u || v))) ≡ (u || (v || m))
      turned m true v = or-true m
      turned m false true = or-true m
      turned m false false = or-false m
