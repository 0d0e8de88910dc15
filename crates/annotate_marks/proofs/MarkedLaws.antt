-- The marked IDs from a place of a row on. Assumes nothing.
use Prim.Native.Nat.{ℕ, suc, ◌+◌, ◌≤◌, ◌<◌}
use mathlib.Core.Bool.{Bool, true, false, not, cond}
use mathlib.Core.List.{List, [], ◌∷◌}
use mathlib.Core.Path.{◌≡◌, refl, ap, subst, sym, ◌∙◌}
use native.Mathlib.Omega.{arith}
use native.Mathlib.Numerals.{add-one}
use borrow.Author.Tests.{eq-eqb, ne_eqb}
use lib.ListN.{length, get_or, set, drop, drop_of_length-le}
use lib.Seq.{drop-cons, set_out}
use Rattle.std.specs.Prelude.{count_by}
use Rattle.std.proofs.lemmas.List.Sums.{sum_by-cons}
use lib.Dec.{eqb}
use Rattle.syntax.specs.Sets.{elem}
use Rattle.syntax.specs.declared.names.VarId.{VarId}
use Rattle.syntax.proofs.Lists.{rest, rest_cons, rest_end}
use Rattle.image_spec.specs.Parse.{each, field}
use Rattle.image_write_parts.specs.Puts.{Puts}
use Rattle.image_write_parts.proofs.Putting.{puts_then, puts_none}
use Rattle.scope_spec.specs.Calls.{set_bytes}
use Rattle.scope_spec.specs.Marking.{mark_one_lem, mark_all_lem, keep, marked_from}

-- no mark
pub marked_none : (row : List ℕ) (i : ℕ) → i < length row → get_or row i 0 ≡ 0 → marked_from i (drop i row) ≡ marked_from (i + 1) (drop (i + 1) row)
unfolding marked_from
marked_none row i h e = rw (add-one i, drop-cons row i 0 h, eq-eqb (get_or row i 0) 0 e)

-- a mark
pub marked-one : (row : List ℕ) (i : ℕ) → i < length row → ¬ (get_or row i 0 ≡ 0)
    → marked_from i (drop i row) ≡ record { 0 = i } ∷ marked_from (i + 1) (drop (i + 1) row)
unfolding marked_from
marked-one row i h n = rw (add-one i, drop-cons row i 0 h, ne_eqb (get_or row i 0) 0 n)

-- the end
pub marked-past : (row : List ℕ) (i : ℕ) → length row ≤ i → marked_from i (drop i row) ≡ []
unfolding marked_from
marked-past row i h = rw (drop_of_length-le row {i = i} h)

-- how many they are
pub marked-counted : (n : ℕ) (row : List ℕ) → length (marked_from n row) ≡ count_by (λ b. not (eqb b 0)) row
unfolding marked_from
marked-counted n [] = refl
marked-counted n (m ∷ row) =
    first (eqb m 0) (marked_from (suc n) row)
    ∙ ap (λ (k : ℕ). cond (not (eqb m 0)) 1 0 + k) (marked-counted (suc n) row)
    ∙ sym (sum_by-cons (λ b. cond (not (eqb b 0)) 1 0) m row)
  where
    first : (t : Bool) (xs : List VarId) → length (keep t (record { 0 = n }) xs) ≡ cond (not t) 1 0 + length xs
    first true xs = omega arith
    first false xs = omega arith

-- the bytes of IDs of w bytes each
abbrev pub id_bytes : ℕ → List VarId → List ℕ
id_bytes w xs = each (λ (x : VarId). field w x.0) xs

-- what ends the writing of the IDs from a place on, ends the writing of all
pub record Ends (w : ℕ) (row out₀ : List ℕ) (at : ℕ) (out : List ℕ) (here i : ℕ) : Type 0 where
  pub ends : (o : List ℕ) (n : ℕ) → Puts out o here n (id_bytes w (marked_from i (drop i row))) → Puts out₀ o at n (id_bytes w (marked_from 0 row))

pub ends-all : (w : ℕ) (row out : List ℕ) (at : ℕ) → Ends w row out at out at 0
ends-all w row out at = record { ends = λ o n p. p }

pub ends_none : {w : ℕ} {row out₀ : List ℕ} {at : ℕ} {out : List ℕ} {here i : ℕ} → Ends w row out₀ at out here i → i < length row → get_or row i 0 ≡ 0
    → Ends w row out₀ at out here (i + 1)
ends_none {w} {row} {out₀} {at} {out} {here} {i} e h z = record {
  ends = λ o n p. e.ends o n (subst (λ (xs : List VarId). Puts out o here n (id_bytes w xs)) (sym (marked_none row i h z)) p);
}

pub ends-one : {w : ℕ} {row out₀ : List ℕ} {at : ℕ} {out : List ℕ} {here i next : ℕ} {more : List ℕ} → Ends w row out₀ at out here i
    → i < length row → ¬ (get_or row i 0 ≡ 0) → Puts out more here next (field w i) → Ends w row out₀ at more next (i + 1)
ends-one {w} {row} {out₀} {at} {out} {here} {i} e h z q = record {
  ends = λ o n p. e.ends o n (subst (λ (xs : List VarId). Puts out o here n (id_bytes w xs)) (sym (marked-one row i h z)) (puts_then q p));
}

pub ends-past : {w : ℕ} {row out₀ : List ℕ} {at : ℕ} {out : List ℕ} {here i : ℕ} → Ends w row out₀ at out here i → length row ≤ i
    → Puts out₀ out at here (id_bytes w (marked_from 0 row))
ends-past {w} {row} {out₀} {at} {out} {here} {i} e h =
    e.ends out here (subst (λ (xs : List VarId). Puts out out here here (id_bytes w xs)) (sym (marked-past row i h)) (puts_none out here))

-- the count, then the IDs
pub set-put : {a b c : List ℕ} {at n k m : ℕ} (w : ℕ) (xs : List VarId) → Puts a b at n (field 2 m) → m ≡ length xs → Puts b c n k (id_bytes w xs)
    → Puts a c at k (set_bytes w xs)
set-put {a} {b} {c} {at} {n} {k} {m} w xs p e q = puts_then (subst (λ (j : ℕ). Puts a b at n (field 2 j)) e p) q

-- a use
pub mark-bound : (B : List VarId) (x : VarId) (row : List ℕ) → elem x B ≡ true → row ≡ mark_one_lem B x row
mark-bound B x row h = rw h

pub mark-free : (B : List VarId) (x : VarId) (row : List ℕ) (p : ℕ) → elem x B ≡ false → p ≡ x.0 → set row p 1 ≡ mark_one_lem B x row
mark-free B x row p h e = rw (h, e)

pub mark-past : (B : List VarId) (x : VarId) (row : List ℕ) (p : ℕ) → elem x B ≡ false → p ≡ x.0 → length row ≤ p → row ≡ mark_one_lem B x row
mark-past B x row p h e k = sym (set_out row p 1 k) ∙ mark-free B x row p h e

-- the uses from a place of an array on
pub mark-next : (B ids : List VarId) (n i : ℕ) (none : VarId) (row next : List ℕ) → i < n → n ≤ length ids → next ≡ mark_one_lem B (get_or ids i none) row
    → mark_all_lem B (rest ids n i) row ≡ mark_all_lem B (rest ids n (i + 1)) next
mark-next B ids n i none row next h k e = rw (rest_cons ids n i none h k, e)

pub mark-end : (B ids : List VarId) (n i : ℕ) (row : List ℕ) → n ≤ i → mark_all_lem B (rest ids n i) row ≡ row
mark-end B ids n i row h = rw (rest_end ids n i h)
