-- A part of a buffer that is replaced by as many bytes: they are put there. Assumes nothing.
use Prim.Native.Nat.{ℕ, suc, ◌+◌, ◌-◌, ◌≤◌, ◌<◌, min}
use mathlib.Core.Logic.{◌⊎◌, inl, inr, ⊎_elim}
use mathlib.Core.Path.{◌≡◌, refl, sym, ap, ◌∙◌}
use mathlib.Core.List.{List, [], ◌∷◌, ◌++◌, append_assoc}
use native.Mathlib.Omega.{arith}
use lib.ListN.{length, take, drop, length-drop, take-append-drop, drop_of_length-le}
use lib.Seq.{sets, sets-eq, length-sets, length-take-le}
use borrow.Rule.Slice.PartMut.{put_mid, Post-is}
use Rattle.std.proofs.lemmas.Bool.{cases_lt}
use Rattle.std.specs.List.{copy_within}
use Rattle.std.proofs.lemmas.List.{set_past}
use Rattle.image_write_parts.proofs.Putting.{sets_append}

-- the bytes from a place on, as many as n
abbrev pub part_of : List ℕ → ℕ → ℕ → List ℕ
part_of l from n = take n (drop from l)

pub part-length : (l : List ℕ) (from n : ℕ) → from + n ≤ length l → length (part_of l from n) ≡ n
part-length l from n h = length-take-le n (drop from l) (omega (arith, length-drop from l, h))

-- .. as a slice has them
pub part-from : (l : List ℕ) (from n : ℕ) → take (from + n - from) (drop from l) ≡ part_of l from n
part-from l from n = let e : from + n - from ≡ n = omega arith in ap (λ i. take i (drop from l)) e

-- bytes that are copied within a buffer
pub copied-within : (l : List ℕ) (from n to : ℕ) → from + n ≤ length l → to + n ≤ length l → copy_within l from (from + n) to ≡ sets l to (part_of l from n)
copied-within l from n to h k =
    let e : from + n - from ≡ n = omega arith in
    let m = part-length l from n h in
    rw e (sym (sets-eq (part_of l from n) l to (omega (arith, m, k)) ∙ ap (λ i. take to l ++ part_of l from n ++ drop (to + i) l) m))

-- nothing is put past the end
past-end : (vs l : List ℕ) (i : ℕ) → length l ≤ i → sets l i vs ≡ l
past-end [] l i h = refl
past-end (v ∷ vs) l i h = ap (λ z. sets z (suc i) vs) (set_past l i v h) ∙ past-end vs l (suc i) (omega arith)

-- as many as there is room for
room-put : (l vs : List ℕ) (i k : ℕ) → k ≤ length vs → i + k ≤ length l → (drop k vs ≡ []) ⊎ (i + k ≡ length l) → sets l i vs ≡ take i l ++ (take k vs ++ drop (i + k) l)
room-put l vs i k h r o =
    let n : length (take k vs) ≡ k = length-take-le k vs h in
    ap (sets l i) (sym (take-append-drop k vs))
    ∙ sets_append (take k vs) l i (drop k vs)
    ∙ rest o
    ∙ sets-eq (take k vs) l i (omega (arith, n))
    ∙ ap (λ j. take i l ++ take k vs ++ drop (i + j) l) n
    ∙ append_assoc (take i l) (take k vs) (drop (i + k) l)
  where
    rest : (drop k vs ≡ []) ⊎ (i + k ≡ length l) → sets (sets l i (take k vs)) (i + length (take k vs)) (drop k vs) ≡ sets l i (take k vs)
    rest (inl e) = ap (sets (sets l i (take k vs)) (i + length (take k vs))) e
    rest (inr e) = past-end (drop k vs) (sets l i (take k vs)) (i + length (take k vs)) (omega (arith, length-sets l i (take k vs), length-take-le k vs h))

-- .. from `start` on, which is the place or the end
pub put-room : (l vs : List ℕ) (at start room : ℕ) → start ≡ min at (length l) → room ≡ min (length vs) (length l - start) → sets l at vs ≡ put_mid start (start + room - start) l (take room vs)
put-room l vs at start room e f =
    begun (cases_lt at (length l))
    ∙ room-put l vs start room (omega arith) (omega arith) left
    ∙ ap (λ z. take start l ++ (take room vs ++ z)) (sym (Post-is start (start + room) l (omega arith)))
  where
    begun : (at < length l) ⊎ (length l ≤ at) → sets l at vs ≡ sets l start vs
    begun (inl h) = let k : at ≡ start = omega arith in ap (λ i. sets l i vs) k
    begun (inr h) = past-end vs l at h ∙ sym (past-end vs l start (omega arith))

    left : (drop room vs ≡ []) ⊎ (start + room ≡ length l)
    left = ⊎_elim (λ (h : length vs < length l - start). inl (drop_of_length-le vs (omega arith))) (λ (h : length l - start ≤ length vs). inr (omega arith)) (cases_lt (length vs) (length l - start))
