-- Regions of bytes written one over another: what stays, what was moved, what is behind. Assumes nothing.
use Prim.Native.Nat.{ℕ, zero, suc, ◌+◌, ◌*◌, ◌≤◌}
use mathlib.Core.Path.{◌≡◌, refl, sym, ap, ◌∙◌}
use mathlib.Core.List.{List, [], ◌∷◌, ◌++◌, append_assoc}
use native.Mathlib.Omega.{arith}
use native.Mathlib.Nat.{add-zero}
use native.Mathlib.Numerals.{add-one}
use lib.ListN.{length, take, drop, set, get_or, length-append, length-drop}
use lib.Seq.{sets, set-get_or, get_or-drop, drop-drop, take-set-le, length-take-le, sets-eq, take-append_seam}
use Rattle.image_write_parts.proofs.Putting.{sets_append, sets_reserved}

-- bytes written over themselves
pub sets_same : (xs s : List ℕ) (at : ℕ) (m : List ℕ) → drop at s ≡ xs ++ m → sets s at xs ≡ s
sets_same [] s at m e = refl
sets_same (x ∷ xs) s at m e =
    let g : get_or s at 0 ≡ x = ap (λ (k : ℕ). get_or s k 0) (sym (add-zero at)) ∙ (sym (get_or-drop at s 0 0) ∙ ap (λ (l : List ℕ). get_or l 0 0) e) in
    let q : set s at x ≡ s = ap (set s at) (sym g) ∙ set-get_or s at 0 in
    let d : drop (suc at) s ≡ xs ++ m = ap (λ (k : ℕ). drop k s) (sym (add-one at)) ∙ (sym (drop-drop 1 at s) ∙ ap (drop 1) e) in
    ap (λ (z : List ℕ). sets z (suc at) xs) q ∙ sets_same xs s (suc at) m d

pub taken-length : (s : List ℕ) (at n : ℕ) → at + n ≤ length s → length (take n (drop at s)) ≡ n
taken-length s at n h = length-take-le n (drop at s) (omega (arith, length-drop at s))

-- what stands before a run that was stored
taken-set : (n at : ℕ) (s : List ℕ) (j b : ℕ) → at + n ≤ j → take n (drop at (set s j b)) ≡ take n (drop at s)
taken-set n zero s j b h = take-set-le n s j b (omega arith)
taken-set n (suc at) [] j b h = refl
taken-set n (suc at) (x ∷ s) zero b h = absurd (omega arith)
taken-set n (suc at) (x ∷ s) (suc j) b h = taken-set n at s j b (omega arith)

pub taken-before : (ys : List ℕ) (n at : ℕ) (s : List ℕ) (j : ℕ) → at + n ≤ j → take n (drop at (sets s j ys)) ≡ take n (drop at s)
taken-before [] n at s j h = refl
taken-before (y ∷ ys) n at s j h = taken-before ys n at (set s j y) (suc j) (omega arith) ∙ taken-set n at s j y h

pub closure-bytes : (s H X T : List ℕ) (at n : ℕ) → length H ≡ 16 → length X ≡ 16 * n → length T ≡ 16
    → sets (sets (sets (sets s (at + 16 * (n + 2)) X) (at + 16) X) at H) (at + 16 * (n + 1)) T ≡ sets s at (H ++ (X ++ (T ++ X)))
closure-bytes s H X T at n h x t =
    let A = sets s (at + 16 * (n + 2)) X in
    let k : at + 16 * (n + 1) ≡ at + length (H ++ X) = omega (arith, h, x, length-append H X) in
    let m : length ((H ++ X) ++ T) ≡ 16 * (n + 2) = omega (arith, h, x, t, length-append H X, length-append (H ++ X) T) in
    ap (λ (z : List ℕ). sets z (at + 16 * (n + 1)) T) (sets_reserved H A at 16 X h)
    ∙ (ap (λ (z : ℕ). sets (sets A at (H ++ X)) z T) k
    ∙ (sym (sets_append (H ++ X) A at T)
    ∙ (sets_reserved ((H ++ X) ++ T) s at (16 * (n + 2)) X m
    ∙ ap (sets s at) (append_assoc (H ++ X) T X ∙ append_assoc H X (T ++ X)))))

-- what was put at the beginning is taken from it
pub taken-put : (s xs : List ℕ) (n : ℕ) → length xs ≡ n → n ≤ length s → take n (sets s 0 xs) ≡ xs
taken-put s xs n e h =
    ap (take n) (sets-eq xs s 0 (omega (arith, e, h)))
    ∙ (ap (λ (k : ℕ). take k (xs ++ drop (0 + length xs) s)) (sym e) ∙ take-append_seam xs (drop (0 + length xs) s))
