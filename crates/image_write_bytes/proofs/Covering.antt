-- Bytes that were put into a buffer: they are there, nothing behind them has changed, and what is put over them hides them. Assumes nothing.
use Prim.Native.Nat.{ℕ, suc, ◌+◌, ◌≤◌}
use mathlib.Core.Path.{◌≡◌, refl, sym, ap, ◌∙◌}
use mathlib.Core.List.{List, [], ◌∷◌, ◌++◌, append_assoc}
use native.Mathlib.Omega.{arith}
use lib.ListN.{length, take, drop, set}
use lib.Seq.{sets, sets-eq, length-sets, length-take-le, drop-set-lt, take_at, drop_at}

-- what was put is there
pub put_back : (l : List ℕ) (i : ℕ) (vs : List ℕ) → i + length vs ≤ length l → take (length vs) (drop i (sets l i vs)) ≡ vs
put_back l i vs h =
    let rest = drop (i + length vs) l in
    let e : sets l i vs ≡ take i l ++ (vs ++ rest) = sets-eq vs l i h ∙ append_assoc (take i l) vs rest in
    ap (λ (z : List ℕ). take (length vs) (drop i z)) e
    ∙ ap (take (length vs)) (drop_at (take i l) (vs ++ rest) i (length-take-le i l (omega (arith, h))))
    ∙ take_at vs rest (length vs) refl

-- .. and nothing else behind it
pub past-put : (vs l : List ℕ) (i n : ℕ) → i + length vs ≤ n → drop n (sets l i vs) ≡ drop n l
past-put [] l i n h = refl
past-put (v ∷ vs) l i n h = past-put vs (set l i v) (suc i) n (omega (arith, h)) ∙ drop-set-lt n l i v (omega (arith, h))

-- what is put over it hides it
pub hidden : (l : List ℕ) (i : ℕ) (vs ws : List ℕ) → i + length vs ≤ length ws → length ws ≤ length l → sets (sets l i vs) 0 ws ≡ sets l 0 ws
hidden l i vs ws h k =
    sets-eq ws (sets l i vs) 0 (omega (arith, k, length-sets l i vs))
    ∙ ap (λ (z : List ℕ). ws ++ z) (past-put vs l i (0 + length ws) (omega (arith, h)))
    ∙ sym (sets-eq ws l 0 (omega (arith, k)))
