-- Pairs that are stored one after another: one pair, and the pairs of two lists side by side; what is read from a context for them. Assumes nothing.
use mathlib.Core.Path.{◌≡◌, refl, sym, ap, ◌∙◌}
use mathlib.Core.List.{List, [], ◌∷◌, ◌++◌, map, map-append}
use Prim.Native.Nat.{ℕ, ◌+◌, ◌≤◌, ◌<◌}
use native.Mathlib.Omega.{arith}
use lib.ListN.{length, take, get_or, set, length-map, length-set}
use lib.Seq.{take-length, get_or-take}
use Rattle.std.proofs.lemmas.List.{take_more, length-take-le}
use Rattle.syntax.specs.Context.{Context, vars, empty_binding}
use Rattle.syntax.specs.Flat.{binding_of, empty_flat}
use Rattle.syntax.specs.Arrays.{bindings_in, context_of}
use Rattle.syntax.specs.declared.names.Identifier.{Identifier}
use Rattle.syntax.specs.declared.context.ContextBinding.{ContextBinding}
use Rattle.syntax.specs.declared.context.TypingContext.{TypingContext}
use Rattle.syntax.proofs.Flats.{seen_at, seen_stored}
use Rattle.model.specs.Lists.{zip}
use Rattle.syntax_substitution.specs.declared.Pair.{Pair}
use Rattle.syntax_substitution.specs.declared.FlatPair.{FlatPair}
use Rattle.syntax_substitution.specs.declared.Substitution.{Substitution}
use Rattle.syntax_substitution.specs.Pairs.{pair_of, parts_of, pairs_in, pairs_of, HoldsPairs}

-- ── one pair ──

-- a pair is stored behind the first n
pub stored-pair : (l : List FlatPair) (n : ℕ) (f : FlatPair) (p : Pair) → pair_of f ≡ p → n < length l
    → map parts_of (take (n + 1) (map pair_of (set l n f))) ≡ map parts_of (take n (map pair_of l)) ++ (parts_of p ∷ [])
stored-pair l n f p e h = ap (map parts_of) (seen_stored pair_of l n f p e (rw (length-map l pair_of) h)) ∙ map-append parts_of (take n (map pair_of l)) (p ∷ [])

-- the first n of an array are the pairs of a substitution
pub holds-pairs : {s : Substitution} {ps : List (ContextBinding × Identifier)} → pairs_of s ≡ ps → HoldsPairs s ps
holds-pairs {s} e =
    let k = length-map (take s.len (pairs_in s)) parts_of ∙ length-take-le s.len (pairs_in s) (omega (arith, length-map s.pairs pair_of, s.size, s.fits)) in
    record { count = sym (ap length (sym e) ∙ k); list = e }

-- ── two lists side by side ──

-- the binding that is read at i of a context's array is the context's
pub context-at : (c : TypingContext) (i : ℕ) {b : ContextBinding} → i < c.len → b ≡ binding_of (get_or c.bindings i empty_flat) → b ≡ get_or (context_of c) i empty_binding
context-at c i h e = e ∙ (seen_at binding_of c.bindings i empty_flat ∙ sym (get_or-take c.len (bindings_in c) i empty_binding h))

-- one more of each
pub zip_snoc : (T W : Context) (t v : ContextBinding) → length T ≡ length W → zip (T ++ (t ∷ [])) (vars (W ++ (v ∷ []))) ≡ zip T (vars W) ++ ((t, v.var) ∷ [])
zip_snoc [] [] t v e = refl
zip_snoc [] (b ∷ W) t v e = absurd (omega arith)
zip_snoc (a ∷ T) [] t v e = absurd (omega arith)
zip_snoc (a ∷ T) (b ∷ W) t v e = ap (λ z. (a, b.var) ∷ z) (zip_snoc T W t v (omega arith))

-- the first i pairs of the array are those of the first i of both lists
pub record Zipped (T W : Context) (l : List FlatPair) (i : ℕ) : Type 0 where
  pub size : length l ≡ 128
  pub same : length T ≡ length W
  pub within : length T ≤ 128
  pub below : i ≤ length T
  pub front : map parts_of (take i (map pair_of l)) ≡ zip (take i T) (vars (take i W))

pub zipped-start : (T W : Context) (l : List FlatPair) → length l ≡ 128 → length T ≡ length W → length T ≤ 128 → Zipped T W l 0
zipped-start T W l h e k = record { size = h; same = e; within = k; below = omega arith; front = refl }

-- the pair of what stands at i is stored
pub zipped-next : {T W : Context} {l : List FlatPair} {i : ℕ} (d t v : ContextBinding) (q : FlatPair) → pair_of q ≡ record { target = t; source = v.var }
    → i < length T → t ≡ get_or T i d → v ≡ get_or W i d → Zipped T W l i → Zipped T W (set l i q) (i + 1)
zipped-next {T} {W} {l} {i} d t v q g h e f p =
    let m : length (take i T) ≡ length (take i W) = length-take-le i T (omega arith) ∙ sym (length-take-le i W (omega (arith, p.same))) in
    let z = zip_snoc (take i T) (take i W) (get_or T i d) (get_or W i d) m in
    record {
      size = rw length-set p.size;
      same = p.same;
      within = p.within;
      below = omega arith;
      front = rw (stored-pair l i q (record { target = t; source = v.var }) g (omega (arith, p.size, p.within)), p.front, e, f, take_more T i d h, take_more W i d (omega (arith, p.same)), z);
    }

-- the loop has ended
pub zipped-done : {T W : Context} {s : Substitution} {i : ℕ} → s.len ≡ length T → s.len ≤ i → Zipped T W s.pairs i → HoldsPairs s (zip T (vars W))
zipped-done {T} {W} {s} {i} q h p =
    let e : i ≡ length T = omega (arith, p.below) in
    let f : s.len ≡ i = omega arith in
    holds-pairs (rw (f, p.front, e, take-length T, p.same, take-length W) refl)
