-- The lists that a rearrangement puts side by side: what is kept, targets beside what is wanted, and one behind the other. Assumes nothing.
use Prim.Native.Nat.{ℕ, ◌+◌, ◌-◌, ◌≤◌, ◌<◌}
use mathlib.Core.Path.{◌≡◌, refl, sym, ap, ◌∙◌, subst}
use mathlib.Core.Bool.{Bool, true, false, cond, not, beq}
use mathlib.Core.List.{List, [], ◌∷◌, ◌++◌, append-nil}
use native.Mathlib.Omega.{arith}
use borrow.Author.Tests.{ltb-true, ltb-false}
use lib.Dec.{ltb}
use lib.ListN.{length, get_or, set, length-append}
use Rattle.syntax.specs.Context.{Context}
use Rattle.syntax.specs.declared.context.ContextBinding.{ContextBinding}
use Rattle.syntax_substitution.specs.Pairs.{pair_of}
use Rattle.syntax_substitution.specs.declared.FlatPair.{FlatPair}
use Rattle.syntax_substitution.proofs.Pairing.{Zipped, zipped-start, zipped-next}
use Rattle.pass_work_spec.specs.Work.{Work}
use Rattle.pass_work_spec.specs.declared.Entry.{Entry}
use Rattle.pass_context.specs.Holding.{work_of, HoldsWork}
use Rattle.pass_context.specs.declared.Held.{Held}
use Rattle.pass_context.proofs.Stores.{joined-left, joined-right}
use Rattle.pass_arrange.specs.Joined.{joined}

-- ── one before the other ──

-- what is at i of A and B, where A stands behind the n of B, or before them
placed_at : (behind : Bool) (A B : Context) (n at : ℕ) → length B ≡ n → at ≡ cond behind n 0 → (d : ContextBinding) (i : ℕ) → at ≤ i → i - at < length A → get_or (cond behind (B ++ A) (A ++ B)) i d ≡ get_or A (i - at) d
placed_at true A B n at b e d i h k = joined-right B A at d (b ∙ sym e) i h
placed_at false A B n at b e d i h k = let z : i ≡ i - at = omega (arith, e) in joined-left A B (length A) d refl i (omega (arith, e, k)) ∙ ap (λ (j : ℕ). get_or A j d) z

joined-turned : (first : Bool) (T K : Context) → cond (not first) (K ++ T) (T ++ K) ≡ joined first T K
joined-turned true T K = refl
joined-turned false T K = refl

pub joined_length : (first : Bool) (T K : Context) → length (joined first T K) ≡ length T + length K
joined_length true T K = length-append T K
joined_length false T K = omega (arith, length-append K T)

-- m targets T before the k of K, or behind them, and W so in their places
module _ (first : Bool) (T W K : Context) (m k : ℕ) (a : length T ≡ m) (b : length W ≡ m) (c : length K ≡ k) where
  pub zipped-joined : {l : List FlatPair} → length l ≡ 128 → m + k ≤ 128 → Zipped (joined first T K) (joined first W K) l 0
  zipped-joined {l} h r = zipped-start (joined first T K) (joined first W K) l h (omega (arith, joined_length first T K, joined_length first W K)) (omega (arith, joined_length first T K))

  -- the pair of what stands at i is stored: of a target, or of what is kept
  module _ {l : List FlatPair} {i : ℕ} (d t v : ContextBinding) (q : FlatPair) (g : pair_of q ≡ record { target = t; source = v.var }) (s : Zipped (joined first T K) (joined first W K) l i) (h : i < m + k) where
    stored : t ≡ get_or (joined first T K) i d → v ≡ get_or (joined first W K) i d → Zipped (joined first T K) (joined first W K) (set l i q) (i + 1)
    stored e f = zipped-next d t v q g (omega (arith, joined_length first T K)) e f s

    pub zipped_target : {at : ℕ} → at ≡ cond (not first) k 0 → (at ≤ i) × (i - at < m) → t ≡ get_or T (i - at) d → v ≡ get_or W (i - at) d → Zipped (joined first T K) (joined first W K) (set l i q) (i + 1)
    zipped_target {at} x y e f = stored (e ∙ target_at T (omega (arith, y.1))) (f ∙ target_at W (omega (arith, y.1)))
      where
        target_at : (A : Context) → i - at < length A → get_or A (i - at) d ≡ get_or (joined first A K) i d
        target_at A r = sym (placed_at (not first) A K k at c x d i y.0 r) ∙ ap (λ (z : Context). get_or z i d) (joined-turned first A K)

    pub zipped-kept : {at : ℕ} → at ≡ cond first m 0 → (at ≤ i) × (i - at < k) → t ≡ get_or K (i - at) d → v ≡ get_or K (i - at) d → Zipped (joined first T K) (joined first W K) (set l i q) (i + 1)
    zipped-kept {at} x y e f = let r : i - at < length K = omega (arith, y.1) in stored (e ∙ sym (placed_at first K T m at a x d i y.0 r)) (f ∙ sym (placed_at first K W m at b x d i y.0 r))

-- ── which of the two stands at i ──

same_bool : (a b : Bool) → beq a b ≡ true → a ≡ b
same_bool true true e = refl
same_bool true false e = sym e
same_bool false true e = e
same_bool false false e = refl

other_bool : (a b : Bool) → beq a b ≡ false → a ≡ not b
other_bool true true e = e
other_bool true false e = refl
other_bool false true e = refl
other_bool false false e = sym e

-- m targets stand at `to`, and k that are kept at `from`: what stands at i is a target where i is in front as they are, else it is kept
pub at_target : (first : Bool) (m k from to i : ℕ) → from ≡ cond first m 0 → to ≡ cond (not first) k 0 → i < m + k → beq (ltb i (from + to)) first ≡ true → (to ≤ i) × (i - to < m)
at_target true m k from to i e f h t = let a = ltb-true i (from + to) (same_bool _ true t) in (omega (arith, f), omega (arith, e, f, a))
at_target false m k from to i e f h t = let a = ltb-false i (from + to) (same_bool _ false t) in (omega (arith, e, f, a), omega (arith, e, f, h, a))

pub at-kept : (first : Bool) (m k from to i : ℕ) → from ≡ cond first m 0 → to ≡ cond (not first) k 0 → i < m + k → beq (ltb i (from + to)) first ≡ false → (from ≤ i) × (i - from < k)
at-kept true m k from to i e f h t = let a = ltb-false i (from + to) (other_bool _ true t) in (omega (arith, e, f, a), omega (arith, e, f, h, a))
at-kept false m k from to i e f h t = let a = ltb-true i (from + to) (other_bool _ false t) in (omega (arith, e), omega (arith, e, f, a))

-- ── none, and one ──

-- with nothing behind it a list is as it was
pub behind_none : (A : Context) {B : Context} → B ≡ [] → A ++ B ≡ A
behind_none A e = ap (λ (z : Context). A ++ z) e ∙ append-nil A

-- one entry, pushed on the empty context at work
pub work_one : {none h : Held} {e : Entry} → HoldsWork none [] → HoldsWork h (work_of none ++ (e ∷ [])) → HoldsWork h (e ∷ [])
work_one {h = h} {e = e} n k = subst (λ (W : Work). HoldsWork h (W ++ (e ∷ []))) n.list k
