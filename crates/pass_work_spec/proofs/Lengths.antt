-- How long the contexts at work are that the rules make. Assumes nothing.
use mathlib.Core.Path.{◌≡◌, refl, sym, ap}
use mathlib.Core.Bool.{Bool, true, false, cond}
use mathlib.Core.List.{List, [], ◌∷◌, ◌++◌}
use Prim.Native.Nat.{ℕ, suc, ◌+◌, ◌≤◌}
use native.Mathlib.Omega.{arith}
use lib.ListN.{length, length-append}
use Rattle.syntax.specs.Context.{Context}
use Rattle.syntax.specs.Sets.{elem}
use Rattle.syntax.specs.declared.names.VarId.{VarId}
use Rattle.syntax.specs.declared.context.ContextBinding.{ContextBinding}
use Rattle.syntax.proofs.Permutations.{perm_length}
use Rattle.syntax.proofs.Filters.{filtered-fewer}
use Rattle.pass_work_spec.specs.declared.Entry.{Entry}
use Rattle.pass_work_spec.specs.Work.{Work, own, owns, kept, moved_behind, respelled, respelled_unless}
use Rattle.pass_work_spec.proofs.Entries.{moved_behind_perm}

pub kept-fewer : (s : List VarId) (W : Work) → length (kept s W) ≤ length W
kept-fewer s W = filtered-fewer (λ (e : Entry). elem e.source s) W

pub moved_length : (j : ℕ) (W : Work) → length (moved_behind j W) ≡ length W
moved_length j W = sym (perm_length (moved_behind_perm j W))

-- Create's environment
pub env_fewer : (s : List VarId) (j : ℕ) (W : Work) → length (kept s (moved_behind j W)) ≤ length W
env_fewer s j W = omega (arith, kept-fewer s (moved_behind j W), moved_length j W)

pub respelled-fewer : (W : Work) (T : Context) → length (respelled W T) ≤ length W
respelled-fewer [] T = omega arith
respelled-fewer (e ∷ W) [] = omega arith
respelled-fewer (e ∷ W) (b ∷ T) = omega (arith, respelled-fewer W T)

pub unless-fewer : (right : Bool) (W : Work) (T : Context) → length (respelled_unless right W T) ≤ length W
unfolding respelled_unless
unless-fewer true W T = omega arith
unless-fewer false W T = respelled-fewer W T

pub owns-length : (n : ℕ) (Γ : Context) → length (owns n Γ) ≡ length Γ
owns-length n [] = refl
owns-length n (b ∷ Γ) = ap suc (owns-length (n + 1) Γ)

-- with one variable more in scope
pub longer : (W : Work) (n : ℕ) (b : ContextBinding) (Δ : List VarId) (x : VarId) → length W ≤ length Δ → length (W ++ (own n b ∷ [])) ≤ length (x ∷ Δ)
longer W n b Δ x h = omega (arith, length-append W (own n b ∷ []))

-- with a clause's parameters
pub joined_length : (before : Bool) (n : ℕ) (ps : Context) (W : Work) → length (cond before (owns n ps ++ W) (W ++ owns n ps)) ≡ length ps + length W
joined_length true n ps W = omega (arith, length-append (owns n ps) W, owns-length n ps)
joined_length false n ps W = omega (arith, length-append W (owns n ps), owns-length n ps)
