-- Two contexts of n bindings compared a place at a time. Assumes nothing.
use mathlib.Core.Path.{◌≡◌, sym, ap, ◌∙◌}
use mathlib.Core.Bool.{Bool, ◌&&◌}
use Prim.Native.Nat.{ℕ, zero, suc, ◌+◌}
use native.Mathlib.Omega.{arith}
use lib.ListN.{length, get_or}
use lib.Seq.{take_all}
use Rattle.std.specs.List.{list_all, range_with_len}
use Rattle.syntax.specs.Context.{Context, same_binding, same_context}
use Rattle.syntax.specs.declared.context.ContextBinding.{ContextBinding}
use Rattle.syntax.proofs.Lists.{rest}
use Rattle.syntax.proofs.Same.{same_step, same_end}

pub same_by_places : (Γ Δ : Context) (n : ℕ) (d : ContextBinding) → length Γ ≡ n → length Δ ≡ n
    → list_all (λ i. same_binding (get_or Γ i d) (get_or Δ i d)) (range_with_len 0 n) ≡ same_context Γ Δ
same_by_places Γ Δ n d h k = go 0 n (omega arith) ∙ rw (take_all n Γ (omega (arith, h)), take_all n Δ (omega (arith, k)))
  where
    -- the m places from i on are left
    go : (i m : ℕ) → i + m ≡ n → list_all (λ i. same_binding (get_or Γ i d) (get_or Δ i d)) (range_with_len i m) ≡ same_context (rest Γ n i) (rest Δ n i)
    go i zero e = sym (same_end Γ Δ n i (omega (arith, e)))
    go i (suc m) e =
        ap (λ (b : Bool). same_binding (get_or Γ i d) (get_or Δ i d) && b) (go (i + 1) m (omega (arith, e)))
        ∙ sym (same_step Γ Δ n i d (omega (arith, e)) (omega (arith, h)) (omega (arith, k)))
