-- Masks a place of the scope at a time; the bit of a place. Assumes nothing.
use Prim.Native.Nat.{ℕ, suc, ◌+◌, ◌-◌, ◌*◌, ◌%◌, ◌^◌, ◌≤◌, ◌<◌}
use mathlib.Core.Path.{◌≡◌, refl, ap, ◌∙◌}
use mathlib.Core.Bool.{Bool, true, false, or-false}
use mathlib.Core.List.{List, [], ◌∷◌}
use native.Mathlib.Omega.{arith}
use native.Mathlib.Nat.{one-mul}
use lib.Dec.{eqb}
use lib.ListN.{length, drop, get_or, length-drop}
use lib.Pow.{pow_mono, shl_exact}
use Rattle.std.specs.Int.{from_bool}
use Rattle.syntax.specs.declared.names.VarId.{VarId}
use Rattle.scope_spec.specs.FreeRows.{bit, mask_of}
use Rattle.scope_spec.proofs.RowLaws.{mask_lt}
use Rattle.scope_places.specs.Places.{id_of, scope_in, ScopeAt}
use Rattle.scope_places.proofs.EnterLaws.{scope-count, scope-from}

-- the bit of place n
pub one_shifted : (n : ℕ) → n < 64 → (1 * 2 ^ n) % 2 ^ 64 ≡ 2 ^ n
one_shifted n h = shl_exact {a = 1} 1 n 64 (omega arith) (omega arith) ∙ one-mul (2 ^ n)

bit-of : (b : Bool) → from_bool b ≡ bit b
bit-of true = refl
bit-of false = refl

pub bit_small : (b : Bool) → from_bool b ≤ 1
bit_small true = omega arith
bit_small false = omega arith

module _ {n : ℕ} {xs : List ℕ} (s : ScopeAt xs n) where
  -- one place less is left: there is a bit to spare
  pub from-small : (us : List VarId) (i : ℕ) → 0 < i → mask_of us (drop i (scope_in n xs)) < 2 ^ 63
  from-small us i h =
      let e : length (drop i (scope_in n xs)) ≤ 63 = omega (arith, length-drop i (scope_in n xs), scope-count s) in
      omega (arith, mask_lt us (drop i (scope_in n xs)), pow_mono e)

  -- .. for the place before
  pub from_more : (x : VarId) (i mask : ℕ) → 0 < i → i ≤ n → mask ≡ mask_of (x ∷ []) (drop i (scope_in n xs))
      → 2 * mask + from_bool (eqb (get_or xs (i - 1) 0) x.0) ≡ mask_of (x ∷ []) (drop (i - 1) (scope_in n xs))
  unfolding mask_of
  from_more x i mask h k m =
      let y = get_or xs (i - 1) 0 in
      let j : suc (i - 1) ≡ i = omega arith in
      let r = scope-from n xs (i - 1) (omega arith) (omega arith) ∙ ap (λ (z : ℕ). id_of y ∷ drop z (scope_in n xs)) j in
      omega (arith, m, bit-of (eqb y x.0), ap bit (or-false (eqb y x.0)), ap (mask_of (x ∷ [])) r)
