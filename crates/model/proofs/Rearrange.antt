-- What a rearrangement draws: `freshen_unless_lem`. Assumes nothing.
use mathlib.Core.Path.{◌≡◌, refl, sym, ◌∙◌}
use mathlib.Core.Bool.{Bool, true, false, true≢false, false≢true}
use mathlib.Core.List.{List, ◌++◌}
use Prim.Native.Nat.{ℕ, ◌≤◌}
use native.Mathlib.Omega.{arith}
use lib.ListN.{length, length-map}
use Rattle.syntax.specs.Context.{Context, id_of, ids}
use Rattle.syntax.specs.Sets.{◌∈◌, Distinct}
use Rattle.syntax.specs.declared.names.VarId.{VarId}
use Rattle.syntax.proofs.Members.{Distinct-++}
use Rattle.syntax.proofs.Filters.{ids-++}
use Rattle.syntax.proofs.Drawing.{Renamed, freshen_renames}
use Rattle.model.specs.Rules.{freshen_unless_lem}
use Rattle.model.specs.Machine.{Value}

-- T is W, or W freshened
pub record Drawn (right : Bool) (W : Context) (C : List VarId) (m : ℕ) (T : Context) (m₁ : ℕ) : Type 0 where
  pub kept : right ≡ true → T ≡ W
  pub drew : right ≡ false → Renamed W C m T m₁
  pub count : length W ≡ length T
  pub grows : m ≤ m₁

pub freshen_unless_draws : (right : Bool) (W : Context) (C : List VarId) (m : ℕ) → ((x : VarId) → x ∈ ids W → x.0 ≤ m) → ((x : VarId) → x ∈ C → x.0 ≤ m)
    → Drawn right W C m (freshen_unless_lem right W C m).0 (freshen_unless_lem right W C m).1
unfolding freshen_unless_lem
freshen_unless_draws true W C m hw hc = record { kept = λ e. refl; drew = λ e. absurd (true≢false e); count = refl; grows = omega arith }
freshen_unless_draws false W C m hw hc =
    let f = freshen_renames W C m hw hc in
    record { kept = λ e. absurd (false≢true e); drew = λ e. f; count = f.count; grows = f.grows }

-- behind a part A that is kept
pub after-distinct : (right : Bool) (Γ A W T : Context) {m m₁ : ℕ} → (right ≡ true → Γ ≡ A ++ W) → Drawn right W (ids A) m T m₁ → Distinct (ids Γ) → Distinct (ids A) → Distinct (ids (A ++ T))
after-distinct true Γ A W T same d dΓ dA = rw (d.kept refl, ← same refl) dΓ
after-distinct false Γ A W T same d dΓ dA = let f = d.drew refl in rw (ids-++ A T) (Distinct-++ (ids A) (ids T) dA f.distinct (λ x h k. f.apart x k h))

-- before a part B that is kept
pub before-distinct : (right : Bool) (Γ B W T : Context) {m m₁ : ℕ} → (right ≡ true → Γ ≡ W ++ B) → Drawn right W (ids B) m T m₁ → Distinct (ids Γ) → Distinct (ids B) → Distinct (ids (T ++ B))
before-distinct true Γ B W T same d dΓ dB = rw (d.kept refl, ← same refl) dΓ
before-distinct false Γ B W T same d dΓ dB = let f = d.drew refl in rw (ids-++ T B) (Distinct-++ (ids T) (ids B) f.distinct dB (λ x h k. f.apart x h k))

pub counts : (T W : Context) (vs : List Value) → length W ≡ length T → length (ids W) ≡ length vs → length (ids T) ≡ length vs
counts T W vs e h = length-map T id_of ∙ sym e ∙ sym (length-map W id_of) ∙ h
