-- Looking an ID up in slots: the slot that is found, and what it says of the model's environment. Assumes nothing.
use Prim.Native.Nat.{ℕ, zero, suc, ◌+◌, ◌*◌, ◌≤◌, ◌<◌}
use mathlib.Core.Path.{◌≡◌, refl, sym, ap, ◌∙◌}
use mathlib.Core.Bool.{Bool, true, false, cond}
use mathlib.Core.List.{List, [], ◌∷◌, map}
use mathlib.Core.Option.{some}
use native.Mathlib.Omega.{arith}
use borrow.Author.Tests.{eq-eqb, ne_eqb}
use lib.Dec.{eqb}
use Rattle.syntax.specs.declared.names.VarId.{VarId}
use Rattle.model.specs.Machine.{Value, int, cell, outside, Entries}
use Rattle.model.specs.Lists.{lookup}
use Rattle.step_slots.specs.Slots.{value_slot}
use Rattle.step_slots.specs.Views.{no_slot, slot_at, slots_at, is_slot, all_slots}
use Rattle.image_spec.proofs.DirectoryLaws.{and_left, and_right}
use Rattle.step_spec.specs.Store.{entry_slot}
use Rattle.step_entries.specs.Named.{named, slot_or_none}

-- ── the slot that a lookup finds ──

-- slots that stand in bytes, place by place
pub slot-stands : (s : List ℕ) (at n i : ℕ) → all_slots (slots_at s at n) ≡ true → i < n → is_slot (slot_at s (at + 16 * i)) ≡ true
unfolding slots_at
slot-stands s at zero i a h = absurd (omega arith)
slot-stands s at (suc n) zero a h =
    let k : at + 16 * 0 ≡ at = omega arith in
    ap (λ (p : ℕ). is_slot (slot_at s p)) k ∙ and_left (is_slot (slot_at s at)) (all_slots (slots_at s (at + 16) n)) a
slot-stands s at (suc n) (suc i) a h =
    let k : at + 16 * suc i ≡ at + 16 + 16 * i = omega arith in
    ap (λ (p : ℕ). is_slot (slot_at s p)) k ∙ slot-stands s (at + 16) n i (and_right (is_slot (slot_at s at)) (all_slots (slots_at s (at + 16) n)) a) (omega arith)

module _ (s : List ℕ) (id : ℕ) where
  -- none of the n slots from byte `at` has the ID
  abbrev pub Missed : (at n : ℕ) → Type 0
  Missed at n = (k : ℕ) → 0 ≤ k → k < n → (slot_at s (at + 16 * k)).id ≡ id → ⊥

  behind : (at n m : ℕ) → n < m → Missed at m → Missed (at + 16) n
  behind at n m h f k low high e = let p : at + 16 * (k + 1) ≡ at + 16 + 16 * k = omega arith in f (k + 1) (omega arith) (omega arith) (ap (λ (a : ℕ). (slot_at s a).id) p ∙ e)

  passed : (at n m : ℕ) → 0 < m → Missed at m → named id (slots_at s at (suc n)) ≡ named id (slots_at s (at + 16) n)
  unfolding named slots_at
  passed at n m h f =
      let p : at + 16 * 0 ≡ at = omega arith in
      let x : id ≡ (slot_at s at).id → ⊥ = λ e. f 0 (omega arith) h (ap (λ (a : ℕ). (slot_at s a).id) p ∙ sym e) in
      ap (λ (b : Bool). cond b (slot_at s at) (named id (slots_at s (at + 16) n))) (ne_eqb id (slot_at s at).id x)

  pub named_missed : (at n : ℕ) → Missed at n → no_slot ≡ named id (slots_at s at n)
  unfolding named slots_at
  named_missed at zero f = refl
  named_missed at (suc n) f = named_missed (at + 16) n (behind at n (suc n) (omega arith) f) ∙ sym (passed at n (suc n) (omega arith) f)

  pub named-found : (at n i : ℕ) → i < n → (slot_at s (at + 16 * i)).id ≡ id → Missed at i → slot_at s (at + 16 * i) ≡ named id (slots_at s at n)
  unfolding named slots_at
  named-found at zero i h e f = absurd (omega arith)
  named-found at (suc n) zero h e f =
      let p : at + 16 * 0 ≡ at = omega arith in
      let x : id ≡ (slot_at s at).id = sym e ∙ ap (λ (a : ℕ). (slot_at s a).id) p in
      ap (slot_at s) p ∙ sym (ap (λ (b : Bool). cond b (slot_at s at) (named id (slots_at s (at + 16) n))) (eq-eqb id (slot_at s at).id x))
  named-found at (suc n) (suc i) h e f =
      let p : at + 16 + 16 * i ≡ at + 16 * suc i = omega arith in
      sym (ap (slot_at s) p)
      ∙ (named-found (at + 16) n i (omega arith) (ap (λ (a : ℕ). (slot_at s a).id) p ∙ e) (behind at i (suc i) (omega arith) f) ∙ sym (passed at n (suc i) (omega arith) f))

-- ── the model's lookup ──

pub lookup-named : (of : ℕ → ℕ) (x : VarId) (ε : Entries) → named x.0 (map (entry_slot of) ε) ≡ slot_or_none of x.0 (lookup x ε)
unfolding named
lookup-named of x [] = refl
lookup-named of x ((y, v) ∷ ε) = go (eqb x.0 y.0) refl (slot-id v) (lookup-named of x ε)
  where
    slot-id : (v : Value) → (value_slot of y.0 v).id ≡ y.0
    slot-id (int z) = refl
    slot-id (cell k) = refl
    slot-id (outside k) = refl

    go : (b : Bool) → eqb x.0 y.0 ≡ b → (value_slot of y.0 v).id ≡ y.0 → named x.0 (map (entry_slot of) ε) ≡ slot_or_none of x.0 (lookup x ε)
        → cond (eqb x.0 (value_slot of y.0 v).id) (value_slot of y.0 v) (named x.0 (map (entry_slot of) ε)) ≡ slot_or_none of x.0 (cond (eqb x.0 y.0) (some v) (lookup x ε))
    go true e i h = rw (i, e) (ap (λ (k : ℕ). value_slot of k v) (sym (borrow.Author.Tests.eqb-true x.0 y.0 e)))
    go false e i h = rw (i, e) h
