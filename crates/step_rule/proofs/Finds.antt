-- A variable looked up in the slots of an environment: what the slot that was found says of the model's value. Assumes nothing.
use Prim.Native.Nat.{ℕ, ◌≤◌}
use mathlib.Core.Path.{◌≡◌, refl, sym, ap, ◌∙◌, subst}
use mathlib.Core.List.{List}
use mathlib.Core.Option.{Option, none, some}
use native.Mathlib.Omega.{arith}
use mir.Syntax.{w64}
use mir.Val.{SFits, of_z, to_z}
use mir.ValLaws.{to_z-of_z}
use lib.IntN.{ℤ}
use lib.ListN.{length}
use Rattle.syntax.specs.declared.names.VarId.{VarId}
use Rattle.model.specs.Syntax.{Prog}
use Rattle.model.specs.Lists.{lookup}
use Rattle.model.specs.Machine.{Value, int, cell, outside, Entries, as_int}
use Rattle.image_spec.specs.Parse.{All}
use Rattle.step_slots.specs.Slots.{Slot, slot, value_slot}
use Rattle.step_slots.specs.Views.{no_slot}
use Rattle.step_spec.specs.Located.{Machine, Located}
use Rattle.step_spec.specs.Store.{place_of, environment_of, ValueFits}
use Rattle.step_spec.proofs.Representable.{lookup-fits}
use Rattle.step_header.specs.declared.Header.{Header}
use Rattle.step_header.specs.Headers.{entries_in}
use Rattle.step_entries.specs.Named.{named, slot_or_none}
use Rattle.step_entries.proofs.NamedLaws.{lookup-named}
use Rattle.step_rule.specs.Rules.{Stored}
use Rattle.step_rule.proofs.Views.{viewed}

-- what a slot that was found under an ID says of the environment
pub data Sees (of : ℕ → ℕ) (x : VarId) (ε : Entries) : Slot → Type 0 where
  sees_none : lookup x ε ≡ none → Sees of x ε no_slot
  sees-int : (z : ℤ) → lookup x ε ≡ some (int z) → SFits w64 z → Sees of x ε (slot 0 x.0 (of_z w64 z))
  sees-cell : (k : ℕ) → lookup x ε ≡ some (cell k) → Sees of x ε (slot 1 x.0 (of k))
  sees-outside : (n : ℕ) → lookup x ε ≡ some (outside n) → Sees of x ε (slot 2 x.0 n)

-- the integer that is seen in a slot of sort 0; and none in another
pub sees-integer : {of : ℕ → ℕ} {x : VarId} {ε : Entries} {t : Slot} → Sees of x ε t → t.sort ≡ 0 → lookup x ε ≡ some (int (to_z w64 t.payload))
sees-integer (sees_none e) s = absurd (omega arith)
sees-integer (sees-int z e f) s = e ∙ ap (λ (y : ℤ). some (int y)) (sym (to_z-of_z w64 z f))
sees-integer (sees-cell k e) s = absurd (omega arith)
sees-integer (sees-outside n e) s = absurd (omega arith)

-- no integer: no value, or one of another sort
pub data NoInt (o : Option Value) : Type 0 where
  no_value : o ≡ none → NoInt o
  other-value : (v : Value) → o ≡ some v → as_int v ≡ none → NoInt o

pub sees-no-integer : {of : ℕ → ℕ} {x : VarId} {ε : Entries} {t : Slot} → Sees of x ε t → (t.sort ≡ 0 → ⊥) → NoInt (lookup x ε)
sees-no-integer (sees_none e) s = no_value e
sees-no-integer (sees-int z e f) s = absurd (s refl)
sees-no-integer (sees-cell k e) s = other-value (cell k) e refl
sees-no-integer (sees-outside n e) s = other-value (outside n) e refl

module _ {M : Machine} {P : Prog} {store : List ℕ} {h : Header} {l : Located} (o : Stored M P store h l) where
  pub sees : (x : VarId) {t : Slot} → t ≡ named x.0 (entries_in store h) → Sees (place_of l.cells) x l.environment t
  unfolding environment_of
  sees x {t} e =
      let q : t ≡ slot_or_none (place_of l.cells) x.0 (lookup x l.environment) = e ∙ (ap (named x.0) (viewed o).entries ∙ lookup-named (place_of l.cells) x l.environment) in
      subst (Sees (place_of l.cells) x l.environment) (sym q) (go (lookup x l.environment) refl)
    where
      go : (v : Option Value) → lookup x l.environment ≡ v → Sees (place_of l.cells) x l.environment (slot_or_none (place_of l.cells) x.0 v)
      go none f = sees_none f
      go (some (int z)) f = sees-int z f (lookup-fits (length l.cells) x l.environment (int z) (viewed o).fits.environment f)
      go (some (cell k)) f = sees-cell k f
      go (some (outside n)) f = sees-outside n f
