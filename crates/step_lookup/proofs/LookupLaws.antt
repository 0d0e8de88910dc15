-- The integer of a variable that was looked up in the slots of an environment is the model's. Assumes nothing.
use Rattle.std.specs.Prelude.{Err}
use Prim.Native.Nat.{ℕ}
use mathlib.Core.Path.{◌≡◌, refl, sym, ap, ap₂, ◌∙◌}
use mathlib.Core.Bool.{Bool, cond}
use mathlib.Core.List.{List}
use mathlib.Core.Option.{Option, none, some}
use borrow.Author.Tests.{eq-eqb, ne_eqb}
use lib.IntN.{ℤ}
use mir.Syntax.{w64}
use mir.Val.{to_z}
use mir.ValLaws.{to_z-of_z}
use Rattle.syntax.specs.declared.names.VarId.{VarId}
use Rattle.model.specs.Syntax.{Prog}
use Rattle.model.specs.Lists.{lookup}
use Rattle.model.specs.Machine.{Value, Entries, Outcome, halts, or_halt, as_int}
use Rattle.step_slots.specs.Slots.{Slot}
use Rattle.step_spec.specs.Located.{Machine, Located, project, located_step}
use Rattle.step_header.specs.declared.Header.{Header}
use Rattle.step_header.specs.Headers.{entries_in}
use Rattle.step_entries.specs.Named.{named}
use Rattle.step_write.specs.declared.Stop.TheVariants.{NoStep}
use Rattle.step_rule.specs.Rules.{Stored, resting, Makes, no_step}
use Rattle.step_rule.proofs.Finds.{Sees, sees_none, sees-int, sees-cell, sees-outside, sees}
use Rattle.step_rule.proofs.Ways.{halted}
use Rattle.step_lookup.specs.Integer.{integer_in, of_both}

-- ── integers ──

-- the slot's sort says which
pub integer_is : {t u : Slot} {z : ℤ} → u ≡ t → u.sort ≡ 0 → z ≡ to_z w64 u.payload → some z ≡ integer_in t
unfolding integer_in
integer_is {t} {u} e s z = ap some z ∙ (ap (λ (b : Bool). cond b (some (to_z w64 u.payload)) none) (sym (eq-eqb u.sort 0 s)) ∙ ap integer_in e)

pub no-integer : {t u : Slot} → u ≡ t → (u.sort ≡ 0 → ⊥) → none ≡ integer_in t
unfolding integer_in
no-integer {t} {u} e s = ap (λ (b : Bool). cond b (some (to_z w64 u.payload)) none) (sym (ne_eqb u.sort 0 s)) ∙ ap integer_in e

-- the integer that a value is, if there is a value
abbrev pub integer_as : Option Value → Option ℤ
integer_as none = none
integer_as (some v) = as_int v

seen : {of : ℕ → ℕ} {x : VarId} {ε : Entries} {t : Slot} → Sees of x ε t → integer_in t ≡ integer_as (lookup x ε)
unfolding integer_in
seen (sees_none e) = sym (ap integer_as e)
seen (sees-int z e f) = ap some (to_z-of_z w64 z f) ∙ sym (ap integer_as e)
seen (sees-cell k e) = sym (ap integer_as e)
seen (sees-outside n e) = sym (ap integer_as e)

module _ {M : Machine} {P : Prog} {store : List ℕ} {h : Header} {l : Located} (o : Stored M P store h l) where
  pub integer-seen : (x : VarId) → integer_in (named x.0 (entries_in store h)) ≡ integer_as (lookup x l.environment)
  integer-seen x = seen (sees o x refl)

-- what is done with the integer of a value
pub one-integer : (a : Option Value) (k : ℤ → Outcome) → (or_halt a λ v. or_halt (as_int v) k) ≡ or_halt (integer_as a) k
one-integer none k = refl
one-integer (some v) k = refl

-- .. and with those of two values, which are looked up before either is asked for its integer
pub two_integers : {A : Type 0} (a b : Option Value) (f : ℤ → ℤ → Option A) (k : A → Outcome)
    → (or_halt a λ v. or_halt b λ w. or_halt (as_int v) λ x. or_halt (as_int w) λ y. or_halt (f x y) k) ≡ or_halt (of_both f (integer_as a) (integer_as b)) k
unfolding of_both
two_integers none b f k = refl
two_integers (some v) none f k = without (as_int v)
  where
    without : (o : Option ℤ) → halts ≡ or_halt (of_both f o none) k
    without none = refl
    without (some x) = refl
two_integers (some v) (some w) f k = both (as_int v) (as_int w)
  where
    both : (o p : Option ℤ) → (or_halt o λ x. or_halt p λ y. or_halt (f x y) k) ≡ or_halt (of_both f o p) k
    both none p = refl
    both (some x) none = refl
    both (some x) (some y) = refl

-- .. read one after another
module _ {A : Type 0} (f : ℤ → ℤ → Option A) (a b : Option ℤ) where
  pub first-missing : none ≡ a → none ≡ of_both f a b
  unfolding of_both
  first-missing e = ap (λ (x : Option ℤ). of_both f x b) e

  pub second-missing : none ≡ b → none ≡ of_both f a b
  unfolding of_both
  second-missing e = without a ∙ ap (of_both f a) e
    where
      without : (x : Option ℤ) → none ≡ of_both f x none
      without none = refl
      without (some x) = refl

  pub both-there : {x y : ℤ} → some x ≡ a → some y ≡ b → f x y ≡ of_both f a b
  unfolding of_both
  both-there d e = ap₂ {C = Option A} (of_both f) d e

-- ── a step that asks for something ──

pub record Asks {A : Type 0} (a : Option A) (k : A → Outcome) (r : Outcome) : Type 0 where
  pub is : r ≡ or_halt a k

-- it goes on where that is there
pub goes_with : {A : Type 0} {a : Option A} {k : A → Outcome} {r : Outcome} → Asks a k r → (x : A) → some x ≡ a → r ≡ k x
goes_with {A} {a} {k} e x q = e.is ∙ ap (λ (z : Option A). or_halt z k) (sym q)

-- and halts where it is not: nothing is done
module _ {M : Machine} {P : Prog} {store : List ℕ} {h : Header} {l : Located} (o : Stored M P store h l) (events : List ℕ) (at : ℕ) where
  pub nothing-made : {A : Type 0} {a : Option A} {k : A → Outcome} → Asks a k (M.step P (project P l)) → none ≡ a → Makes store events at (resting (located_step M P l)) store events (Err NoStep)
  nothing-made {A} {a} {k} e q = rw (halted o (e.is ∙ ap (λ (z : Option A). or_halt z k) (sym q))) no_step
