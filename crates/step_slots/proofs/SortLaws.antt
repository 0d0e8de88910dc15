-- The sorts by name and by byte, and slots with a sort by name. In order: a byte belongs to one sort; where two sorts test as one their bytes are
-- one, and else not, and what `!=` says of `==`; what code has for a slot is one, and what it has for none is not. Assumes nothing.
use Rattle.std.specs.Prelude.{Some, None}
use Prim.Native.Nat.{ℕ, ◌≤◌}
use mathlib.Core.List.{List, [], ◌∷◌}
use mathlib.Core.Path.{◌≡◌, refl, ap, sym, ◌∙◌}
use mathlib.Core.Bool.{Bool, true, false, not, false≢true, true≢false}
use native.Mathlib.Omega.{arith}
use borrow.Author.Rules.{rules}
use borrow.Author.Tests.{le-leb}
use lib.ListN.{get_or}
use denote.Enum.Declared.{tag_of}
use denote.Enum.Bare.{sameb, same_true, same_false}
use Rattle.step_slots.specs.contracts.sort.Sort.{the_type as sort_type}
use Rattle.step_slots.specs.declared.sort.Sort.{Sort}
use Rattle.step_slots.specs.declared.sort.Sort.TheVariants.{Integer, Cell, Outside, LetCell, CreateCell}
use Rattle.step_slots.specs.declared.Slot as code
use Rattle.step_slots.specs.Sorts.{sort_code}
use Rattle.step_slots.specs.Slots.{Slot, as_slot}
use Rattle.step_slots.specs.Views.{found_slot, is_slot}

-- ── a byte belongs to one sort ──

abbrev sorts : List Sort
sorts = Integer ∷ Cell ∷ Outside ∷ LetCell ∷ CreateCell ∷ []

coded : (s : Sort) → get_or sorts (sort_code s) Integer ≡ s
coded Integer = refl
coded Cell = refl
coded Outside = refl
coded LetCell = refl
coded CreateCell = refl

pub same-sort : (a b : Sort) → sort_code a ≡ sort_code b → a ≡ b
same-sort a b e = sym (coded a) ∙ (ap (λ k. get_or sorts k Integer) e ∙ coded b)

pub sort-differs : (a b : Sort) → (a ≡ b → ⊥) → sort_code a ≡ sort_code b → ⊥
sort-differs a b h e = h (same-sort a b e)

pub sort-below : (s : Sort) → sort_code s ≤ 4
sort-below Integer = omega arith
sort-below Cell = omega arith
sort-below Outside = omega arith
sort-below LetCell = omega arith
sort-below CreateCell = omega arith

-- the byte that `as u8` gives
pub sort-number : (s : Sort) → tag_of sort_type s ≡ sort_code s
sort-number Integer = refl
sort-number Cell = refl
sort-number Outside = refl
sort-number LetCell = refl
sort-number CreateCell = refl

-- ── the test of two sorts is that of their bytes ──

pub codes_same : (a b : Sort) {t : Bool} → t ≡ sameb sort_type a b → t ≡ true → sort_code a ≡ sort_code b
codes_same a b e h = ap sort_code (same_true sort_type (search rules) a b (sym e ∙ h))

pub codes_differ : (a b : Sort) {t : Bool} → t ≡ sameb sort_type a b → t ≡ false → sort_code a ≡ sort_code b → ⊥
codes_differ a b e h q = same_false sort_type a b (sym e ∙ h) (same-sort a b q)

-- what `!=` says of `==`
pub unlike : {b t : Bool} → t ≡ not b → t ≡ true → b ≡ false
unlike {b = true} e h = absurd (false≢true (sym e ∙ h))
unlike {b = false} e h = refl

pub alike : {b t : Bool} → t ≡ not b → t ≡ false → b ≡ true
alike {b = true} e h = refl
alike {b = false} e h = absurd (true≢false (sym e ∙ h))

-- ── slots with a sort by name ──

pub slot-is : (t : code.Slot) → is_slot (as_slot t) ≡ true
slot-is t = le-leb (sort_code t.sort) 4 (sort-below t.sort)

-- .. so where a slot was read, or none
pub none_there : {t : Slot} → found_slot None ≡ t → is_slot t ≡ false
none_there e = rw (← e) refl

pub some_there : (s : code.Slot) {t : Slot} → found_slot (Some s) ≡ t → is_slot t ≡ true
some_there s e = rw (← e) (slot-is s)
