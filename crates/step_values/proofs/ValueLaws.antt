-- The values of a start: the test of them all, and what it says of `givens`. Assumes nothing.
use Prim.Native.Nat.{ℕ, zero, suc, ◌+◌, ◌*◌}
use mathlib.Core.Path.{◌≡◌, refl, sym, ap, ap₂, ◌∙◌}
use mathlib.Core.Bool.{Bool, true, false, ◌&&◌, ◌||◌, cond, false≢true}
use mathlib.Core.List.{List, [], ◌∷◌, map}
use mathlib.Core.Option.{Option, none, some}
use native.Mathlib.Omega.{arith}
use borrow.Author.Tests.{eq-eqb, eqb-true, le-leb}
use lib.Dec.{eqb, ltb}
use lib.ListN.{length, drop, drop_of_length-le, length-append}
use mir.Syntax.{w64}
use mir.Val.{to_z}
use mir.ValLaws.{of_z-to_z}
use Rattle.std.specs.List.{list_all, range_with_len}
use Rattle.model.specs.Machine.{Given, integer, outside_number, value}
use Rattle.image_spec.specs.Parse.{Parsed, got, only_if, times, whole, each, All}
use Rattle.image_spec.specs.Image.{if_some}
use Rattle.image_spec.proofs.DirectoryLaws.{and_left, and_right}
use Rattle.step_slots.specs.Slots.{Slot, slot_bytes, SlotOk, slot_parser, value_slot}
use Rattle.step_slots.specs.Views.{slot_at, slots_at, is_slot, all_slots}
use Rattle.step_slots.proofs.SlotLaws.{slots_parse}
use Rattle.step_slots.proofs.SlotBytes.{slots_length, slots-bytes, slots-count}
use Rattle.step_slots.proofs.SlotPlaces.{slots-ok}
use Rattle.step_spec.specs.Store.{every_slot}
use Rattle.step_spec.specs.Events.{given_by_lem, given_in, and_given, givens_in, givens}
use Rattle.step_values.specs.Values.{given_ok_lem, are_given_lem}

-- ── one value ──

-- one that a start may give is a slot
ok-slot : (t : Slot) → given_ok_lem t ≡ true → is_slot t ≡ true
ok-slot t e = go (eqb t.id 0) (eqb t.sort 0) (eqb t.sort 2) refl refl e
  where
    go : (a b c : Bool) → eqb t.sort 0 ≡ b → eqb t.sort 2 ≡ c → a && (b || (c && ltb t.payload 256)) ≡ true → is_slot t ≡ true
    go true true c p q f = le-leb t.sort 4 (omega (arith, eqb-true t.sort 0 p))
    go true false true p q f = le-leb t.sort 4 (omega (arith, eqb-true t.sort 2 q))
    go true false false p q f = absurd (false≢true f)
    go false b c p q f = absurd (false≢true f)

-- the slot of a value that is given
abbrev pub given_slot : Given → Slot
given_slot v = value_slot (λ (k : ℕ). k) 0 (value v)

record OneGiven (t : Slot) : Type 0 where
  given : Given
  is : given_in t ≡ some given
  back : given_slot given ≡ t

sort_zero : (t : Slot) → SlotOk t → t.id ≡ 0 → t.sort ≡ 0 → OneGiven t
sort_zero t o i s = record {
  given = integer (to_z w64 t.payload);
  is = rw (i, s) refl;
  back = λ j. record { sort = sym s j; id = sym i j; payload = of_z-to_z w64 t.payload (record { fits = o.1.1.1 }) j };
}

sort-two : (t : Slot) → t.id ≡ 0 → t.sort ≡ 2 → ltb t.payload 256 ≡ true → OneGiven t
sort-two t i s p = record {
  given = outside_number t.payload;
  is = rw (i, s, p) refl;
  back = λ j. record { sort = sym s j; id = sym i j; payload = t.payload };
}

one-given : (t : Slot) → SlotOk t → given_ok_lem t ≡ true → OneGiven t
one-given t o e = go (eqb t.id 0) (eqb t.sort 0) (eqb t.sort 2) (ltb t.payload 256) refl refl refl refl e
  where
    go : (a b c d : Bool) → eqb t.id 0 ≡ a → eqb t.sort 0 ≡ b → eqb t.sort 2 ≡ c → ltb t.payload 256 ≡ d → a && (b || (c && d)) ≡ true → OneGiven t
    go true true c d i p q r f = sort_zero t o (eqb-true t.id 0 i) (eqb-true t.sort 0 p)
    go true false true true i p q r f = sort-two t (eqb-true t.id 0 i) (eqb-true t.sort 2 q) r
    go true false true false i p q r f = absurd (false≢true f)
    go true false false d i p q r f = absurd (false≢true f)
    go false b c d i p q r f = absurd (false≢true f)

not_given : (t : Slot) → given_ok_lem t ≡ false → given_in t ≡ none
not_given t e = go (eqb t.id 0) refl
  where
    by : (k p : ℕ) → (eqb k 0 || (eqb k 2 && ltb p 256)) ≡ false → given_by_lem k p ≡ none
    by zero p f = absurd (false≢true (sym f))
    by (suc zero) p f = refl
    by (suc (suc zero)) p f = rw f refl
    by (suc (suc (suc k))) p f = refl

    go : (a : Bool) → eqb t.id 0 ≡ a → cond a (given_by_lem t.sort t.payload) none ≡ none
    go true i = by t.sort t.payload (ap (λ (z : Bool). z && (eqb t.sort 0 || (eqb t.sort 2 && ltb t.payload 256))) (sym i) ∙ e)
    go false i = refl

-- ── all of them ──

pub record AllGiven (ts : List Slot) : Type 0 where
  pub given : List Given
  pub is : givens_in ts ≡ some given
  pub back : map given_slot given ≡ ts

all-given : (ts : List Slot) → All SlotOk ts → every_slot given_ok_lem ts ≡ true → AllGiven ts
all-given [] o e = record { given = []; is = refl; back = refl }
all-given (t ∷ ts) o e =
    let a = one-given t o.0 (and_left (given_ok_lem t) (every_slot given_ok_lem ts) e) in
    let b = all-given ts o.1 (and_right (given_ok_lem t) (every_slot given_ok_lem ts) e) in
    record {
      given = a.given ∷ b.given;
      is = ap₂ {C = Option (List Given)} and_given a.is b.is;
      back = ap₂ {C = List Slot} (λ (x : Slot) (y : List Slot). x ∷ y) a.back b.back;
    }

not_all_given : (ts : List Slot) → every_slot given_ok_lem ts ≡ false → givens_in ts ≡ none
not_all_given [] e = absurd (false≢true (sym e))
not_all_given (t ∷ ts) e = go (given_ok_lem t) refl e (not_all_given ts)
  where
    first : (o : Option (List Given)) → and_given none o ≡ none
    first o = refl

    rest : (o : Option Given) → and_given o none ≡ none
    rest none = refl
    rest (some v) = refl

    go : (a : Bool) → given_ok_lem t ≡ a → a && every_slot given_ok_lem ts ≡ false → (every_slot given_ok_lem ts ≡ false → givens_in ts ≡ none) → and_given (given_in t) (givens_in ts) ≡ none
    go true p f k = ap (and_given (given_in t)) (k f) ∙ rest (given_in t)
    go false p f k = ap (λ (o : Option Given). and_given o (givens_in ts)) (not_given t p) ∙ first (givens_in ts)

every-slots : (ts : List Slot) → every_slot given_ok_lem ts ≡ true → all_slots ts ≡ true
every-slots [] e = refl
every-slots (t ∷ ts) e = rw (ok-slot t (and_left (given_ok_lem t) (every_slot given_ok_lem ts) e)) (every-slots ts (and_right (given_ok_lem t) (every_slot given_ok_lem ts) e))

-- ── the bytes ──

module _ (n : ℕ) (s : List ℕ) where
  parsed : times n slot_parser s ≡ only_if (all_slots (slots_at s 0 n)) (got (slots_at s 0 n) (drop (0 + 16 * n) s))
  parsed = slots_parse s 0 n

  pub are-given : are_given_lem n s ≡ true → AllGiven (slots_at s 0 n) × (givens n s ≡ givens_in (slots_at s 0 n)) × (length s ≡ 16 * n) × (all_slots (slots_at s 0 n) ≡ true)
  unfolding are_given_lem givens
  are-given e =
      let ts = slots_at s 0 n in
      let k : length s ≡ 16 * n = eqb-true (length s) (16 * n) (and_left (eqb (length s) (16 * n)) (every_slot given_ok_lem ts) e) in
      let f = and_right (eqb (length s) (16 * n)) (every_slot given_ok_lem ts) e in
      let a = every-slots ts f in
      let z : drop (0 + 16 * n) s ≡ [] = drop_of_length-le s {i = 0 + 16 * n} (omega (arith, k)) in (
        all-given ts (slots-ok s 0 n a) f,
        ap (λ (r : Parsed ℕ (List Slot)). if_some (whole r) none givens_in) (parsed ∙ (ap (λ (b : Bool). only_if b (got ts (drop (0 + 16 * n) s))) a ∙ ap (got ts) z)),
        k,
        a,
      )

  pub not_given_all : are_given_lem n s ≡ false → givens n s ≡ none
  unfolding are_given_lem givens
  not_given_all e = go (all_slots (slots_at s 0 n)) refl
    where
      short : (m : List ℕ) → m ≡ drop (0 + 16 * n) s → all_slots (slots_at s 0 n) ≡ true → if_some (whole (got (slots_at s 0 n) m)) none givens_in ≡ none
      short [] h a =
          let k : length s ≡ 16 * n = ap length (slots-bytes s 0 n a) ∙ omega (arith, length-append (each slot_bytes (slots_at s 0 n)) (drop (0 + 16 * n) s), slots_length (slots_at s 0 n), slots-count s 0 n, ap length h) in
          not_all_given (slots_at s 0 n) (ap (λ (b : Bool). b && every_slot given_ok_lem (slots_at s 0 n)) (sym (eq-eqb (length s) (16 * n) k)) ∙ e)
      short (x ∷ m) h a = refl

      go : (b : Bool) → all_slots (slots_at s 0 n) ≡ b → if_some (whole (times n slot_parser s)) none givens_in ≡ none
      go false a = ap (λ (r : Parsed ℕ (List Slot)). if_some (whole r) none givens_in) (parsed ∙ ap (λ (b : Bool). only_if b (got (slots_at s 0 n) (drop (0 + 16 * n) s))) a)
      go true a = ap (λ (r : Parsed ℕ (List Slot)). if_some (whole r) none givens_in) (parsed ∙ ap (λ (b : Bool). only_if b (got (slots_at s 0 n) (drop (0 + 16 * n) s))) a) ∙ short (drop (0 + 16 * n) s) refl a

-- ── all of them, asked one place after the other ──

pub given-listed : (s : List ℕ) (i n : ℕ) → list_all (λ j. given_ok_lem (slot_at s (16 * j))) (range_with_len i n) ≡ every_slot given_ok_lem (slots_at s (16 * i) n)
unfolding slots_at
given-listed s i zero = refl
given-listed s i (suc n) =
    let k : 16 * (i + 1) ≡ 16 * i + 16 = omega arith in
    ap (λ (b : Bool). given_ok_lem (slot_at s (16 * i)) && b) (given-listed s (i + 1) n ∙ ap (λ (at : ℕ). every_slot given_ok_lem (slots_at s at n)) k)
