-- Reading a header, as code does it. Assumes nothing.
use Prim.Native.Nat.{ℕ, zero, suc, ◌+◌, ◌≤◌, ◌<◌}
use mathlib.Core.Path.{◌≡◌, refl, sym, ap, ◌∙◌}
use mathlib.Core.Bool.{Bool, true, false, ◌&&◌}
use Rattle.std.specs.Prelude.{Option, Some, None}
use Rattle.std.specs.Bool.{then_some}
use Rattle.std.specs.Int.{from_bool}
use mathlib.Core.List.{List, ◌∷◌}
use native.Mathlib.Omega.{arith}
use borrow.Author.Tests.{lt-leb}
use lib.ListN.{length, drop, get_or}
use Rattle.image_spec.specs.Parse.{Parsed, refused, got, Parser, only_if, both, code, number, zeros}
use Rattle.step_slots.proofs.SlotReads.{drop_head}
use Rattle.step_spec.specs.Store.{bit, header_parser}
use Rattle.step_header.specs.declared.Header.{Header}
use Rattle.step_header.specs.Headers.{tuple_of, flag_of, read_as}

-- p reads a from l, and m is left, if x
record Gives {X A : Type 0} (p : Parser X A) (l : List X) (x : Bool) (a : A) (m : List X) : Type 0 where
  gives : p l ≡ only_if x (got a m)

-- one value after the other, each if it is there
both-gives : {X A B : Type 0} {p : Parser X A} {q : Parser X B} {l m n : List X} {a : A} {b : B} {x y : Bool}
    → Gives p l x a m → Gives q m y b n → Gives (both p q) l (x && y) (a, b) n
both-gives {p = p} {q = q} {l = l} {m = m} {n = n} {a = a} {b = b} {x = x} {y = y} e f = record { gives = go x y e.gives f.gives }
  where
    go : (x y : Bool) → p l ≡ only_if x (got a m) → q m ≡ only_if y (got b n) → both p q l ≡ only_if (x && y) (got (a, b) n)
    go true true e f = rw (e, f) refl
    go true false e f = rw (e, f) refl
    go false y e f = rw e refl

-- a byte that is a flag, or is none
abbrev flag_read : Option Bool → List ℕ → Parsed ℕ ℕ
flag_read None m = refused
flag_read (Some b) m = got (bit b) m

code_is : (n : ℕ) (m : List ℕ) → code 1 (n ∷ m) ≡ flag_read (flag_of n) m
code_is zero m = refl
code_is (suc zero) m = refl
code_is (suc (suc n)) m = rw (lt-leb (suc (suc n)) 1 (omega arith)) refl

flag_at : (s : List ℕ) (at : ℕ) {o : Option Bool} → at < length s → o ≡ flag_of (get_or s at 0) → code 1 (drop at s) ≡ flag_read o (drop (at + 1) s)
flag_at s at h e = ap (code 1) (drop_head s at h) ∙ (code_is (get_or s at 0) (drop (at + 1) s) ∙ ap (λ (f : Option Bool). flag_read f (drop (at + 1) s)) (sym e))

-- the byte of a flag that is written
pub bit_is : {n : ℕ} (b : Bool) → n ≡ from_bool b → n ≡ bit b
bit_is true e = e
bit_is false e = e

-- what is answered where a test says so
pub chosen : (b : Bool) (h : Header) (m : List ℕ) → only_if b (got (tuple_of h) m) ≡ read_as (then_some b h) m
chosen true h m = refl
chosen false h m = refl

-- the parts at their places
module _ (s : List ℕ) (h : 64 ≤ length s) {position : ℕ} (n₁ : number 4 (drop 0 s) ≡ got position (drop 4 s)) where
  pub no_ended : None ≡ flag_of (get_or s 4 0) → header_parser s ≡ refused
  no_ended e = rw (n₁, flag_at s 4 (omega arith) e) refl

  module _ {ended : Bool} (f₁ : Some ended ≡ flag_of (get_or s 4 0)) where
    pub no_stopped : None ≡ flag_of (get_or s 5 0) → header_parser s ≡ refused
    no_stopped e = rw (n₁, flag_at s 4 (omega arith) f₁, flag_at s 5 (omega arith) e) refl

    pub header_parse : {stopped : Bool} → Some stopped ≡ flag_of (get_or s 5 0) → {cells heap entries : ℕ} (y z : Bool)
        → zeros 2 (drop 6 s) ≡ only_if y (got tt (drop 8 s))
        → number 8 (drop 8 s) ≡ got cells (drop 16 s)
        → number 8 (drop 16 s) ≡ got heap (drop 24 s)
        → number 8 (drop 24 s) ≡ got entries (drop 32 s)
        → zeros 32 (drop 32 s) ≡ only_if z (got tt (drop 64 s))
        → header_parser s ≡ only_if (y && z) (got (position, (bit ended, (bit stopped, (tt, (cells, (heap, (entries, tt))))))) (drop 64 s))
    header_parse {stopped} f₂ {cells} {heap} {entries} y z z₁ n₂ n₃ n₄ z₂ =
        let g₁ : Gives (number 4) s true position (drop 4 s) = record { gives = n₁ } in
        let g₂ : Gives (code 1) (drop 4 s) true (bit ended) (drop 5 s) = record { gives = flag_at s 4 (omega arith) f₁ } in
        let g₃ : Gives (code 1) (drop 5 s) true (bit stopped) (drop 6 s) = record { gives = flag_at s 5 (omega arith) f₂ } in
        let g₄ : Gives (zeros 2) (drop 6 s) y tt (drop 8 s) = record { gives = z₁ } in
        let g₅ : Gives (number 8) (drop 8 s) true cells (drop 16 s) = record { gives = n₂ } in
        let g₆ : Gives (number 8) (drop 16 s) true heap (drop 24 s) = record { gives = n₃ } in
        let g₇ : Gives (number 8) (drop 24 s) true entries (drop 32 s) = record { gives = n₄ } in
        let g₈ : Gives (zeros 32) (drop 32 s) z tt (drop 64 s) = record { gives = z₂ } in
        (both-gives g₁ (both-gives g₂ (both-gives g₃ (both-gives g₄ (both-gives g₅ (both-gives g₆ (both-gives g₇ g₈))))))).gives
