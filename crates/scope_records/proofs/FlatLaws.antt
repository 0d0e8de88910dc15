-- The questions of a record by its kind and the bytes of its tail, and over all records. Assumes nothing.
use Prim.Native.Nat.{ℕ, zero, suc, ◌+◌, ◌≤◌, ◌<◌}
use mathlib.Core.Path.{◌≡◌, refl, sym, ap, ◌∙◌}
use mathlib.Core.Bool.{Bool, true, false, ◌&&◌, cond}
use mathlib.Core.List.{List, [], ◌∷◌}
use mathlib.Core.Option.{none, some}
use native.Mathlib.Omega.{arith}
use native.Mathlib.Numerals.{add-one}
use lib.Dec.{leb, eqb}
use lib.ListN.{length, drop, get_or, length-drop}
use lib.Seq.{drop-cons}
use Rattle.std.specs.List.{list_all, range_with_len}
use Rattle.syntax.proofs.Bools.{both_true}
use Rattle.image_spec.specs.Records.{Record, definition, substitute, call, let', switch, create, invoke, literal, op, ifc, clause', print, exit}
use Rattle.image_spec.specs.Kinds.{kind_of, clauses_of, tail_bytes}
use Rattle.image_kinds.specs.Codes.{code_of}
use Rattle.image_kinds.specs.declared.kinds.Kind.{Kind}
use Rattle.image_kinds.proofs.KindNames.{same_code}
use Rattle.image_read_parts.specs.Standing.{head_of}
use Rattle.scope_spec.specs.Flat.{all_records_lem, plain_record_lem, small_record_lem}
use Rattle.scope_records.specs.Environments.{small_environment_lem}

-- ── the questions of a record, by its kind and the bytes of its tail ──

pub plain_is : (w : ℕ) (r : Record) → plain_record_lem r ≡ cond (eqb (kind_of r) 2) false (cond (eqb (kind_of r) 6) (eqb (get_or (tail_bytes w r) 0 0) 0) true)
plain_is w (definition x Γ) = refl
plain_is w (substitute ps) = refl
plain_is w (call x Γ) = refl
plain_is w (let' v t g Γ) = refl
plain_is w (switch v t n) = refl
plain_is w (create v t none n) = refl
plain_is w (create v t (some Γ) n) = refl
plain_is w (invoke v g t Γ) = refl
plain_is w (literal z v) = refl
plain_is w (op f o s v) = refl
plain_is w (ifc c f x) = refl
plain_is w (clause' x Γ) = refl
plain_is w (print n v) = refl
plain_is w (exit v) = refl

pub environment_is : (w : ℕ) (r : Record) → kind_of r ≡ 6 → small_environment_lem r ≡ cond (eqb (get_or (tail_bytes w r) 0 0) 0) true (leb (get_or (tail_bytes w r) 1 0) 32)
environment_is w (definition x Γ) a = absurd (omega arith)
environment_is w (substitute ps) a = absurd (omega arith)
environment_is w (call x Γ) a = absurd (omega arith)
environment_is w (let' v t g Γ) a = absurd (omega arith)
environment_is w (switch v t n) a = absurd (omega arith)
environment_is w (create v t none n) a = refl
environment_is w (create v t (some Γ) n) a = refl
environment_is w (invoke v g t Γ) a = absurd (omega arith)
environment_is w (literal z v) a = absurd (omega arith)
environment_is w (op f o s v) a = absurd (omega arith)
environment_is w (ifc c f x) a = absurd (omega arith)
environment_is w (clause' x Γ) a = absurd (omega arith)
environment_is w (print n v) a = absurd (omega arith)
environment_is w (exit v) a = absurd (omega arith)

pub small_is : (w : ℕ) (r : Record)
    → small_record_lem r ≡ cond (eqb (kind_of r) 8) true (cond (eqb (kind_of r) 9) true (cond (eqb (kind_of r) 10) true
    (cond (eqb (kind_of r) 12) true (cond (eqb (kind_of r) 13) true
    (cond (eqb (kind_of r) 6) (small_environment_lem r && leb (clauses_of r) 32) (leb (get_or (tail_bytes w r) 0 0) 32))))))
small_is w (definition x Γ) = refl
small_is w (substitute ps) = refl
small_is w (call x Γ) = refl
small_is w (let' v t g Γ) = refl
small_is w (switch v t n) = refl
small_is w (create v t e n) = refl
small_is w (invoke v g t Γ) = refl
small_is w (literal z v) = refl
small_is w (op f o s v) = refl
small_is w (ifc c f x) = refl
small_is w (clause' x Γ) = refl
small_is w (print n v) = refl
small_is w (exit v) = refl

-- a record of this kind has no other kind's byte
pub not_kind : (r : Record) {k : Kind} (other : Kind) → kind_of r ≡ code_of k → (k ≡ other → ⊥) → kind_of r ≡ code_of other → ⊥
not_kind r other h n e = n (same_code _ other (sym h ∙ e))

-- ── over all records ──

pub all-step : (f : Record → Bool) (rs : List Record) (i : ℕ) → i < length rs → all_records_lem f (drop i rs) ≡ f (head_of (drop i rs)) && all_records_lem f (drop (i + 1) rs)
all-step f rs i h =
    let d : Record = head_of [] in
    rw (add-one, drop-cons rs i d h) refl

pub all_end : (f : Record → Bool) (rs : List Record) (i : ℕ) → length rs ≤ i → all_records_lem f (drop i rs) ≡ true
all_end f rs i h = go (drop i rs) (omega (arith, length-drop i rs))
  where
    go : (l : List Record) → length l ≡ 0 → all_records_lem f l ≡ true
    go [] e = refl
    go (r ∷ l) e = absurd (omega arith)

-- all records from i on, asked one index after the other
pub all-listed : (f : Record → Bool) (rs : List Record) (i n : ℕ) → i + n ≡ length rs → list_all (λ j. f (head_of (drop j rs))) (range_with_len i n) ≡ all_records_lem f (drop i rs)
all-listed f rs i zero e = sym (all_end f rs i (omega arith))
all-listed f rs i (suc n) e = ap (λ b. f (head_of (drop i rs)) && b) (all-listed f rs (i + 1) n (omega arith)) ∙ sym (all-step f rs i (omega arith))

-- what every record passes, the record at a place passes
pub record_at_lem : (f : Record → Bool) (rs : List Record) (i : ℕ) → all_records_lem f rs ≡ true → i < length rs → f (head_of (drop i rs)) ≡ true
record_at_lem f [] i a h = absurd (omega arith)
record_at_lem f (r ∷ rs) zero a h = (both_true (f r) _ a).0
record_at_lem f (r ∷ rs) (suc i) a h = record_at_lem f rs i (both_true (f r) _ a).1 (omega arith)
