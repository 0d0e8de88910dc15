-- The fixed part of a record is as long as the table of kinds says, and what follows it is the tail: `tail_at`. The kind is the
-- first byte, and the number of clauses of a Switch or a Create is the last. Assumes nothing.
use Prim.Native.Nat.{ℕ, ◌+◌, ◌-◌, ◌≤◌, ◌<◌}
use mathlib.Core.Bool.{cond}
use mathlib.Core.List.{List, [], ◌∷◌, ◌++◌, append_assoc, append-nil}
use mathlib.Core.Path.{◌≡◌, refl, ap, sym, ◌∙◌}
use native.Mathlib.Omega.{arith}
use lib.Dec.{eqb}
use lib.ListN.{length, drop, get_or, length-append}
use lib.Seq.{drop_at, get_or-append_seam}
use Rattle.image_spec.specs.Parse.{mark}
use Rattle.image_spec.specs.Fields.{operator_code_lem, sort_code_lem, newline_code_lem, integer_bytes, identifier_bytes, type_bytes, list_bytes}
use Rattle.image_spec.specs.Records.{Record, definition, substitute, call, let', switch, create, invoke, literal, op, ifc, clause', print, exit, record_bytes}
use Rattle.image_spec.specs.Kinds.{kind_of, kinds, clauses_of, fixed, tail_bytes}
use Rattle.image_spec.proofs.FieldLaws.{field-length, type-length}

module _ (w : ℕ) where
  -- the fixed part
  front_bytes : Record → List ℕ
  front_bytes (definition i bs) = (1 ∷ []) ++ (identifier_bytes w i)
  front_bytes (substitute ps) = 2 ∷ []
  front_bytes (call i bs) = (3 ∷ []) ++ (identifier_bytes w i)
  front_bytes (let' v t g bs) = (4 ∷ []) ++ ((identifier_bytes w v) ++ ((type_bytes w t) ++ (identifier_bytes w g)))
  front_bytes (switch v t n) = (5 ∷ []) ++ ((identifier_bytes w v) ++ (type_bytes w t))
  front_bytes (create v t e n) = (6 ∷ []) ++ ((identifier_bytes w v) ++ (type_bytes w t))
  front_bytes (invoke v g t bs) = (7 ∷ []) ++ ((identifier_bytes w v) ++ ((identifier_bytes w g) ++ (type_bytes w t)))
  front_bytes (literal n v) = (8 ∷ []) ++ ((integer_bytes n) ++ (identifier_bytes w v))
  front_bytes (op f o g v) = (9 ∷ []) ++ ((identifier_bytes w f) ++ ((operator_code_lem o ∷ []) ++ ((identifier_bytes w g) ++ (identifier_bytes w v))))
  front_bytes (ifc c f g) = (10 ∷ (sort_code_lem c ∷ [])) ++ (identifier_bytes w f)
  front_bytes (clause' x bs) = (11 ∷ []) ++ (identifier_bytes w x)
  front_bytes (print n v) = (12 ∷ (newline_code_lem n ∷ [])) ++ (identifier_bytes w v)
  front_bytes (exit v) = (13 ∷ []) ++ (identifier_bytes w v)

  front_length : (r : Record) → length (front_bytes r) ≡ fixed w (kind_of r)
  unfolding front_bytes
  front_length (definition i bs) = simp (field-length) (omega arith)
  front_length (substitute ps) = omega arith
  front_length (call i bs) = simp (field-length) (omega arith)
  front_length (let' v t g bs) = simp (length-append, type-length, field-length) (omega arith)
  front_length (switch v t n) = simp (length-append, type-length, field-length) (omega arith)
  front_length (create v t e n) = simp (length-append, type-length, field-length) (omega arith)
  front_length (invoke v g t bs) = simp (length-append, type-length, field-length) (omega arith)
  front_length (literal n v) = simp (field-length) (omega arith)
  front_length (op f o g v) = simp (length-append, field-length) (omega arith)
  front_length (ifc c f g) = simp (field-length) (omega arith)
  front_length (clause' x bs) = simp (field-length) (omega arith)
  front_length (print n v) = simp (field-length) (omega arith)
  front_length (exit v) = simp (field-length) (omega arith)

  front-tail : (r : Record) → record_bytes w r ≡ front_bytes r ++ tail_bytes w r
  unfolding front_bytes record_bytes
  front-tail (definition i bs) = simp (append_assoc)
  front-tail (substitute ps) = refl
  front-tail (call i bs) = simp (append_assoc)
  front-tail (let' v t g bs) = simp (append_assoc)
  front-tail (switch v t n) = simp (append_assoc)
  front-tail (create v t e n) = simp (append_assoc)
  front-tail (invoke v g t bs) =
      let i = identifier_bytes w v in
      let j = identifier_bytes w g in
      let y = type_bytes w t in
      ap (λ z. 7 ∷ z) (sym (append_assoc i (j ++ y) (list_bytes w bs) ∙ ap (λ z. i ++ z) (append_assoc j y (list_bytes w bs))))
  front-tail (literal n v) = sym (append-nil (front_bytes (literal n v)))
  front-tail (op f o g v) = sym (append-nil (front_bytes (op f o g v)))
  front-tail (ifc c f g) = simp (append_assoc)
  front-tail (clause' x bs) = simp (append_assoc)
  front-tail (print n v) = sym (append-nil (front_bytes (print n v)))
  front-tail (exit v) = sym (append-nil (front_bytes (exit v)))

  -- the tail begins where the table says
  pub tail_at : (r : Record) → drop (fixed w (kind_of r)) (record_bytes w r) ≡ tail_bytes w r
  tail_at r = ap (drop (fixed w (kind_of r))) (front-tail r) ∙ drop_at (front_bytes r) (tail_bytes w r) (fixed w (kind_of r)) (front_length r)

-- no record is shorter than its fixed part
pub fixed_le : (w : ℕ) (r : Record) → fixed w (kind_of r) ≤ length (record_bytes w r)
fixed_le w r = omega (arith, front_length w r, ap length (front-tail w r) ∙ length-append (front_bytes w r) (tail_bytes w r))

-- the kind is the first byte of a record
pub kind-first : (w : ℕ) (r : Record) → get_or (record_bytes w r) 0 0 ≡ kind_of r
unfolding record_bytes
kind-first w (definition i bs) = refl
kind-first w (substitute ps) = refl
kind-first w (call i bs) = refl
kind-first w (let' v t g bs) = refl
kind-first w (switch v t n) = refl
kind-first w (create v t e n) = refl
kind-first w (invoke v g t bs) = refl
kind-first w (literal n v) = refl
kind-first w (op f o g v) = refl
kind-first w (ifc c f g) = refl
kind-first w (clause' x bs) = refl
kind-first w (print n v) = refl
kind-first w (exit v) = refl

pub record_nonempty : (w : ℕ) (r : Record) → 0 < length (record_bytes w r)
unfolding record_bytes
record_nonempty w (definition i bs) = omega arith
record_nonempty w (substitute ps) = omega arith
record_nonempty w (call i bs) = omega arith
record_nonempty w (let' v t g bs) = omega arith
record_nonempty w (switch v t n) = omega arith
record_nonempty w (create v t e n) = omega arith
record_nonempty w (invoke v g t bs) = omega arith
record_nonempty w (literal n v) = omega arith
record_nonempty w (op f o g v) = omega arith
record_nonempty w (ifc c f g) = omega arith
record_nonempty w (clause' x bs) = omega arith
record_nonempty w (print n v) = omega arith
record_nonempty w (exit v) = omega arith

-- the last element of a list
abbrev pub last : List ℕ → ℕ
last l = get_or l (length l - 1) 0

last_one : (l : List ℕ) (n : ℕ) → last (l ++ (n ∷ [])) ≡ n
last_one l n =
    let k : length (l ++ (n ∷ [])) - 1 ≡ length l = omega (arith, length-append l (n ∷ [])) in
    rw k (get_or-append_seam l n [] 0)

-- the number of clauses is the last byte of a Switch or a Create, and 0 for any other
pub clauses-last : (w : ℕ) (r : Record) → clauses_of r ≡ cond (eqb (kind_of r) 5) (last (record_bytes w r)) (cond (eqb (kind_of r) 6) (last (record_bytes w r)) 0)
unfolding record_bytes
clauses-last w (definition i bs) = refl
clauses-last w (substitute ps) = refl
clauses-last w (call i bs) = refl
clauses-last w (let' v t g bs) = refl
clauses-last w (switch v t n) = sym (ap (λ z. last (5 ∷ z)) (sym (append_assoc (identifier_bytes w v) (type_bytes w t) (n ∷ []))) ∙ last_one (5 ∷ (identifier_bytes w v ++ type_bytes w t)) n)
clauses-last w (create v t e n) =
    let i = identifier_bytes w v in
    let y = type_bytes w t in
    let m = mark (list_bytes w) e in
    sym (ap (λ z. last (6 ∷ z)) (ap (λ z. i ++ z) (sym (append_assoc y m (n ∷ []))) ∙ sym (append_assoc i (y ++ m) (n ∷ []))) ∙ last_one (6 ∷ (i ++ (y ++ m))) n)
clauses-last w (invoke v g t bs) = refl
clauses-last w (literal n v) = refl
clauses-last w (op f o g v) = refl
clauses-last w (ifc c f g) = refl
clauses-last w (clause' x bs) = refl
clauses-last w (print n v) = refl
clauses-last w (exit v) = refl

pub kind-below : (r : Record) → kind_of r < kinds
kind-below (definition i bs) = omega arith
kind-below (substitute ps) = omega arith
kind-below (call i bs) = omega arith
kind-below (let' v t g bs) = omega arith
kind-below (switch v t n) = omega arith
kind-below (create v t e n) = omega arith
kind-below (invoke v g t bs) = omega arith
kind-below (literal n v) = omega arith
kind-below (op f o g v) = omega arith
kind-below (ifc c f g) = omega arith
kind-below (clause' x bs) = omega arith
kind-below (print n v) = omega arith
kind-below (exit v) = omega arith
