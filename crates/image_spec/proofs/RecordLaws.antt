-- Reading a record is exact for writing it, at every width of IDs: `record_exact`; of exactly its bytes: `decode_encode`, `encode_decode`.
-- Assumes nothing.
use Prim.Native.Nat.{ℕ, zero, suc, ◌+◌}
use mathlib.Core.List.{List, [], ◌∷◌, ◌++◌}
use mathlib.Core.Option.{some}
use mathlib.Core.Path.{◌≡◌, refl, ap, ◌∙◌}
use native.Mathlib.Nat.{suc-add, add-suc, add-zero, zero-add}
use lib.ListN.{get_or}
use Rattle.image_spec.specs.Parse.{refused, got, Parser, via}
use Rattle.image_spec.specs.Fields.{max_count}
use Rattle.image_spec.specs.Records.{Record, definition, substitute, call, let', switch, create, invoke, literal, op, ifc, clause', print, exit, record_bytes, RecordOk, contents, content, one_record, decode_record}
use Rattle.image_spec.proofs.ParseLaws.{Sound, none_read, one-read, Exact, following, both_exact, code_exact, counted_exact, marked_exact, whole-left, whole-right}
use Rattle.image_spec.proofs.FieldLaws.{operator_exact, sort_exact, newline_exact, integer_exact, identifier_exact, type_exact, list_exact, pair_exact}

module _ (w : ℕ) where
  -- reading what follows the kind byte k
  Arm : ℕ → Parser ℕ Record → Type 0
  Arm k p = (l : List ℕ) → Sound (record_bytes w) (RecordOk w) (k ∷ l) (p l)

  arm : {A : Type 0} {e : A → List ℕ} {P : A → Type 0} {p : Parser ℕ A} (k : ℕ) (into : A → Record) → Exact e P p
      → ((a : A) → P a → RecordOk w (into a) × (k ∷ e a ≡ record_bytes w (into a)))
      → Arm k (via into p)
  unfolding Arm
  arm k into x h = λ l. following _ (x.right l) (λ a m pa ea. one-read (h a pa).0 (ap (λ z. k ∷ z) ea ∙ ap (λ z. z ++ m) (h a pa).1))

  Arms : ℕ → List (Parser ℕ Record) → Type 0
  Arms k [] = Unit {0}
  Arms k (p ∷ ps) = Arm k p × Arms (suc k) ps

  arm_at : (ps : List (Parser ℕ Record)) (i k : ℕ) → Arms i ps → Arm (i + k) (get_or ps k (λ _. refused))
  unfolding Arms Arm
  arm_at [] i k h = λ l. none_read
  arm_at (p ∷ ps) i zero h = rw (add-zero) h.0
  arm_at (p ∷ ps) i (suc k) h = rw (add-suc, ← suc-add) (arm_at ps (suc i) k h.1)

  arms : Arms 0 (contents w)
  unfolding Arms Arm contents record_bytes RecordOk
  arms = (
    (λ l. none_read),
    (
      arm 1 _ (both_exact (identifier_exact w) (list_exact w)) (λ a o. (o, refl)),
      (
        arm 2 _ (counted_exact (pair_exact w) max_count) (λ a o. (o, refl)),
        (
          arm 3 _ (both_exact (identifier_exact w) (list_exact w)) (λ a o. (o, refl)),
          (
            arm 4 _ (both_exact (identifier_exact w) (both_exact (type_exact w) (both_exact (identifier_exact w) (list_exact w)))) (λ a o. (o, refl)),
            (
              arm 5 _ (both_exact (identifier_exact w) (both_exact (type_exact w) (code_exact max_count))) (λ a o. (o, refl)),
              (
                arm 6 _ (both_exact (identifier_exact w) (both_exact (type_exact w) (both_exact (marked_exact (list_exact w)) (code_exact max_count)))) (λ a o. (o, refl)),
                (
                  arm 7 _ (both_exact (identifier_exact w) (both_exact (identifier_exact w) (both_exact (type_exact w) (list_exact w)))) (λ a o. (o, refl)),
                  (
                    arm 8 _ (both_exact integer_exact (identifier_exact w)) (λ a o. (o, refl)),
                    (
                      arm 9 _ (both_exact (identifier_exact w) (both_exact operator_exact (both_exact (identifier_exact w) (identifier_exact w)))) (λ a o. (o, refl)),
                      (
                        arm 10 _ (both_exact sort_exact (both_exact (identifier_exact w) (marked_exact (identifier_exact w)))) (λ a o. (o, refl)),
                        (
                          arm 11 _ (both_exact (identifier_exact w) (list_exact w)) (λ a o. (o, refl)),
                          (
                            arm 12 _ (both_exact newline_exact (identifier_exact w)) (λ a o. (o, refl)),
                            (arm 13 _ (identifier_exact w) (λ a o. (o, refl)), tt),
                          ),
                        ),
                      ),
                    ),
                  ),
                ),
              ),
            ),
          ),
        ),
      ),
    ),
  )

  record_left : (r : Record) → RecordOk w r → (l : List ℕ) → one_record w (record_bytes w r ++ l) ≡ got r l
  unfolding one_record content contents record_bytes RecordOk
  record_left (definition i bs) o l = rw ((both_exact (identifier_exact w) (list_exact w)).left (i, bs) o l)
  record_left (substitute ps) o l = rw ((counted_exact (pair_exact w) max_count).left ps o l)
  record_left (call i bs) o l = rw ((both_exact (identifier_exact w) (list_exact w)).left (i, bs) o l)
  record_left (let' v t g bs) o l = rw ((both_exact (identifier_exact w) (both_exact (type_exact w) (both_exact (identifier_exact w) (list_exact w)))).left (v, (t, (g, bs))) o l)
  record_left (switch v t n) o l = rw ((both_exact (identifier_exact w) (both_exact (type_exact w) (code_exact max_count))).left (v, (t, n)) o l)
  record_left (create v t e n) o l = rw ((both_exact (identifier_exact w) (both_exact (type_exact w) (both_exact (marked_exact (list_exact w)) (code_exact max_count)))).left (v, (t, (e, n))) o l)
  record_left (invoke v g t bs) o l = rw ((both_exact (identifier_exact w) (both_exact (identifier_exact w) (both_exact (type_exact w) (list_exact w)))).left (v, (g, (t, bs))) o l)
  record_left (literal n v) o l = rw ((both_exact integer_exact (identifier_exact w)).left (n, v) o l)
  record_left (op f c s v) o l = rw ((both_exact (identifier_exact w) (both_exact operator_exact (both_exact (identifier_exact w) (identifier_exact w)))).left (f, (c, (s, v))) o l)
  record_left (ifc c f s) o l = rw ((both_exact sort_exact (both_exact (identifier_exact w) (marked_exact (identifier_exact w)))).left (c, (f, s)) o l)
  record_left (clause' i bs) o l = rw ((both_exact (identifier_exact w) (list_exact w)).left (i, bs) o l)
  record_left (print n v) o l = rw ((both_exact newline_exact (identifier_exact w)).left (n, v) o l)
  record_left (exit v) o l = rw ((identifier_exact w).left v o l)

  record_right : (l : List ℕ) → Sound (record_bytes w) (RecordOk w) l (one_record w l)
  unfolding one_record content Arm
  record_right [] = none_read
  record_right (k ∷ l) = rw zero-add at (arm_at (contents w) 0 k arms l)

  pub record_exact : Exact (record_bytes w) (RecordOk w) (one_record w)
  record_exact = record { left = record_left; right = record_right }

  -- a record within limits is read back from its bytes
  pub decode_encode : (r : Record) → RecordOk w r → decode_record w (record_bytes w r) ≡ some r
  unfolding decode_record
  decode_encode r o = whole-left record_exact r o

  -- and from no other bytes
  pub encode_decode : (l : List ℕ) (r : Record) → decode_record w l ≡ some r → RecordOk w r × (l ≡ record_bytes w r)
  unfolding decode_record
  encode_decode l r e = whole-right record_exact l r e
