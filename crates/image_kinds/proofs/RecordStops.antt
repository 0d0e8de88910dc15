-- Where the parser of a record stops, by kind, and when a record is formed. Assumes nothing.
use Rattle.std.specs.Prelude.{Some, None, option_and_then}
use Rattle.std.specs.Option.{option_eq}
use Prim.Native.Nat.{ℕ, zero, suc, ◌-◌, ◌≤◌, ◌<◌}
use mathlib.Core.List.{List, [], ◌∷◌}
use mathlib.Core.Bool.{false}
use mathlib.Core.Path.{◌≡◌, refl, ap, sym, ◌∙◌}
use native.Mathlib.Omega.{arith}
use borrow.Author.Tests.{le-leb, eq-eqb, ne_eqb}
use lib.Dec.{eqb}
use lib.ListN.{length, get_or, get_or-eq_default}
use Rattle.image_spec.specs.Parse.{Parsed, refused, got, Parser, both, code, number, one_of, counted, marked, whole}
use Rattle.image_spec.specs.Fields.{max_count, newlines, integer, identifier, type, pair, list}
use Rattle.syntax.specs.Codes.{operators, sorts}
use Rattle.image_spec.specs.Records.{Record, contents, content, one_record, decode_record}
use Rattle.image_spec.specs.Kinds.{kinds, fixed}
use Rattle.image_spec.specs.Image.{is_some}
use Rattle.image_spec.proofs.ParseLaws.{marked_exact, whole_case}
use Rattle.image_spec.proofs.FieldLaws.{operator_exact, sort_exact, newline_exact, integer_exact, identifier_exact, type_exact, list_exact}
use Rattle.image_spec.proofs.RecordLaws.{record_exact}
use Rattle.image_spec.proofs.KindLaws.{kind-first, fixed_le}
use Rattle.image_fields.specs.Found.{found_in, stop}
use Rattle.image_fields.proofs.Stops.{stop-via, stop-both, stop-one_of, never-stops, onward, alike}
use Rattle.image_fields.proofs.FieldStops.{stop-integer}

-- what follows the kind byte, by kind
module _ (w : ℕ) (s : List ℕ) (at : ℕ) where
  id_then : {B : Type 0} (q : Parser ℕ B) (a : ℕ) → stop (both (identifier w) q) s a ≡ option_and_then (stop q s) (stop (identifier w) s a)
  id_then q = stop-both q (identifier_exact w) s

  ty_then : {B : Type 0} (q : Parser ℕ B) (a : ℕ) → stop (both (type w) q) s a ≡ option_and_then (stop q s) (stop (type w) s a)
  ty_then q = stop-both q (type_exact w) s

  pub stop1 : stop (content w 1) s at ≡ option_and_then (stop (list w) s) (stop (identifier w) s at)
  unfolding content contents
  stop1 = stop-via _ (both (identifier w) (list w)) s at ∙ id_then (list w) at

  pub stop2 : stop (content w 2) s at ≡ stop (counted max_count (pair w)) s at
  unfolding content contents
  stop2 = stop-via _ (counted max_count (pair w)) s at

  pub stop3 : stop (content w 3) s at ≡ option_and_then (stop (list w) s) (stop (identifier w) s at)
  unfolding content contents
  stop3 = stop-via _ (both (identifier w) (list w)) s at ∙ id_then (list w) at

  pub stop4 : stop (content w 4) s at
      ≡ option_and_then (stop (list w) s) (option_and_then (stop (identifier w) s) (option_and_then (stop (type w) s) (stop (identifier w) s at)))
  unfolding content contents
  stop4 = stop-via _ (both (identifier w) (both (type w) (both (identifier w) (list w)))) s at
      ∙ (id_then _ at ∙ (onward _ _ _ (ty_then _) _ ∙ onward _ _ _ (id_then (list w)) _))

  pub stop5 : stop (content w 5) s at ≡ option_and_then (stop (code max_count) s) (option_and_then (stop (type w) s) (stop (identifier w) s at))
  unfolding content contents
  stop5 = stop-via _ (both (identifier w) (both (type w) (code max_count))) s at ∙ (id_then _ at ∙ onward _ _ _ (ty_then (code max_count)) _)

  pub stop6 : stop (content w 6) s at
      ≡ option_and_then (stop (code max_count) s) (option_and_then (stop (marked (list w)) s) (option_and_then (stop (type w) s) (stop (identifier w) s at)))
  unfolding content contents
  stop6 = stop-via _ (both (identifier w) (both (type w) (both (marked (list w)) (code max_count)))) s at
      ∙ (id_then _ at ∙ (onward _ _ _ (ty_then _) _ ∙ onward _ _ _ (stop-both (code max_count) (marked_exact (list_exact w)) s) _))

  pub stop7 : stop (content w 7) s at
      ≡ option_and_then (stop (list w) s) (option_and_then (stop (type w) s) (option_and_then (stop (identifier w) s) (stop (identifier w) s at)))
  unfolding content contents
  stop7 = stop-via _ (both (identifier w) (both (identifier w) (both (type w) (list w)))) s at
      ∙ (id_then _ at ∙ (onward _ _ _ (id_then _) _ ∙ onward _ _ _ (ty_then (list w)) _))

  pub stop8 : stop (content w 8) s at ≡ option_and_then (stop (identifier w) s) (stop (number 8) s at)
  unfolding content contents
  stop8 = stop-via _ (both integer (identifier w)) s at
      ∙ (stop-both (identifier w) integer_exact s at ∙ ap (option_and_then (stop (identifier w) s)) (stop-integer s at))

  pub stop9 : stop (content w 9) s at
      ≡ option_and_then (stop (identifier w) s) (option_and_then (stop (identifier w) s) (option_and_then (stop (code 4) s) (stop (identifier w) s at)))
  unfolding content contents
  stop9 = stop-via _ (both (identifier w) (both (one_of operators) (both (identifier w) (identifier w)))) s at
      ∙ (id_then _ at ∙ (onward _ _ _ (stop-both _ operator_exact s) _ ∙ (onward _ _ _ (id_then (identifier w)) _
      ∙ ap (λ o. option_and_then (stop (identifier w) s) (option_and_then (stop (identifier w) s) o)) (alike _ _ (λ a. stop-one_of operators 4 s a refl) _))))

  pub stop10 : stop (content w 10) s at
      ≡ option_and_then (stop (marked (identifier w)) s) (option_and_then (stop (identifier w) s) (stop (code 5) s at))
  unfolding content contents
  stop10 = stop-via _ (both (one_of sorts) (both (identifier w) (marked (identifier w)))) s at
      ∙ (stop-both _ sort_exact s at ∙ (onward _ _ _ (id_then (marked (identifier w))) _
      ∙ ap (λ o. option_and_then (stop (marked (identifier w)) s) (option_and_then (stop (identifier w) s) o)) (stop-one_of sorts 5 s at refl)))

  pub stop11 : stop (content w 11) s at ≡ option_and_then (stop (list w) s) (stop (identifier w) s at)
  unfolding content contents
  stop11 = stop-via _ (both (identifier w) (list w)) s at ∙ id_then (list w) at

  pub stop12 : stop (content w 12) s at ≡ option_and_then (stop (identifier w) s) (stop (code 1) s at)
  unfolding content contents
  stop12 = stop-via _ (both (one_of newlines) (identifier w)) s at
      ∙ (stop-both (identifier w) newline_exact s at ∙ ap (option_and_then (stop (identifier w) s)) (stop-one_of newlines 1 s at refl))

  pub stop13 : stop (content w 13) s at ≡ stop (identifier w) s at
  unfolding content contents
  stop13 = stop-via _ (identifier w) s at

pub ruleset record_stops = (stop1, stop2, stop3, stop4, stop5, stop6, stop7, stop8, stop9, stop10, stop11, stop12, stop13)

-- past one more
pub up : (a : ℕ) {b : ℕ} → a ≤ b → (b ≡ a → ⊥) → suc a ≤ b
up a h n = omega arith

-- behind a byte that is no kind
pub content-none : (w k : ℕ) (s : List ℕ) (at : ℕ) → (0 < k → kinds ≤ k) → stop (content w k) s at ≡ None
unfolding content contents
content-none w zero s at h = never-stops ℕ Record s at
content-none w (suc k) s at h =
    let n : kinds ≤ suc k = h (omega arith) in
    rw (get_or-eq_default (contents w) (λ _. refused) n) (never-stops ℕ Record s at)

-- .. that is none of the thirteen
pub content-other : (w k : ℕ) (s : List ℕ) (at : ℕ) → (k ≡ 1 → ⊥) → (k ≡ 2 → ⊥) → (k ≡ 3 → ⊥) → (k ≡ 4 → ⊥) → (k ≡ 5 → ⊥) → (k ≡ 6 → ⊥)
    → (k ≡ 7 → ⊥) → (k ≡ 8 → ⊥) → (k ≡ 9 → ⊥) → (k ≡ 10 → ⊥) → (k ≡ 11 → ⊥) → (k ≡ 12 → ⊥) → (k ≡ 13 → ⊥) → stop (content w k) s at ≡ None
content-other w k s at n1 n2 n3 n4 n5 n6 n7 n8 n9 n10 n11 n12 n13 =
    content-none w k s at
    (λ h. up 13 (up 12 (up 11 (up 10 (up 9 (up 8 (up 7 (up 6 (up 5 (up 4 (up 3 (up 2 (up 1 h n1) n2) n3) n4) n5) n6) n7) n8) n9) n10) n11) n12) n13)

pub formed : (w : ℕ) (s : List ℕ) → 0 < length s → is_some (decode_record w s) ≡ option_eq eqb (stop (content w (get_or s 0 0)) s 1) (Some (length s))
unfolding decode_record one_record stop
formed w [] h = absurd (omega arith)
formed w (k ∷ l) h =
    let i : 1 ≤ length (k ∷ l) = omega arith in
    rw (le-leb _ _ i) (go (content w k l))
  where
    go : (r : Parsed ℕ Record) → is_some (whole r) ≡ option_eq eqb (found_in (suc (length l)) r) (Some (suc (length l)))
    go refused = refl
    go (got a []) = let e : suc (length l) - 0 ≡ suc (length l) = omega arith in sym (eq-eqb _ _ e)
    go (got a (b ∷ m)) = let e : suc (length l) - suc (length m) ≡ suc (length l) → ⊥ = omega arith in sym (ne_eqb _ _ e)

-- no kind
pub formed-other : (w : ℕ) (s : List ℕ) → (0 < get_or s 0 0 → kinds ≤ get_or s 0 0) → is_some (decode_record w s) ≡ false
unfolding decode_record one_record content contents
formed-other w [] h = refl
formed-other w (zero ∷ l) h = refl
formed-other w (suc k ∷ l) h =
    let n : kinds ≤ suc k = h (omega arith) in
    rw (get_or-eq_default (contents w) (λ _. refused) n)

-- fewer bytes than the fixed part of the kind
pub formed-short : (w : ℕ) (s : List ℕ) → length s < fixed w (get_or s 0 0) → is_some (decode_record w s) ≡ false
unfolding decode_record
formed-short w s h =
    whole_case (λ o. is_some o ≡ false) ((record_exact w).right s) refl
    (λ r ok e. absurd (omega (arith, h, fixed_le w r, ap length e, ap (λ l. fixed w (get_or l 0 0)) e ∙ ap (fixed w) (kind-first w r))))

pub formed-empty : (w : ℕ) (s : List ℕ) → length s ≡ 0 → is_some (decode_record w s) ≡ false
unfolding decode_record one_record
formed-empty w [] h = refl
formed-empty w (k ∷ l) h = absurd (omega arith)
