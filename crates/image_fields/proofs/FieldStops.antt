-- Where the parsers of a record's parts stop, each by its own parts. Assumes nothing.
use Rattle.std.specs.Prelude.{Some, None, option_and_then}
use Prim.Native.Nat.{ℕ, zero, suc, ◌+◌, ◌≤◌, ◌<◌}
use mathlib.Core.List.{List, ◌∷◌}
use mathlib.Core.Path.{◌≡◌, refl, ap, ◌∙◌}
use native.Mathlib.Omega.{arith}
use borrow.Author.Tests.{le-leb}
use lib.ListN.{length, drop, get_or}
use Rattle.image_spec.specs.Parse.{refused, got, both, code, number, zeros, one_of, counted}
use Rattle.image_spec.specs.Fields.{max_count, integer, identifier, type, binding, pair, list}
use Rattle.syntax.specs.Codes.{chiralities}
use Rattle.image_spec.proofs.ParseLaws.{number_exact}
use Rattle.image_spec.proofs.FieldLaws.{chirality_exact, identifier_exact, binding_exact}
use Rattle.image_fields.specs.Found.{stop}
use Rattle.image_fields.proofs.Stops.{stop-number, code-good, zero_pairs, stop-via, stop-both, stop-head, stop_bad, stop-past, stop-one_of, found-via, onward, alike}

pub stop-identifier : (w : ℕ) (s : List ℕ) (at : ℕ) → stop (identifier w) s at ≡ option_and_then (stop (number w) s) (stop (number 2) s at)
unfolding identifier
stop-identifier w s at = stop-via _ (both (number 2) (number w)) s at ∙ stop-both (number w) (number_exact 2) s at

pub stop-binding : (w : ℕ) (s : List ℕ) (at : ℕ)
    → stop (binding w) s at ≡ option_and_then (stop (type w) s) (option_and_then (stop (code 2) s) (stop (identifier w) s at))
unfolding binding
stop-binding w s at =
    stop-via _ (both (identifier w) (both (one_of chiralities) (type w))) s at
    ∙ (stop-both (both (one_of chiralities) (type w)) (identifier_exact w) s at
    ∙ (onward _ _ _ (stop-both (type w) chirality_exact s) _ ∙ ap (option_and_then (stop (type w) s)) (alike _ _ (λ c. stop-one_of chiralities 2 s c refl) _)))

pub type_none : (w : ℕ) (s : List ℕ) (at : ℕ) → length s ≤ at → stop (type w) s at ≡ None
unfolding type
type_none w s at h = stop-past (type w) s at h refl

pub type_i64 : (w : ℕ) (s : List ℕ) (at : ℕ) → at < length s → get_or s at 0 ≡ 0 → stop (type w) s at ≡ stop (zeros (2 + w)) s (at + 1)
unfolding type
type_i64 w s at h b = stop-head (type w) (zeros (2 + w)) s at h (λ l. rw b (found-via _ (length s) (zeros (2 + w) l)))

pub type-named : (w : ℕ) (s : List ℕ) (at : ℕ) → at < length s → get_or s at 0 ≡ 1 → stop (type w) s at ≡ stop (identifier w) s (at + 1)
unfolding type
type-named w s at h b = stop-head (type w) (identifier w) s at h (λ l. rw b (found-via _ (length s) (identifier w l)))

pub type_bad : (w : ℕ) (s : List ℕ) (at : ℕ) → at < length s → (get_or s at 0 ≡ 0 → ⊥) → (get_or s at 0 ≡ 1 → ⊥) → stop (type w) s at ≡ None
unfolding type
type_bad w s at h z o = stop_bad (type w) s at h (λ l. other (get_or s at 0) l z o)
  where
    other : (b : ℕ) (l : List ℕ) → (b ≡ 0 → ⊥) → (b ≡ 1 → ⊥) → type w (b ∷ l) ≡ refused
    other zero l z o = absurd (z refl)
    other (suc zero) l z o = absurd (o refl)
    other (suc (suc b)) l z o = refl

-- ---- where IDs have two bytes

module _ (s : List ℕ) (bytes : (i : ℕ) → get_or s i 0 ≤ 255) where
  short-identifier : (at : ℕ) → at + 4 ≤ length s → stop (identifier 2) s at ≡ Some (at + 4)
  short-identifier at h =
      let i : at + 2 ≤ length s = omega arith in
      let k : at + 2 + 2 ≡ at + 4 = omega arith in
      stop-identifier 2 s at ∙ rw (stop-number s bytes 2 at, le-leb _ _ i, stop-number s bytes 2 (at + 2), k, le-leb _ _ h)

  short-typed : (at : ℕ) → at + 10 ≤ length s → get_or s (at + 4) 0 ≤ 2 → stop (type 2) s (at + 5) ≡ Some (at + 10) → stop (binding 2) s at ≡ Some (at + 10)
  short-typed at h c t =
      let k : at + 4 + 1 ≡ at + 5 = omega arith in
      stop-binding 2 s at ∙ rw (short-identifier at (omega arith), code-good 2 s (at + 4) (omega arith) c, k, t)

  pub short-named : (at : ℕ) → at + 10 ≤ length s → get_or s (at + 4) 0 ≤ 2 → get_or s (at + 5) 0 ≡ 1 → stop (binding 2) s at ≡ Some (at + 10)
  short-named at h c t =
      let k : at + 5 + 1 + 4 ≡ at + 10 = omega arith in
      short-typed at h c (type-named 2 s (at + 5) (omega arith) t ∙ (short-identifier (at + 5 + 1) (omega arith) ∙ ap Some k))

  pub short_i64 : (at : ℕ) → at + 10 ≤ length s → get_or s (at + 4) 0 ≤ 2 → get_or s (at + 5) 0 ≡ 0 → number 2 (drop (at + 6) s) ≡ got 0 (drop (at + 6 + 2) s)
      → number 2 (drop (at + 8) s) ≡ got 0 (drop (at + 8 + 2) s) → stop (binding 2) s at ≡ Some (at + 10)
  short_i64 at h c t p q =
      let i : at + 5 + 1 ≡ at + 6 = omega arith in
      let j : at + 6 + 2 ≡ at + 8 = omega arith in
      let k : at + 6 + 2 + 2 ≡ at + 10 = omega arith in
      short-typed at h c (type_i64 2 s (at + 5) (omega arith) t ∙ rw i (zero_pairs s (at + 6) (omega arith) p (rw j q) ∙ ap Some k))

pub stop-list : (w : ℕ) → list w ≡ counted max_count (binding w)
unfolding list
stop-list w = refl

pub stop-pair : (w : ℕ) (s : List ℕ) (at : ℕ) → stop (pair w) s at ≡ option_and_then (stop (identifier w) s) (stop (binding w) s at)
unfolding pair
stop-pair w s at = stop-both (identifier w) (binding_exact w) s at

pub stop-integer : (s : List ℕ) (at : ℕ) → stop integer s at ≡ stop (number 8) s at
unfolding integer
stop-integer s at = stop-via _ (number 8) s at
