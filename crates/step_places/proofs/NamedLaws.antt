-- The name of a definition or clause stands behind its kind byte. Assumes nothing.
use Prim.Native.Nat.{ℕ, ◌+◌, ◌≤◌, ◌<◌}
use mathlib.Core.Path.{◌≡◌, refl, sym, ap, ◌∙◌}
use mathlib.Core.Bool.{false, ◌&&◌}
use mathlib.Core.List.{List}
use mathlib.Core.Logic.{inl, inr}
use native.Mathlib.Omega.{arith}
use borrow.Author.Tests.{eq-eqb, ne_eqb}
use lib.Dec.{eqb}
use lib.ListN.{length, drop, get_or}
use Rattle.syntax.specs.Names.{same_name}
use Rattle.image_spec.specs.Parse.{got, number, field}
use Rattle.image_spec.specs.Fields.{identifier_bytes, IdentifierOk}
use Rattle.image_spec.specs.Records.{record_bytes, RecordOk}
use Rattle.image_spec.specs.Kinds.{kind_of}
use Rattle.image_spec.proofs.ParseLaws.{number_exact}
use Rattle.image_spec.proofs.FieldLaws.{identifier-length}
use Rattle.image_directory.specs.declared.Frame.{Frame}
use Rattle.image_directory.specs.Slots.{Ready, records_in}
use Rattle.image_directory.proofs.Places.{seen, unseen}
use Rattle.image_shape.specs.Nodes.{IsHead}
use Rattle.image_read_parts.specs.Standing.{Stands}
use Rattle.image_read_parts.proofs.StandingLaws.{first_run, inner, stands-room, kind-stands}
use Rattle.image_read_nodes.specs.Nodes.{first_of, first_at}
use Rattle.image_read_parts.specs.Indexed.{record_at, At}
use Rattle.image_read_nodes.proofs.NodeLaws.{first-there}
use Rattle.step_places.specs.Searches.{name_of, is_named_lem}

-- past the last record there is none
pub named_past : (g : Frame) (s : List ℕ) (i kind f : ℕ) → Ready g s → g.count ≤ i → false ≡ is_named_lem kind (name_of f) (drop i (records_in g s))
named_past g s i kind f h n = sym (ap (is_named_lem kind (name_of f)) (unseen g s i h n))

-- the bytes of the record at index i begin at `start`
pub record StartsAt (g : Frame) (s : List ℕ) (i start : ℕ) : Type 0 where
  pub inside : i < g.count
  pub stands : Stands (record_bytes g.id) (RecordOk g.id) s start (record_at g s i)

pub kind-inside : {g : Frame} {s : List ℕ} {i start : ℕ} → StartsAt g s i start → start < length s
kind-inside {g = g} b = (kind-stands g.id b.stands).1

module _ {g : Frame} {s : List ℕ} {i start : ℕ} (kind f : ℕ) (ready : Ready g s) (begins : StartsAt g s i start) where
  is_kind : get_or s start 0 ≡ kind_of (record_at g s i)
  is_kind = (kind-stands g.id begins.stands).0

  named_is : is_named_lem kind (name_of f) (drop i (records_in g s)) ≡ eqb (kind_of (record_at g s i)) kind && same_name (name_of f) (first_of (record_at g s i)).name
  named_is = let v = seen g s i ready begins.inside in rw v.list refl

  pub named_other : (get_or s start 0 ≡ kind → ⊥) → false ≡ is_named_lem kind (name_of f) (drop i (records_in g s))
  named_other n = sym (named_is ∙ rw (ne_eqb (kind_of (record_at g s i)) kind (λ e. n (is_kind ∙ e))) refl)

  name-stands : IsHead kind → get_or s start 0 ≡ kind → Stands (identifier_bytes g.id) (IdentifierOk g.id) s (start + 1) (first_of (record_at g s i))
  name-stands k e =
      let a : At g s i kind = record { inside = begins.inside; kind = sym is_kind ∙ e } in
      inner (2 + g.id) (identifier-length g.id (first_of (record_at g s i))) (omega arith) begins.stands (first-there g s i kind ready a (other k) (place k))
    where
      other : IsHead kind → kind ≡ 2 → ⊥
      other (inl q) z = omega arith
      other (inr q) z = omega arith

      place : IsHead kind → 1 ≡ first_at kind
      place (inl q) = rw q refl
      place (inr q) = rw q refl

  pub name-inside : IsHead kind → get_or s start 0 ≡ kind → start + 1 + 2 ≤ length s
  name-inside k e =
      let n = identifier-length g.id (first_of (record_at g s i)) in
      omega (arith, n, stands-room {e = identifier_bytes g.id} (omega (arith, n)) (name-stands k e))

  pub named-read : {v : ℕ} {m : List ℕ} → IsHead kind → get_or s start 0 ≡ kind → number 2 (drop (start + 1) s) ≡ got v m → eqb f v ≡ is_named_lem kind (name_of f) (drop i (records_in g s))
  named-read {v} {m} k e q =
      let x = first_of (record_at g s i) in
      let o = name-stands k e in
      let b = first_run s o.others (start + 1) (field 2 x.name.0) (field g.id x.id.0) o.bytes in
      let r = ap (number 2) b ∙ (number_exact 2).left x.name.0 o.fits.0 _ in
      let z : v ≡ x.name.0 = cc (q, r) in
      sym (named_is ∙ rw (eq-eqb (kind_of (record_at g s i)) kind (sym is_kind ∙ e), ← z) refl)
