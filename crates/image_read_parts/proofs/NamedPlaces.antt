-- Where a record's list stands, in the record and in bytes where the record stands: its count (`count_at`) and its bindings
-- (`binding-at-place`). It is within the layout's limits (`list-ok`), and what stands in bytes is inside them. Assumes nothing.
use Prim.Native.Nat.{ℕ, ◌+◌, ◌*◌, ◌≤◌, ◌<◌}
use mathlib.Core.List.{List}
use mathlib.Core.Path.{◌≡◌, refl, ap, sym, ◌∙◌, subst}
use native.Mathlib.Omega.{arith}
use lib.ListN.{length, get_or}
use Rattle.syntax.specs.Context.{empty_binding}
use Rattle.syntax.specs.declared.names.Identifier.{Identifier}
use Rattle.syntax.specs.declared.context.ContextBinding.{ContextBinding}
use Rattle.image_spec.specs.Fields.{identifier_bytes, binding_bytes, list_bytes, IdentifierOk, BindingOk, ListOk}
use Rattle.image_spec.specs.Records.{Record, definition, substitute, call, let', switch, create, invoke, literal, op, ifc, clause', print, exit, record_bytes, RecordOk}
use Rattle.image_spec.specs.Kinds.{kind_of, fixed, tail_bytes}
use Rattle.image_spec.proofs.FieldLaws.{identifier-length, binding-length}
use Rattle.image_read_parts.specs.Standing.{Stands}
use Rattle.image_read_parts.specs.Parts.{list_of, HasList}
use Rattle.image_read_parts.proofs.StandingLaws.{inner, stands-room, kind-stands}
use Rattle.image_read_parts.proofs.TailPlaces.{list_count, list-binding}
use Rattle.image_read_parts.proofs.PartPlaces.{byte_of}

module _ (w : ℕ) where
  pub tail-list : (r : Record) → HasList r → tail_bytes w r ≡ list_bytes w (list_of r)
  tail-list (definition x Γ) h = refl
  tail-list (substitute ps) h = absurd h
  tail-list (call x Γ) h = refl
  tail-list (let' v t g Γ) h = refl
  tail-list (switch v t n) h = absurd h
  tail-list (create v t e n) h = absurd h
  tail-list (invoke v g t Γ) h = refl
  tail-list (literal z v) h = absurd h
  tail-list (op f o s v) h = absurd h
  tail-list (ifc c f s) h = absurd h
  tail-list (clause' x Γ) h = refl
  tail-list (print n v) h = absurd h
  tail-list (exit v) h = absurd h

  pub list-ok : (r : Record) → RecordOk w r → HasList r → ListOk w (list_of r)
  unfolding RecordOk
  list-ok (definition x Γ) ok h = ok.1
  list-ok (substitute ps) ok h = absurd h
  list-ok (call x Γ) ok h = ok.1
  list-ok (let' v t g Γ) ok h = ok.1.1.1
  list-ok (switch v t n) ok h = absurd h
  list-ok (create v t e n) ok h = absurd h
  list-ok (invoke v g t Γ) ok h = ok.1.1.1
  list-ok (literal z v) ok h = absurd h
  list-ok (op f o s v) ok h = absurd h
  list-ok (ifc c f s) ok h = absurd h
  list-ok (clause' x Γ) ok h = ok.1
  list-ok (print n v) ok h = absurd h
  list-ok (exit v) ok h = absurd h

-- the same in bytes where a record stands
module _ (w : ℕ) (s : List ℕ) (o : ℕ) (r : Record) (st : Stands (record_bytes w) (RecordOk w) s o r) where
  -- a list whose record's fixed part ends at n
  pub count_at : HasList r → (n : ℕ) → n ≡ fixed w (get_or s o 0) → Stands byte_of (λ _. Unit {0}) s (o + n) (length (list_of r))
  count_at h n e =
      let k : n ≡ fixed w (kind_of r) = e ∙ ap (fixed w) (kind-stands w st).0 in
      subst (λ n. Stands byte_of (λ _. Unit {0}) s (o + n) (length (list_of r))) (sym k)
      (inner 1 refl (omega arith) st (list_count w r (list_of r) (tail-list w r h)))

  pub binding-at-place : HasList r → (n j : ℕ) → n ≡ fixed w (get_or s o 0) → j < length (list_of r)
      → Stands (binding_bytes w) (BindingOk w) s (o + (n + (1 + j * (6 + (w + w))))) (get_or (list_of r) j empty_binding)
  binding-at-place h n j e t =
      let k : n ≡ fixed w (kind_of r) = e ∙ ap (fixed w) (kind-stands w st).0 in
      subst (λ n. Stands (binding_bytes w) (BindingOk w) s (o + (n + (1 + j * (6 + (w + w))))) (get_or (list_of r) j empty_binding)) (sym k)
      (inner (6 + (w + w)) (binding-length w (get_or (list_of r) j empty_binding)) (omega arith) st
      (list-binding w r (list_of r) (tail-list w r h) j empty_binding t (list-ok w r st.fits h)))

pub identifier-room : (w : ℕ) (s : List ℕ) (at : ℕ) (x : Identifier) → Stands (identifier_bytes w) (IdentifierOk w) s at x → at + (2 + w) ≤ length s
identifier-room w s at x h =
    let n = identifier-length w x in
    let p : 0 < length (identifier_bytes w x) = omega arith in
    omega (arith, stands-room {e = identifier_bytes w} p h)

pub binding-room : (w : ℕ) (s : List ℕ) (at : ℕ) (b : ContextBinding) → Stands (binding_bytes w) (BindingOk w) s at b → at + (6 + (w + w)) ≤ length s
binding-room w s at b h =
    let n = binding-length w b in
    let p : 0 < length (binding_bytes w b) = omega arith in
    omega (arith, stands-room {e = binding_bytes w} p h)

pub byte-room : (s : List ℕ) (at b : ℕ) → Stands byte_of (λ _. Unit {0}) s at b → at + 1 ≤ length s
byte-room s at b h = let p : 0 < 1 = omega arith in omega (arith, stands-room {e = byte_of} p h)
