-- Where the parts of a record with a list stand in bytes where the record stands: a Let, an Invoke, and what is an identifier and
-- a list. Assumes nothing.
use Prim.Native.Nat.{ℕ, ◌+◌, ◌≤◌, ◌<◌}
use mathlib.Core.Path.{◌≡◌, refl, sym, ap, ◌∙◌, subst}
use mathlib.Core.Bool.{true, false≢true}
use mathlib.Core.List.{List}
use native.Mathlib.Omega.{arith}
use borrow.Author.Tests.{leb-true}
use lib.Dec.{leb}
use lib.ListN.{length}
use Rattle.syntax.specs.Arrays.{Holds}
use Rattle.syntax.specs.Context.{Context}
use Rattle.syntax.specs.declared.names.Identifier.{Identifier}
use Rattle.syntax.specs.declared.types.Ty.{Ty}
use Rattle.syntax.specs.declared.context.TypingContext.{TypingContext}
use Rattle.image_spec.specs.Fields.{identifier_bytes, type_bytes, list_bytes, IdentifierOk, TypeOk, ListOk}
use Rattle.image_spec.specs.Records.{Record, let', invoke, record_bytes, RecordOk}
use Rattle.image_spec.specs.Kinds.{kind_of, fixed, tail_bytes}
use Rattle.image_directory.specs.Slots.{Ready}
use Rattle.image_directory.specs.declared.Frame.{Frame}
use Rattle.scope_spec.specs.Flat.{small_record_lem}
use Rattle.image_read_parts.specs.Standing.{Stands}
use Rattle.image_read_parts.specs.Parts.{list_of}
use Rattle.image_read_parts.proofs.PartPlaces.{let_var, let_ty, let_tag, invoke-var, invoke-tag, invoke-ty}
use Rattle.image_read_parts.proofs.NamedPlaces.{list-ok}
use Rattle.image_read_nodes.specs.Nodes.{has_list, first_of, first_at}
use Rattle.image_read_parts.specs.Indexed.{record_at, At}
use Rattle.image_read_nodes.proofs.NodeLaws.{first-stands}
use Rattle.image_read_nodes.proofs.ListLaws.{list-run, list-there}
use Rattle.pass_records.specs.Unpacked.{ListAt, Unpacked, NamedAt}
use Rattle.pass_records.proofs.FieldPlaces.{identifier_in, type_in, tail_in}
use Rattle.pass_records.proofs.MadeLaws.{parts_of, made, made_of}

-- a list of at most 32 is one that an array has room for
pub list_at : {w : ℕ} {s : List ℕ} {at : ℕ} {Γ : Context} → w ≤ 4 → Stands (list_bytes w) (ListOk w) s at Γ → leb (length Γ) 32 ≡ true → ListAt w s at
list_at {Γ = Γ} n h e = record { width = n; list = Γ; stands = h; small = omega (arith, leb-true (length Γ) 32 e) }

-- the record, where the struct's list is known
pub unpacked : {r m : Record} {c : TypingContext} {Γ : Context} → Holds c Γ → r ≡ m → Unpacked r m c
unpacked h e = record { is = e; count = h.count ∙ ap length (sym h.list) }

-- ── Let and Invoke: a var, a type and a tag, each at its place, and a list ──

module _ (w : ℕ) (s : List ℕ) (o : ℕ) (r : Record) where
  pub record TaggedThere (make : Identifier → Ty → Identifier → Context → Record) (ty-place tag-place : ℕ) : Type 0 where
    pub var : Identifier
    pub ty : Ty
    pub tag : Identifier
    pub args : Context
    pub is : r ≡ make var ty tag args
    pub var-at : Stands (identifier_bytes w) (IdentifierOk w) s (o + 1) var
    pub ty_at : Stands (type_bytes w) (TypeOk w) s (o + ty-place) ty
    pub tag_at : Stands (identifier_bytes w) (IdentifierOk w) s (o + tag-place) tag
    pub args_at : Stands (list_bytes w) (ListOk w) s (o + (8 + (w + (w + w)))) args
    pub inside : o + (8 + (w + (w + w))) < length s

  tagged : (make : Identifier → Ty → Identifier → Context → Record) (ty-place tag-place : ℕ) (v : Identifier) (t : Ty) (g : Identifier) (Γ : Context) → r ≡ make v t g Γ
      → Stands (record_bytes w) (RecordOk w) s o (make v t g Γ) → tail_bytes w (make v t g Γ) ≡ list_bytes w Γ → ListOk w Γ → fixed w (kind_of (make v t g Γ)) ≡ 8 + (w + (w + w))
      → Stands (identifier_bytes w) (IdentifierOk w) (record_bytes w (make v t g Γ)) 1 v → Stands (type_bytes w) (TypeOk w) (record_bytes w (make v t g Γ)) ty-place t
      → Stands (identifier_bytes w) (IdentifierOk w) (record_bytes w (make v t g Γ)) tag-place g → TaggedThere make ty-place tag-place
  tagged make ty-place tag-place v t g Γ e st tail ok front x y z =
      let l = tail_in (list_bytes w) (ListOk w) Γ w (8 + (w + (w + w))) (make v t g Γ) tail ok front st in
      record { var = v; ty = t; tag = g; args = Γ; is = e; var-at = identifier_in w st x; ty_at = type_in w st y; tag_at = identifier_in w st z; args_at = l; inside = (list-run w l).inside }

  pub let_there : kind_of r ≡ 4 → Stands (record_bytes w) (RecordOk w) s o r → TaggedThere let' (3 + w) (6 + (w + w))
  let_there k h = go (first_of r) (parts_of r).ty (parts_of r).tag (list_of r) (made_of r 4 k)
    where
      go : (v : Identifier) (t : Ty) (g : Identifier) (Γ : Context) → r ≡ let' v t g Γ → TaggedThere let' (3 + w) (6 + (w + w))
      go v t g Γ e =
          let st : Stands (record_bytes w) (RecordOk w) s o (let' v t g Γ) = subst (Stands (record_bytes w) (RecordOk w) s o) e h in
          tagged let' (3 + w) (6 + (w + w)) v t g Γ e st refl (list-ok w (let' v t g Γ) st.fits tt) (omega arith)
          (let_var w v t g Γ st.fits) (let_ty w v t g Γ st.fits) (let_tag w v t g Γ st.fits)

  pub invoke-there : kind_of r ≡ 7 → Stands (record_bytes w) (RecordOk w) s o r → TaggedThere (λ v t g Γ. invoke v g t Γ) (5 + (w + w)) (3 + w)
  invoke-there k h = go (first_of r) (parts_of r).tag (parts_of r).ty (list_of r) (made_of r 7 k)
    where
      go : (v g : Identifier) (t : Ty) (Γ : Context) → r ≡ invoke v g t Γ → TaggedThere (λ v t g Γ. invoke v g t Γ) (5 + (w + w)) (3 + w)
      go v g t Γ e =
          let st : Stands (record_bytes w) (RecordOk w) s o (invoke v g t Γ) = subst (Stands (record_bytes w) (RecordOk w) s o) e h in
          tagged (λ v t g Γ. invoke v g t Γ) (5 + (w + w)) (3 + w) v t g Γ e st refl (list-ok w (invoke v g t Γ) st.fits tt) (omega arith)
          (invoke-var w v g t Γ st.fits) (invoke-ty w v g t Γ st.fits) (invoke-tag w v g t Γ st.fits)

-- ── records of an identifier and a list ──

pub at-made : {g : Frame} {s : List ℕ} {i : ℕ} (k : ℕ) → At g s i k → record_at g s i ≡ made (record_at g s i) (parts_of (record_at g s i)) k
at-made {g} {s} {i} k a = made_of (record_at g s i) k a.kind

pub named-at : {g : Frame} {s : List ℕ} {i : ℕ} (k : ℕ) → At g s i k → first_at k ≡ 1 → has_list k ≡ true → fixed g.id k ≡ 3 + g.id
    → small_record_lem (made (record_at g s i) (parts_of (record_at g s i)) k) ≡ leb (length (list_of (record_at g s i))) 32 → small_record_lem (record_at g s i) ≡ true → NamedAt g s i
named-at {g} {s} {i} k a f l n m e = record {
  inside = a.inside;
  first = ap first_at a.kind ∙ f;
  list = ap has_list a.kind ∙ l;
  front = ap (fixed g.id) a.kind ∙ n;
  small = omega (arith, leb-true (length (list_of (record_at g s i))) 32 (sym (ap small_record_lem (at-made k a) ∙ m) ∙ e));
}

module _ {g : Frame} {s : List ℕ} {i o : ℕ} (a : NamedAt g s i) (h : Stands (record_bytes g.id) (RecordOk g.id) s o (record_at g s i)) where
  pub named-first : Stands (identifier_bytes g.id) (IdentifierOk g.id) s (o + 1) (first_of (record_at g s i))
  named-first =
      identifier_in g.id h
      (subst (λ (z : ℕ). Stands (identifier_bytes g.id) (IdentifierOk g.id) (record_bytes g.id (record_at g s i)) z (first_of (record_at g s i))) a.first
      (first-stands g.id (record_at g s i) (λ q. false≢true (sym (ap has_list q) ∙ a.list)) h.fits))

  pub named-list : Ready g s → Stands (list_bytes g.id) (ListOk g.id) s (o + (3 + g.id)) (list_of (record_at g s i))
  named-list ready =
      subst (λ (z : ℕ). Stands (list_bytes g.id) (ListOk g.id) s (o + z) (list_of (record_at g s i))) a.front
      (list-there g s i (kind_of (record_at g s i)) o ready (record { inside = a.inside; kind = refl }) a.list h)
