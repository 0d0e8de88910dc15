-- Where the tag of a record stands in its bytes. Assumes nothing.
use Prim.Native.Nat.{ℕ}
use mathlib.Core.Path.{◌≡◌, sym, ap, ◌∙◌, subst}
use mathlib.Core.Bool.{true, false≢true}
use mathlib.Core.List.{List}
use Rattle.image_spec.specs.Fields.{identifier_bytes, IdentifierOk}
use Rattle.image_spec.specs.Records.{Record, definition, substitute, call, let', switch, create, invoke, literal, op, ifc, clause', print, exit, record_bytes, RecordOk}
use Rattle.image_spec.specs.Kinds.{kind_of}
use Rattle.image_directory.specs.Slots.{Ready}
use Rattle.image_directory.specs.declared.Frame.{Frame}
use Rattle.image_read_parts.specs.Standing.{Stands}
use Rattle.image_read_parts.proofs.PartPlaces.{let_tag, invoke-tag}
use Rattle.image_read_parts.specs.Indexed.{record_at, At}
use Rattle.image_read_nodes.proofs.NodeLaws.{record_ok}
use Rattle.step_tags.specs.Tags.{has_tag, tag_at, tag_in}

tag-stands : (w : ℕ) (r : Record) → has_tag (kind_of r) ≡ true → RecordOk w r → Stands (identifier_bytes w) (IdentifierOk w) (record_bytes w r) (tag_at w (kind_of r)) (tag_in r)
tag-stands w (definition x Γ) k ok = absurd (false≢true k)
tag-stands w (substitute ps) k ok = absurd (false≢true k)
tag-stands w (call x Γ) k ok = absurd (false≢true k)
tag-stands w (let' v t g Γ) k ok = let_tag w v t g Γ ok
tag-stands w (switch v t n) k ok = absurd (false≢true k)
tag-stands w (create v t e n) k ok = absurd (false≢true k)
tag-stands w (invoke v g t Γ) k ok = invoke-tag w v g t Γ ok
tag-stands w (literal z v) k ok = absurd (false≢true k)
tag-stands w (op f o s v) k ok = absurd (false≢true k)
tag-stands w (ifc c f s) k ok = absurd (false≢true k)
tag-stands w (clause' x Γ) k ok = absurd (false≢true k)
tag-stands w (print n v) k ok = absurd (false≢true k)
tag-stands w (exit v) k ok = absurd (false≢true k)

-- the same, of the record at an index
pub tag-there : (g : Frame) (s : List ℕ) (i k : ℕ) {p : ℕ} → Ready g s → At g s i k → has_tag k ≡ true → p ≡ tag_at g.id k
    → Stands (identifier_bytes g.id) (IdentifierOk g.id) (record_bytes g.id (record_at g s i)) p (tag_in (record_at g s i))
tag-there g s i k ready a h e =
    let r = record_at g s i in
    subst (λ (z : ℕ). Stands (identifier_bytes g.id) (IdentifierOk g.id) (record_bytes g.id r) z (tag_in r)) (ap (tag_at g.id) a.kind ∙ sym e)
    (tag-stands g.id r (ap has_tag a.kind ∙ h) (record_ok g s i k ready a))
