-- Where the identifiers of a record stand in its bytes, and what a record uses and binds, by its kind. Assumes nothing.
use Prim.Native.Nat.{ℕ, ◌+◌}
use mathlib.Core.Path.{◌≡◌, refl, sym, ap, ◌∙◌, subst}
use mathlib.Core.Bool.{cond}
use mathlib.Core.List.{List, [], ◌∷◌, ◌++◌, append-nil, append_assoc}
use mathlib.Core.Option.{none, some}
use native.Mathlib.Omega.{arith}
use lib.Dec.{eqb}
use lib.ListN.{drop, get_or, length-append}
use lib.Seq.{drop-drop, drop_at}
use Rattle.syntax.specs.Context.{ids}
use Rattle.syntax.specs.declared.names.Identifier.{Identifier}
use Rattle.model.specs.FreeVars.{optional_id}
use Rattle.image_spec.specs.Fields.{operator_code_lem, identifier_bytes, IdentifierOk}
use Rattle.image_spec.specs.Records.{Record, definition, substitute, call, let', switch, create, invoke, literal, op, ifc, clause', print, exit, record_bytes, RecordOk}
use Rattle.image_spec.specs.Kinds.{kind_of, fixed, tail_bytes}
use Rattle.image_spec.proofs.FieldLaws.{field-length, identifier-length}
use Rattle.image_spec.proofs.KindLaws.{tail_at}
use Rattle.image_directory.specs.Slots.{Ready}
use Rattle.image_directory.specs.declared.Frame.{Frame}
use Rattle.image_places_spec.specs.Views.{binders, uses_of}
use Rattle.image_read_parts.specs.Parts.{list_of}
use Rattle.image_read_parts.specs.Standing.{Stands, RoomIn}
use Rattle.image_read_parts.proofs.StandingLaws.{stands-room}
use Rattle.image_read_parts.proofs.TailPlaces.{record_ok as within}
use Rattle.image_read_nodes.specs.Nodes.{first_at, first_of, operand_of, target_of, second_of}
use Rattle.image_read_parts.specs.Indexed.{record_at, At}

-- the record at an index is within the limits of the layout
pub record_ok : (g : Frame) (s : List ℕ) (i k : ℕ) → Ready g s → At g s i k → RecordOk g.id (record_at g s i)
record_ok g s i k ready a = within g s i ready a.inside

-- ── identifiers ──

-- an identifier that stands in a record has room there
pub identifier-room : (g : Frame) (s : List ℕ) (i at : ℕ) {x : Identifier} → Stands (identifier_bytes g.id) (IdentifierOk g.id) (record_bytes g.id (record_at g s i)) at x → RoomIn g i at (2 + g.id) s
identifier-room g s i at {x} h =
    let n = identifier-length g.id x in
    record { inside = omega (arith, stands-room {e = identifier_bytes g.id} (omega (arith, n)) h) }

module _ (w : ℕ) where
  pub first-stands : (r : Record) → (kind_of r ≡ 2 → ⊥) → RecordOk w r → Stands (identifier_bytes w) (IdentifierOk w) (record_bytes w r) (first_at (kind_of r)) (first_of r)
  unfolding record_bytes RecordOk
  first-stands (definition x Γ) a ok = record { others = _; bytes = refl; fits = ok.0 }
  first-stands (substitute ps) a ok = absurd (a refl)
  first-stands (call x Γ) a ok = record { others = _; bytes = refl; fits = ok.0 }
  first-stands (let' v t h Γ) a ok = record { others = _; bytes = refl; fits = ok.0 }
  first-stands (switch v t n) a ok = record { others = _; bytes = refl; fits = ok.0 }
  first-stands (create v t e n) a ok = record { others = _; bytes = refl; fits = ok.0 }
  first-stands (invoke v h t Γ) a ok = record { others = _; bytes = refl; fits = ok.0 }
  first-stands (literal z v) a ok = record { others = []; bytes = sym (append-nil _); fits = ok.1 }
  first-stands (op f o j v) a ok = record { others = _; bytes = refl; fits = ok.0 }
  first-stands (ifc c f j) a ok = record { others = _; bytes = refl; fits = ok.1.0 }
  first-stands (clause' x Γ) a ok = record { others = _; bytes = refl; fits = ok.0 }
  first-stands (print n v) a ok = record { others = []; bytes = sym (append-nil _); fits = ok.1 }
  first-stands (exit v) a ok = record { others = []; bytes = sym (append-nil _); fits = ok }

  pub operand-stands : (r : Record) → kind_of r ≡ 9 → RecordOk w r → Stands (identifier_bytes w) (IdentifierOk w) (record_bytes w r) (4 + w) (operand_of r)
  unfolding record_bytes RecordOk
  operand-stands (definition x Γ) a ok = absurd (omega arith)
  operand-stands (substitute ps) a ok = absurd (omega arith)
  operand-stands (call x Γ) a ok = absurd (omega arith)
  operand-stands (let' v t h Γ) a ok = absurd (omega arith)
  operand-stands (switch v t n) a ok = absurd (omega arith)
  operand-stands (create v t e n) a ok = absurd (omega arith)
  operand-stands (invoke v h t Γ) a ok = absurd (omega arith)
  operand-stands (literal z v) a ok = absurd (omega arith)
  operand-stands (op f o j v) a ok =
      let i = identifier_bytes w f in
      let m = operator_code_lem o ∷ [] in
      let y = identifier_bytes w j ++ identifier_bytes w v in
      record {
        others = identifier_bytes w v;
        bytes = ap (λ (l : List ℕ). drop (4 + w) (9 ∷ l)) (sym (append_assoc i m y)) ∙ drop_at (9 ∷ (i ++ m)) y (4 + w) (simp (length-append, field-length) (omega arith));
        fits = ok.1.1.0;
      }
  operand-stands (ifc c f j) a ok = absurd (omega arith)
  operand-stands (clause' x Γ) a ok = absurd (omega arith)
  operand-stands (print n v) a ok = absurd (omega arith)
  operand-stands (exit v) a ok = absurd (omega arith)

  pub target_stands : (r : Record) → kind_of r ≡ 9 → RecordOk w r → Stands (identifier_bytes w) (IdentifierOk w) (record_bytes w r) (6 + (w + w)) (target_of r)
  unfolding record_bytes RecordOk
  target_stands (definition x Γ) a ok = absurd (omega arith)
  target_stands (substitute ps) a ok = absurd (omega arith)
  target_stands (call x Γ) a ok = absurd (omega arith)
  target_stands (let' v t h Γ) a ok = absurd (omega arith)
  target_stands (switch v t n) a ok = absurd (omega arith)
  target_stands (create v t e n) a ok = absurd (omega arith)
  target_stands (invoke v h t Γ) a ok = absurd (omega arith)
  target_stands (literal z v) a ok = absurd (omega arith)
  target_stands (op f o j v) a ok =
      let i = identifier_bytes w f in
      let m = operator_code_lem o ∷ [] in
      let y = identifier_bytes w j in
      let z = identifier_bytes w v in
      record {
        others = [];
        bytes = ap (λ (l : List ℕ). drop (6 + (w + w)) (9 ∷ l)) (ap (λ (l : List ℕ). i ++ l) (sym (append_assoc m y z)) ∙ sym (append_assoc i (m ++ y) z))
            ∙ (drop_at (9 ∷ (i ++ (m ++ y))) z (6 + (w + w)) (simp (length-append, field-length) (omega arith)) ∙ sym (append-nil z));
        fits = ok.1.1.1;
      }
  target_stands (ifc c f j) a ok = absurd (omega arith)
  target_stands (clause' x Γ) a ok = absurd (omega arith)
  target_stands (print n v) a ok = absurd (omega arith)
  target_stands (exit v) a ok = absurd (omega arith)

  -- an IfC's second operand, by its mark
  pub second_none : (r : Record) → kind_of r ≡ 10 → get_or (tail_bytes w r) 0 0 ≡ 0 → second_of r ≡ none
  second_none (definition x Γ) a q = absurd (omega arith)
  second_none (substitute ps) a q = absurd (omega arith)
  second_none (call x Γ) a q = absurd (omega arith)
  second_none (let' v t h Γ) a q = absurd (omega arith)
  second_none (switch v t n) a q = absurd (omega arith)
  second_none (create v t e n) a q = absurd (omega arith)
  second_none (invoke v h t Γ) a q = absurd (omega arith)
  second_none (literal z v) a q = absurd (omega arith)
  second_none (op f o j v) a q = absurd (omega arith)
  second_none (ifc c f none) a q = refl
  second_none (ifc c f (some x)) a q = absurd (omega arith)
  second_none (clause' x Γ) a q = absurd (omega arith)
  second_none (print n v) a q = absurd (omega arith)
  second_none (exit v) a q = absurd (omega arith)

  pub record Second (r : Record) : Type 0 where
    pub var : Identifier
    pub is : second_of r ≡ some var
    pub stands : Stands (identifier_bytes w) (IdentifierOk w) (record_bytes w r) (fixed w 10 + 1) var

  pub second_some : (r : Record) → kind_of r ≡ 10 → RecordOk w r → (get_or (tail_bytes w r) 0 0 ≡ 0 → ⊥) → Second r
  unfolding RecordOk
  second_some (definition x Γ) a ok q = absurd (omega arith)
  second_some (substitute ps) a ok q = absurd (omega arith)
  second_some (call x Γ) a ok q = absurd (omega arith)
  second_some (let' v t h Γ) a ok q = absurd (omega arith)
  second_some (switch v t n) a ok q = absurd (omega arith)
  second_some (create v t e n) a ok q = absurd (omega arith)
  second_some (invoke v h t Γ) a ok q = absurd (omega arith)
  second_some (literal z v) a ok q = absurd (omega arith)
  second_some (op f o j v) a ok q = absurd (omega arith)
  second_some (ifc c f none) a ok q = absurd (q refl)
  second_some (ifc c f (some x)) a ok q = record {
    var = x;
    is = refl;
    stands = record {
      others = [];
      bytes = sym (drop-drop 1 (fixed w 10) (record_bytes w (ifc c f (some x)))) ∙ (ap (drop 1) (tail_at w (ifc c f (some x))) ∙ sym (append-nil (identifier_bytes w x)));
      fits = ok.1.1;
    };
  }
  second_some (clause' x Γ) a ok q = absurd (omega arith)
  second_some (print n v) a ok q = absurd (omega arith)
  second_some (exit v) a ok q = absurd (omega arith)

-- the same, of the record at an index
module _ (g : Frame) (s : List ℕ) (i : ℕ) where
  pub first-there : (k : ℕ) {p : ℕ} → Ready g s → At g s i k → (k ≡ 2 → ⊥) → p ≡ first_at k → Stands (identifier_bytes g.id) (IdentifierOk g.id) (record_bytes g.id (record_at g s i)) p (first_of (record_at g s i))
  first-there k ready a n e =
      let r = record_at g s i in
      subst (λ (z : ℕ). Stands (identifier_bytes g.id) (IdentifierOk g.id) (record_bytes g.id r) z (first_of r)) (ap first_at a.kind ∙ sym e)
      (first-stands g.id r (λ q. n (sym a.kind ∙ q)) (record_ok g s i k ready a))

  pub operand-there : Ready g s → At g s i 9 → Stands (identifier_bytes g.id) (IdentifierOk g.id) (record_bytes g.id (record_at g s i)) (4 + g.id) (operand_of (record_at g s i))
  operand-there ready a = operand-stands g.id (record_at g s i) a.kind (record_ok g s i 9 ready a)

  pub target_there : Ready g s → At g s i 9 → Stands (identifier_bytes g.id) (IdentifierOk g.id) (record_bytes g.id (record_at g s i)) (6 + (g.id + g.id)) (target_of (record_at g s i))
  target_there ready a = target_stands g.id (record_at g s i) a.kind (record_ok g s i 9 ready a)

-- ── what a record uses and binds ──

pub uses-are : (r : Record)
    → uses_of r ≡ cond (eqb (kind_of r) 3) (ids (list_of r)) (cond (eqb (kind_of r) 4) (ids (list_of r)) (cond (eqb (kind_of r) 5) ((first_of r).id ∷ [])
    (cond (eqb (kind_of r) 7) ((first_of r).id ∷ ids (list_of r)) (cond (eqb (kind_of r) 9) ((first_of r).id ∷ (operand_of r).id ∷ [])
    (cond (eqb (kind_of r) 10) ((first_of r).id ∷ optional_id (second_of r)) (cond (eqb (kind_of r) 12) ((first_of r).id ∷ []) (cond (eqb (kind_of r) 13) ((first_of r).id ∷ []) [])))))))
uses-are (definition x Γ) = refl
uses-are (substitute ps) = refl
uses-are (call x Γ) = refl
uses-are (let' v t h Γ) = refl
uses-are (switch v t n) = refl
uses-are (create v t e n) = refl
uses-are (invoke v h t Γ) = refl
uses-are (literal z v) = refl
uses-are (op f o j v) = refl
uses-are (ifc c f j) = refl
uses-are (clause' x Γ) = refl
uses-are (print n v) = refl
uses-are (exit v) = refl

pub binders-are : (r : Record)
    → binders r ≡ cond (eqb (kind_of r) 4) ((first_of r).id ∷ []) (cond (eqb (kind_of r) 6) ((first_of r).id ∷ []) (cond (eqb (kind_of r) 8) ((first_of r).id ∷ [])
    (cond (eqb (kind_of r) 9) ((target_of r).id ∷ []) (cond (eqb (kind_of r) 1) (ids (list_of r)) (cond (eqb (kind_of r) 11) (ids (list_of r)) [])))))
binders-are (definition x Γ) = refl
binders-are (substitute ps) = refl
binders-are (call x Γ) = refl
binders-are (let' v t h Γ) = refl
binders-are (switch v t n) = refl
binders-are (create v t e n) = refl
binders-are (invoke v h t Γ) = refl
binders-are (literal z v) = refl
binders-are (op f o j v) = refl
binders-are (ifc c f j) = refl
binders-are (clause' x Γ) = refl
binders-are (print n v) = refl
binders-are (exit v) = refl
