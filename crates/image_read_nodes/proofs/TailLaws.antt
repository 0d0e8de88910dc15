-- What the first bytes of a record's tail say: its mark and its counts, by its kind. Assumes nothing.
use Rattle.std.specs.Prelude.{Some}
use Prim.Native.Nat.{ℕ, suc, ◌+◌, ◌-◌, ◌<◌}
use mathlib.Core.Path.{◌≡◌, refl, sym, ap, ◌∙◌}
use mathlib.Core.List.{List, [], ◌∷◌}
use mathlib.Core.Option.{none, some}
use native.Mathlib.Omega.{arith}
use lib.ListN.{length, drop, get_or, length-drop}
use lib.Seq.{drop-drop, drop-cons}
use Rattle.image_spec.specs.Records.{Record, definition, substitute, call, let', switch, create, invoke, literal, op, ifc, clause', print, exit, record_bytes, RecordOk}
use Rattle.image_spec.specs.Kinds.{kind_of, clauses_of, fixed, tail_bytes}
use Rattle.image_spec.proofs.KindLaws.{tail_at}
use Rattle.image_directory.specs.Slots.{Ready, records_in}
use Rattle.image_directory.specs.declared.Frame.{Frame}
use Rattle.image_directory.proofs.Places.{records-length}
use Rattle.image_kinds.specs.Codes.{code_of}
use Rattle.image_shape.specs.Nodes.{node_of}
use Rattle.image_shape.specs.declared.Node.{Node}
use Rattle.image_shape.proofs.Heads.{place}
use Rattle.image_read_parts.specs.Standing.{Stands, ReadsAs, RoomIn, head_of}
use Rattle.image_read_parts.proofs.StandingLaws.{part_room, part-reads, byte_reads, kind-stands}
use Rattle.image_read_parts.specs.Indexed.{record_at, At}

-- ── the record that was looked at ──

module _ (g : Frame) (s : List ℕ) (i : ℕ) where
  pub record Looked (n : Node) : Type 0 where
    pub at : At g s i (code_of n.kind)
    pub count : clauses_of (record_at g s i) ≡ n.clauses

  pub looked : (n : Node) → Ready g s → node_of (drop i (records_in g s)) ≡ Some n → Looked n
  looked n h e =
      let p = place (records_in g s) i n e in
      record {
        at = record { inside = omega (arith, p.fits, records-length g s h); kind = ap (λ (l : List Record). kind_of (head_of l)) p.list ∙ sym p.kind };
        count = ap (λ (l : List Record). clauses_of (head_of l)) p.list ∙ sym p.count;
      }

  pub of-kind : {k m : ℕ} → At g s i k → k ≡ m → At g s i m
  of-kind a e = record { inside = a.inside; kind = a.kind ∙ e }

-- ── a byte of the tail ──

pub tail_from : (w k : ℕ) (r : Record) → kind_of r ≡ k → drop (fixed w k) (record_bytes w r) ≡ tail_bytes w r
tail_from w k r e = ap (λ (z : ℕ). drop (fixed w z) (record_bytes w r)) (sym e) ∙ tail_at w r

pub tail-byte : (w k : ℕ) (r : Record) (j p : ℕ) {b : ℕ} → kind_of r ≡ k → p ≡ fixed w k + j → j < length (tail_bytes w r)
    → ReadsAs (λ (b : ℕ). b ∷ []) (λ _. Unit {0}) (record_bytes w r) p b → b ≡ get_or (tail_bytes w r) j 0
tail-byte w k r j p e q h d = d.is (get_or (tail_bytes w r) j 0) record {
  others = drop (suc j) (tail_bytes w r);
  bytes = ap (λ (z : ℕ). drop z (record_bytes w r)) q ∙ (sym (drop-drop j (fixed w k) (record_bytes w r)) ∙ (ap (drop j) (tail_from w k r e) ∙ drop-cons (tail_bytes w r) j 0 h));
  fits = tt;
}

-- there is room for it
pub tail-room : (g : Frame) (s : List ℕ) (i k j p : ℕ) → At g s i k → p ≡ fixed g.id k + j → j < length (tail_bytes g.id (record_at g s i)) → RoomIn g i p 1 s
tail-room g s i k j p a q h =
    let w = g.id in
    let r = record_at g s i in
    let e : length (record_bytes w r) - fixed w k ≡ length (tail_bytes w r) = sym (length-drop (fixed w k) (record_bytes w r)) ∙ ap length (tail_from w k r a.kind) in
    record { inside = omega arith }

-- the first byte of the tail of the record at index i stands at this place of the image
pub record TailAt (g : Frame) (s : List ℕ) (i place : ℕ) : Type 0 where
  pub inside : place < length s
  pub byte : get_or s place 0 ≡ get_or (tail_bytes g.id (record_at g s i)) 0 0

module _ (g : Frame) (s : List ℕ) (i : ℕ) {o : ℕ} (t : Stands (record_bytes g.id) (RecordOk g.id) s o (record_at g s i)) where
  pub kind-there : i < g.count → At g s i (get_or s o 0)
  kind-there n = record { inside = n; kind = sym (kind-stands g.id t).0 }

  pub tail-there : Ready g s → (k p : ℕ) → At g s i k → p ≡ fixed g.id k → 0 < length (tail_bytes g.id (record_at g s i)) → TailAt g s i (o + p)
  tail-there ready k p a q h =
      let m = tail-room g s i k 0 p a (q ∙ omega arith) h in
      record { inside = omega (arith, (part_room ready.id.1 t m).inside); byte = tail-byte g.id k (record_at g s i) 0 p a.kind (q ∙ omega arith) h (part-reads t m byte_reads) }

-- every kind but Literal, Op, PrintI64 and Exit has a tail
pub tail_some : (w : ℕ) (r : Record) → (kind_of r ≡ 8 → ⊥) → (kind_of r ≡ 9 → ⊥) → (kind_of r ≡ 12 → ⊥) → (kind_of r ≡ 13 → ⊥) → 0 < length (tail_bytes w r)
tail_some w (definition x Γ) a b d e = omega arith
tail_some w (substitute ps) a b d e = omega arith
tail_some w (call x Γ) a b d e = omega arith
tail_some w (let' v t g Γ) a b d e = omega arith
tail_some w (switch v t n) a b d e = omega arith
tail_some w (create v t none n) a b d e = omega arith
tail_some w (create v t (some Γ) n) a b d e = omega arith
tail_some w (invoke v g t Γ) a b d e = omega arith
tail_some w (literal z v) a b d e = absurd (a refl)
tail_some w (op f o s v) a b d e = absurd (b refl)
tail_some w (ifc c f none) a b d e = omega arith
tail_some w (ifc c f (some x)) a b d e = omega arith
tail_some w (clause' x Γ) a b d e = omega arith
tail_some w (print n v) a b d e = absurd (d refl)
tail_some w (exit v) a b d e = absurd (e refl)

-- behind a mark that is not 0 there is more
pub mark-more : (w : ℕ) (r : Record) → (kind_of r ≡ 6) → 1 < length (tail_bytes w r)
mark-more w (definition x Γ) a = absurd (omega arith)
mark-more w (substitute ps) a = absurd (omega arith)
mark-more w (call x Γ) a = absurd (omega arith)
mark-more w (let' v t g Γ) a = absurd (omega arith)
mark-more w (switch v t n) a = absurd (omega arith)
mark-more w (create v t none n) a = omega arith
mark-more w (create v t (some Γ) n) a = omega arith
mark-more w (invoke v g t Γ) a = absurd (omega arith)
mark-more w (literal z v) a = absurd (omega arith)
mark-more w (op f o s v) a = absurd (omega arith)
mark-more w (ifc c f x) a = absurd (omega arith)
mark-more w (clause' x Γ) a = absurd (omega arith)
mark-more w (print n v) a = absurd (omega arith)
mark-more w (exit v) a = absurd (omega arith)
