-- The second operand of an IfC: the mark says whether there is one, and it stands behind the mark. Assumes nothing.
use Prim.Native.Nat.{ℕ, ◌+◌, ◌<◌}
use mathlib.Core.Path.{◌≡◌, sym, ap, ◌∙◌, subst}
use mathlib.Core.List.{List, [], ◌∷◌}
use native.Mathlib.Omega.{arith}
use lib.ListN.{length, get_or}
use Rattle.syntax.specs.declared.names.Identifier.{Identifier}
use mathlib.Core.Option.{none, some}
use Rattle.image_spec.specs.Fields.{identifier_bytes, IdentifierOk}
use Rattle.image_spec.specs.Records.{record_bytes}
use Rattle.image_spec.specs.Kinds.{fixed, tail_bytes}
use Rattle.image_directory.specs.Slots.{Ready}
use Rattle.image_directory.specs.declared.Frame.{Frame}
use Rattle.image_read_parts.specs.Standing.{Stands, ReadsAs, RoomIn}
use Rattle.image_read_nodes.specs.Nodes.{second_of}
use Rattle.image_read_parts.specs.Indexed.{record_at, At}
use Rattle.image_read_nodes.proofs.TailLaws.{tail-byte, tail-room, tail_some}
use Rattle.image_read_nodes.proofs.NodeLaws.{record_ok, identifier-room, second_none, Second, second_some}

module _ {g : Frame} {s : List ℕ} {i mark : ℕ} (ready : Ready g s) (a : At g s i 10) (m : mark ≡ fixed g.id 10) where
  has_mark : 0 < length (tail_bytes g.id (record_at g s i))
  has_mark = tail_some g.id (record_at g s i) (λ q. omega (arith, a.kind)) (λ q. omega (arith, a.kind)) (λ q. omega (arith, a.kind)) (λ q. omega (arith, a.kind))

  pub mark-room : RoomIn g i mark 1 s
  mark-room = tail-room g s i 10 0 mark a (m ∙ omega arith) has_mark

  module _ {b : ℕ} (d : ReadsAs (λ (b : ℕ). b ∷ []) (λ _. Unit {0}) (record_bytes g.id (record_at g s i)) mark b) where
    marked : b ≡ get_or (tail_bytes g.id (record_at g s i)) 0 0
    marked = tail-byte g.id 10 (record_at g s i) 0 mark a.kind (m ∙ omega arith) has_mark d

    pub unmarked_none : b ≡ 0 → second_of (record_at g s i) ≡ none
    unmarked_none z = second_none g.id (record_at g s i) a.kind (sym marked ∙ z)

    module _ (z : b ≡ 0 → ⊥) where
      second : Second g.id (record_at g s i)
      second = second_some g.id (record_at g s i) a.kind (record_ok g s i 10 ready a) (λ q. z (marked ∙ q))

      there : Stands (identifier_bytes g.id) (IdentifierOk g.id) (record_bytes g.id (record_at g s i)) (mark + 1) second.var
      there = subst (λ (p : ℕ). Stands (identifier_bytes g.id) (IdentifierOk g.id) (record_bytes g.id (record_at g s i)) (p + 1) second.var) (sym m) second.stands

      pub second-room : RoomIn g i (mark + 1) (2 + g.id) s
      second-room = identifier-room g s i (mark + 1) there

      pub second-read : {x : Identifier} → ReadsAs (identifier_bytes g.id) (IdentifierOk g.id) (record_bytes g.id (record_at g s i)) (mark + 1) x
          → some x ≡ second_of (record_at g s i)
      second-read r = ap some (r.is second.var there) ∙ sym second.is
