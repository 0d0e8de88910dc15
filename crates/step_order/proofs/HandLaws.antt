-- The statement at hand stands at the state's position in the stepper's image. Assumes nothing.
use Prim.Native.Nat.{ℕ}
use mathlib.Core.Path.{◌≡◌, ap₂, subst}
use Rattle.image_spec.specs.Records.{Record}
use Rattle.image_directory.specs.declared.image.Image.{Image}
use Rattle.image_kinds.specs.Codes.{code_of}
use Rattle.image_kinds.specs.declared.kinds.Kind.{Kind}
use Rattle.image_read_parts.specs.Indexed.{record_of, IsAt}
use Rattle.image_read_parts.specs.Recorded.{record_in}
use Rattle.image_read_parts.specs.declared.record.RecordAt.{RecordAt}
use Rattle.image_read_parts.proofs.Indexing.{at-kind}
use Rattle.step_order.specs.declared.at_hand.AtHand.{AtHand}

-- a record that stands at this place of this image
module _ (node : RecordAt) {image : Image} {i : ℕ} (image_is : node.image ≡ image) (index_is : node.index ≡ i) where
  -- it is of the kind that it names
  pub at_place : {k : Kind} → node.kind ≡ k → IsAt image i (code_of k)
  at_place {k} e = subst (λ i. IsAt image i (code_of k)) index_is (subst (λ (m : Image). IsAt m node.index (code_of k)) image_is (at-kind node e))

  pub record-at_place : record_in node ≡ record_of image i
  record-at_place = ap₂ {C = Record} record_of image_is index_is

module _ (hand : AtHand) where
  pub at_hand : {k : Kind} → hand.node.kind ≡ k → IsAt hand.stepper.now.image hand.known.now.state.header.position (code_of k)
  at_hand e = at_place hand.node hand.image_is hand.index_is e

  pub record-at_hand : record_in hand.node ≡ record_of hand.stepper.now.image hand.known.now.state.header.position
  record-at_hand = record-at_place hand.node hand.image_is hand.index_is
