use Rattle.std.proofs.Common.{arith, refl, sym, ap, ◌≡◌}
use lib.ListN.{get_or}
use Rattle.image_kinds.specs.Codes.{code_of}
use Rattle.image_kinds.proofs.KindNames.{record-decodes}
use Rattle.image_shape.specs.Nodes.{node_of}
use Rattle.image_directory.proofs.Places.{Spot, spot, unseen}
use Rattle.image_shape.proofs.Heads.{spot_counted, spot_plain}
use Rattle.image_shape.proofs.look.Goals as goal
use Rattle.image_shape.proofs.look.Goals.{After-slot_of-slot, After-unwrap-kind}

-- the record that was looked for
here : (c : After-slot_of-slot) → Spot c.args.image.now.frame c.args.image.now.bytes.now c.args.i c.slot_of-slot.result
here c =
    let a = c.args in
    spot a.image.now.frame a.image.now.bytes.now a.i _ a.image.now.ready c.if-image-i.false c.slot_of-slot.ensures

pub returns-then-image-i : goal.returns-then-image-i
returns-then-image-i c = let a = c.args in sym (ap node_of (unseen a.image.now.frame a.image.now.bytes.now a.i c.args.image.now.ready c.if-image-i.true))

pub bounds-image-slot : goal.bounds-image-slot
bounds-image-slot c =
    let t = here (goal.at.bounds-image-slot c).After-slot_of-slot in
    omega arith

pub overflow_add-clauses : goal.overflow_add-clauses
overflow_add-clauses c =
    let t = here (goal.at.overflow_add-clauses c).After-slot_of-slot in
    omega arith

pub overflow_sub-clauses : goal.overflow_sub-clauses
overflow_sub-clauses c =
    let t = here (goal.at.overflow_sub-clauses c).After-slot_of-slot in
    omega arith

pub bounds-image-slot-in-Switch : goal.bounds-image-slot-in-Switch
bounds-image-slot-in-Switch c =
    let t = here (goal.at.bounds-image-slot-in-Switch c).After-slot_of-slot in
    omega arith

pub unwrap-kind-requires : goal.unwrap-kind-requires
unwrap-kind-requires c =
    let t = here (goal.at.unwrap-kind-requires c).After-slot_of-slot in
    rw (record-decodes t.head c.try_from.result t.says.kind c.try_from.ensures) refl

-- its kind's byte
kind_byte : (c : After-unwrap-kind) → code_of c.unwrap-kind.result ≡ get_or c.args.image.now.bytes.now c.slot_of-slot.result.offset 0
kind_byte c = rw c.unwrap-kind.ensures at c.try_from.ensures

pub returns-in-Switch : goal.returns-in-Switch
returns-in-Switch c =
    let t = here (goal.at.returns-in-Switch c).After-slot_of-slot in
    sym (spot_counted t c.unwrap-kind.result (kind_byte (goal.at.returns-in-Switch c).After-unwrap-kind) c.in-Switch.is)

pub returns-in_default : goal.returns-in_default
returns-in_default c =
    let t = here (goal.at.returns-in_default c).After-slot_of-slot in
    sym (spot_plain t c.unwrap-kind.result (kind_byte (goal.at.returns-in_default c).After-unwrap-kind) c.in_default.not-Switch c.in_default.not-Create)
