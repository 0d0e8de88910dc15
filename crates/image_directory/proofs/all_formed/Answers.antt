use Rattle.std.proofs.Common.{arith, sym, ◌≡◌, ◌+◌, ◌-◌, ◌≤◌, ◌∙◌, length, true}
use Rattle.image_spec.specs.Image.{tiled_from}
use Rattle.image_directory.proofs.Tiling.{slot-room, tiled_le, tiled-next, formed-short, formed-end, formed-part}
use Rattle.image_directory.proofs.all_formed.Goals as goal
use Rattle.image_directory.proofs.all_formed.Goals.{In-Some}

-- the others tile too
next : (c : In-Some) → tiled_from c.args.frame.place (c.args.frame.count - c.loop.counter - 1) (c.loop.at + (c.args.frame.place + c.args.frame.place)) (c.loop.here + c.in-Some.slot.size) c.args.image.now ≡ true
next c =
    let a = c.args in
    let g = a.frame in
    let l = c.loop in
    tiled-next g.place a.image.now (g.count - l.counter) l.at l.here _ (omega arith) (sym c.read_slot.ensures ∙ c.in-Some.is) l.invariant.0

within : (c : In-Some) → c.loop.here + c.in-Some.slot.size ≤ length c.args.image.now
within c = tiled_le c.args.frame.place c.args.image.now _ _ _ (next c)

pub returns-in_default : goal.returns-in_default
returns-in_default c =
    let a = c.args in
    let g = a.frame in
    let l = c.loop in
    sym (l.invariant.1 ∙ formed-short g.place a.image.now g.id (g.count - l.counter) l.at l.here (omega arith) (sym c.read_slot.ensures ∙ c.in_default.is))

pub overflow_add-end : goal.overflow_add-end
overflow_add-end c = omega (arith, within (goal.at.overflow_add-end c).In-Some)

pub slice_bounds-fields-end : goal.slice_bounds-fields-end
slice_bounds-fields-end c = omega (arith, within (goal.at.slice_bounds-fields-end c).In-Some)

pub returns-then-not-record_formed : goal.returns-then-not-record_formed
returns-then-not-record_formed c =
    let a = c.args in
    let g = a.frame in
    let l = c.loop in
    let q = sym c.read_slot.ensures ∙ c.in-Some.is in
    sym (l.invariant.1 ∙ (formed-part g.place a.image.now g.id (g.count - l.counter) l.at l.here _ _ (omega arith) q c.record_formed.ensures ∙ rw c.if-not-record_formed.true))

pub overflow_add-at-in-loop : goal.overflow_add-at-in-loop
overflow_add-at-in-loop c =
    let a = c.args in
    let g = a.frame in
    omega (arith, slot-room g.place a.image.now c.loop.at _ (omega arith) (sym c.read_slot.ensures ∙ c.in-Some.is))

pub loop-preserved : goal.loop-preserved
loop-preserved c =
    let a = c.args in
    let g = a.frame in
    let l = c.loop in
    let q = sym c.read_slot.ensures ∙ c.in-Some.is in
    let k : g.count - (l.counter + 1) ≡ g.count - l.counter - 1 = omega arith in (
      rw k (next (goal.at.loop-preserved c).In-Some),
      rw k (l.invariant.1 ∙ (formed-part g.place a.image.now g.id (g.count - l.counter) l.at l.here _ _ (omega arith) q c.record_formed.ensures ∙ rw c.if-not-record_formed.false)),
    )

pub returns : goal.returns
returns c =
    let a = c.args in
    let g = a.frame in
    let l = c.loop in
    sym (l.invariant.1 ∙ formed-end g.place a.image.now g.id _ l.at l.here (omega arith))
