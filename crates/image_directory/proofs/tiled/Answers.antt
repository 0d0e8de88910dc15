use Rattle.std.proofs.Common.{arith, sym, ◌≡◌, ◌+◌, ◌-◌, ◌<◌, ◌∙◌}
use Rattle.image_directory.proofs.Tiling.{slot-room, tiled-past, tiled_off, tiled_on, tiled-short, tiled-end}
use Rattle.image_directory.proofs.tiled.Goals as goal
use Rattle.image_directory.proofs.tiled.Goals.{then-slot-here-via-then-slot-here, then-slot-here-via-else-slot-here+then-len-here}

pub returns-then-len-frame : goal.returns-then-len-frame
returns-then-len-frame c = let a = c.args in let g = a.frame in sym (tiled-past g.place a.image.now _ _ _ c.if-len-frame.true)

pub returns-in_default : goal.returns-in_default
returns-in_default c =
    let a = c.args in
    let g = a.frame in
    let l = c.loop in
    sym (l.invariant.1 ∙ tiled-short g.place a.image.now (g.count - l.counter) l.at l.here (omega arith) (sym c.read_slot.ensures ∙ c.in_default.is))

pub returns-then-slot-here : goal.returns-then-slot-here
returns-then-slot-here c =
    let a = c.args in
    let g = a.frame in
    let s = a.image.now in
    let l = c.loop in
    let q = sym c.read_slot.ensures ∙ c.in-Some.is in
    let t : 0 < g.count - l.counter = omega arith in
    elim c.then-slot-here.branch [
      | then-slot-here-via-then-slot-here w ↦ sym (l.invariant.1 ∙ tiled_off g.place s (g.count - l.counter) l.at l.here _ t q w.if-slot-here.true)
      | then-slot-here-via-else-slot-here+then-len-here w ↦
          sym (l.invariant.1 ∙ (tiled_on g.place s (g.count - l.counter) l.at l.here _ t q w.if-slot-here.false ∙ tiled-past g.place s _ _ _ (omega arith)))
    ]

pub overflow_add-at-in-loop : goal.overflow_add-at-in-loop
overflow_add-at-in-loop c =
    let a = c.args in
    let g = a.frame in
    omega (arith, slot-room g.place a.image.now c.loop.at _ (omega arith) (sym c.read_slot.ensures ∙ c.in-Some.is))

pub loop-preserved : goal.loop-preserved
loop-preserved c =
    let a = c.args in
    let g = a.frame in
    let s = a.image.now in
    let l = c.loop in
    let q = sym c.read_slot.ensures ∙ c.in-Some.is in
    let k : g.count - (l.counter + 1) ≡ g.count - l.counter - 1 = omega arith in
    (omega arith, rw k (l.invariant.1 ∙ tiled_on g.place s (g.count - l.counter) l.at l.here _ (omega arith) q c.if-slot-here.false))

pub returns : goal.returns
returns c =
    let a = c.args in
    let g = a.frame in
    let l = c.loop in
    sym (l.invariant.1 ∙ tiled-end g.place a.image.now _ l.at l.here (omega arith))
