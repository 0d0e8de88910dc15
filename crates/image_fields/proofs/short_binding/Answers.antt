use Rattle.std.proofs.Common.{arith, ◌≤◌, ◌+◌, ◌∙◌, sym, length, eqb-true}
use borrow.Author.Tests.{leb-true}
use Rattle.image_fields.proofs.FieldStops.{short-named, short_i64}
use Rattle.image_fields.proofs.short_binding.Goals as goal

pub returns-then-number-eq0 : goal.returns-then-number-eq0
returns-then-number-eq0 c = λ e.
    let a = c.args in
    let h : a.at + 10 ≤ length a.bytes.now = leb-true _ _ (sym c.room.ensures ∙ c.if-not-room.false) in
    let first = rw c.if-number-eq0.true at c.number.ensures in
    let second = rw (eqb-true c.number-then-number-eq0.result 0 e) at c.number-then-number-eq0.ensures in
    (h, rw c.if-w-ne2.false (short_i64 a.bytes.now (λ i. omega (arith, c.type_inv.bytes i)) a.at h c.if-bytes-at-gt2.false c.in-0.is first second))

pub returns-in-1 : goal.returns-in-1
returns-in-1 c = λ e.
    let a = c.args in
    let h : a.at + 10 ≤ length a.bytes.now = leb-true _ _ (sym c.room.ensures ∙ c.if-not-room.false) in
    (h, rw c.if-w-ne2.false (short-named a.bytes.now (λ i. omega (arith, c.type_inv.bytes i)) a.at h c.if-bytes-at-gt2.false c.in-1.is))
