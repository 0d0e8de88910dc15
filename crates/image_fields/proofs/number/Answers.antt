use Rattle.std.proofs.Common.{arith, suc, ◌≡◌, ◌+◌, ◌-◌, ◌*◌, ◌≤◌, get_or}
use Rattle.image_fields.proofs.Stops.{number_small, number_step}
use Rattle.image_fields.proofs.number.Goals as goal

pub overflow_mul-n : goal.overflow_mul-n
overflow_mul-n c =
    let k : c.args.w - c.loop-i.i ≤ 3 = omega arith in
    omega (arith, number_small _ _ _ _ k c.loop-i.invariant)

pub overflow_add-n : goal.overflow_add-n
overflow_add-n c =
    let l = c.loop-i in
    let a = c.args in
    let k : a.w - l.i ≤ 3 = omega arith in
    omega (arith, number_small _ _ _ _ k l.invariant, c.type_inv.bytes (a.at + (l.i - 1)))

pub loop-i-preserved : goal.loop-i-preserved
loop-i-preserved c =
    let l = c.loop-i in
    let a = c.args in
    let k : a.w - (l.i - 1) ≡ suc (a.w - l.i) = omega arith in
    let p : a.at + l.i ≡ suc (a.at + (l.i - 1)) = omega arith in
    let q : l.n * 256 + c.from-in-loop-i.result ≡ get_or a.bytes.now (a.at + (l.i - 1)) 0 + 256 * l.n = omega arith in
    rw k (number_step a.bytes.now (λ i. omega (arith, c.type_inv.bytes i)) (a.w - l.i) (a.at + (l.i - 1)) l.n _ _
    (omega arith) q (rw p at l.invariant))
