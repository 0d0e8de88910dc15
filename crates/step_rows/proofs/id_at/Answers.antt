-- `id_at` meets its contract. Assumes nothing.
use Prim.Native.Nat.{ℕ, ◌+◌, ◌*◌, ◌≤◌}
use mathlib.Core.Path.{sym, ap, ◌∙◌}
use native.Mathlib.Omega.{arith}
use lib.ListN.{length}
use Rattle.step_rows.specs.Placing.{number_at}
use Rattle.step_rows.proofs.RowLaws.{number_is, id-at, inside-at}
use Rattle.step_rows.proofs.id_at.Goals as goal
use Rattle.step_rows.proofs.id_at.Goals.{Start}

-- the number is in the bytes
inside : (c : Start) →
    let p = c.args.row.now.places in
    p.from + p.stride * c.args.j + p.offset + c.args.width ≤ length c.args.row.now.bytes.now
inside c = omega (arith, inside-at c.args.row.now.bytes.now c.args.row.now.places c.args.j c.args.row.now.inside c.requires.1, c.requires.0)

pub number-requires : goal.number-requires
number-requires c = (inside (goal.at.number-requires c).Start, omega (arith, c.args.row.now.inside.width, c.requires.0))

pub returns : goal.returns
returns c =
    let row = c.args.row.now in
    let p = row.places in
    number_is row.bytes.now c.args.width _ _ _ c.number.ensures
    ∙ (ap (λ (w : ℕ). number_at row.bytes.now w (p.from + p.stride * c.args.j + p.offset)) c.requires.0 ∙ sym (id-at row c.args.j c.requires.1))
