-- `finish_written` meets its contract: one answer for each way out. Assumes nothing.
use Prim.Native.Nat.{ℕ, ◌+◌, ◌-◌}
use mathlib.Core.Path.{◌≡◌, refl, ap}
use mathlib.Core.Bool.{false, ◌&&◌}
use native.Mathlib.Omega.{arith}
use borrow.Author.Rules.{rules}
use borrow.Author.Tests.{le-leb, lt-leb}
use lib.Dec.{leb}
use lib.ListN.{length}
use Rattle.pass_finish.proofs.FinishLaws.{body-small, finishes_draws, finishes-room, finishes-image}
use Rattle.pass_finish.proofs.finish_written.Goals as goal
use Rattle.pass_finish.proofs.finish_written.Goals.{then-writer-length-via-then-writer-length, then-writer-length-via-else-writer-length+then-layout-length}

pub returns-then-max_id-gt-MAX_ID : goal.returns-then-max_id-gt-MAX_ID
returns-then-max_id-gt-MAX_ID c = (finishes_draws (omega (arith, c.if-max_id-gt-MAX_ID.true)) c.refuse.ensures.0, search rules)

pub overflow_add-length : goal.overflow_add-length
overflow_add-length c =
    let a = c.args in
    let f = c.requires in
    record { fits = omega (arith, c.records_at.ensures, body-small a.layout a.noted.now.count f.known f.few, f.near) }

pub returns-then-writer-length : goal.returns-then-writer-length
returns-then-writer-length c =
    let a = c.args in
    let b = c.records_at in
    let n = b.result + (a.writer.now.at - a.start) in
    let no : leb n (length a.writer.now.out.now) && leb n a.layout.largest ≡ false = elim c.then-writer-length.branch [
      | then-writer-length-via-then-writer-length w ↦ rw (lt-leb n (length a.writer.now.out.now) w.if-writer-length.true) refl
      | then-writer-length-via-else-writer-length+then-layout-length w ↦ rw (le-leb n (length a.writer.now.out.now) w.if-writer-length.false, lt-leb n a.layout.largest w.if-layout-length.true) refl
    ] in
    (finishes-room n (ap (λ (z : ℕ). z + (a.writer.now.at - a.start)) b.ensures) c.if-max_id-gt-MAX_ID.false no c.refuse-then-writer-length.ensures.0, search rules)

pub returns : goal.returns
returns c =
    let a = c.args in
    let b = c.records_at in
    let n = b.result + (a.writer.now.at - a.start) in
    let size = ap (λ (z : ℕ). z + (a.writer.now.at - a.start)) b.ensures in (
      finishes-image n size (omega (arith, c.if-max_id-gt-MAX_ID.false)) (omega (arith, c.if-writer-length.false)) (omega (arith, c.if-layout-length.false)) c.requires c.complete.ensures.0 refl,
      c.complete.ensures.1,
    )
