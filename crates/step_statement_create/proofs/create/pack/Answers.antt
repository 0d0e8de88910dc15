-- `pack` meets its contract. Assumes nothing.
use borrow.Author.Rules.{rules}
use Prim.Native.Nat.{◌+◌, ◌*◌, ◌≤◌}
use mathlib.Core.Path.{◌≡◌, ap, ◌∙◌}
use mathlib.Core.List.{◌++◌}
use native.Mathlib.Omega.{arith}
use lib.ListN.{length, take, drop, length-append}
use Rattle.image_write_parts.proofs.Putting.{puts_as, puts_then}
use Rattle.image_write_bytes.proofs.Copying.{part-from}
use Rattle.step_slots.specs.Slots.{slot_bytes, as_slot}
use Rattle.step_write.proofs.Regions.{taken-length, taken-put}
use Rattle.step_statement_create.proofs.create.pack.Goals as goal

pub returns : goal.returns
returns c =
    let a = c.args in
    let X = take (16 * a.k) (drop a.from a.store.now) in
    let p = puts_then c.put_slot-next.ensures (puts_as (part-from a.store.now a.from (16 * a.k)) c.copy.ensures) in
    let x : length X ≡ 16 * a.k = taken-length a.store.now a.from (16 * a.k) c.requires.0 in
    let full : length a.scratch.now ≡ 2080 = search rules in
    let room : 16 * (a.k + 1) ≤ length a.scratch.now = omega (arith, c.requires.1, full) in
    let n : length (slot_bytes (as_slot a.cell) ++ X) ≡ 16 * (a.k + 1) = omega (arith, x, length-append (slot_bytes (as_slot a.cell)) X) in
    ap (take (16 * (a.k + 1))) p.holds ∙ taken-put a.scratch.now (slot_bytes (as_slot a.cell) ++ X) (16 * (a.k + 1)) n room
