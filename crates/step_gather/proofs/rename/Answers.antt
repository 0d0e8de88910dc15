-- `rename` meets its contract. Assumes nothing.
use mathlib.Core.Path.{◌≡◌, sym, ◌∙◌}
use native.Mathlib.Omega.{arith}
use lib.ListN.{length}
use Rattle.step_slots.specs.Views.{slots_at}
use Rattle.step_slots.proofs.SlotBytes.{slots-count}
use Rattle.step_rows.specs.Rows.{ids_of}
use Rattle.step_rows.proofs.RowLaws.{ids-length}
use Rattle.step_gather.specs.Gathering.{renamed}
use Rattle.step_gather.proofs.Filling.{filled_none, filled_all, filled_same}
use Rattle.step_gather.proofs.Renaming.{renamed-length, renamed-next}
use Rattle.step_gather.proofs.rename.Goals as goal
use Rattle.step_gather.proofs.rename.Goals.{Start}

-- how many IDs there are
ids_count : (c : Start) → length (ids_of c.args.row.now) ≡ c.args.row.now.places.len
ids_count c = ids-length c.args.row.now.bytes.now c.args.row.now.places

pub loop-j-init : goal.loop-j-init
loop-j-init c = filled_none _ _ _

pub put_four-requires : goal.put_four-requires
put_four-requires c = omega (arith, filled_same c.loop-j.invariant)

pub loop-j-preserved : goal.loop-j-preserved
loop-j-preserved c =
    let a = c.args in
    renamed-next (ids_of a.row.now) a.slots.now a.at a.row.now.places.len _ (ids_count (goal.at.loop-j-preserved c).Start) c.requires.1 c.loop-j-test.true c.id_of-id.ensures c.put_four.ensures
    c.loop-j.invariant

pub shape_of-slots : goal.shape_of-slots
shape_of-slots c = filled_same c.loop-j.invariant

pub returns : goal.returns
returns c =
    let a = c.args in
    let len = a.row.now.places.len in
    let xs = ids_of a.row.now in
    let m = ids_count (goal.at.returns c).Start in
    let k = slots-count a.slots.now a.at len in
    let n : len ≡ length (renamed xs (slots_at a.slots.now a.at len)) = sym (renamed-length xs (slots_at a.slots.now a.at len) (m ∙ sym k) ∙ m) in
    (filled_all c.loop-j.invariant len n c.loop-j-test.false).holds
