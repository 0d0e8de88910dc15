-- `add_list` meets its contract. Assumes nothing.
use Prim.Native.Nat.{◌+◌, ◌<◌, ◌≤◌}
use mathlib.Core.Path.{◌≡◌}
use mathlib.Core.List.{[], ◌∷◌, ◌++◌}
use native.Mathlib.Omega.{arith}
use lib.ListN.{length, set, take, length-set}
use Rattle.std.proofs.lemmas.List.{take_more_set}
use Rattle.syntax.specs.Arrays.{SetHolds}
use Rattle.syntax.proofs.Lists.{stored-count}
use Rattle.image_read_parts.specs.Parts.{list_of}
use Rattle.image_read_parts.specs.Recorded.{record_in}
use Rattle.image_read_nodes.proofs.ListLaws.{ids-turn, ids_end}
use Rattle.annotate_uses.proofs.SetLaws.{behind, one_behind, behind-step, behind_none, room-more, room-holds}
use Rattle.annotate_uses.proofs.add_list.Goals as goal

pub loop-j-preserved : goal.loop-j-preserved
loop-j-preserved c =
    let h = c.loop-j.invariant in
    let l = c.loop-j in
    let x = c.list_id-id.result in
    let k : l.all.1.0 < length l.all.0 = omega (arith, h.size, h.room.small) in
    let size : length (set l.all.0 l.all.1.0 x) ≡ 128 = simp length-set h.size in
    let fits : l.all.1.0 + 1 ≤ 128 = omega (arith, h.size, k) in
    let more : SetHolds (record { ids = set l.all.0 l.all.1.0 x; len = l.all.1.0 + 1; size = size; fits = fits }) (take l.all.1.0 l.all.0 ++ (x ∷ [])) =
    record { count = stored-count l.all.0 l.all.1.0 x k; list = take_more_set l.all.0 l.all.1.0 x k } in
    let r = room-more x h.room (omega arith) more in
    record {
      size = size;
      fits = fits;
      room = record { count = r.count; small = omega (arith, r.small) };
      turn = ids-turn behind one_behind behind-step h.turn c.list_id-id.ensures more.list;
    }

pub returns : goal.returns
returns c =
    let h = c.loop-j.invariant in
    let s = room-holds h.room (ids_end behind behind_none (list_of (record_in c.args.list.now.node.now)) h.turn (omega arith)) in
    record { count = s.count; list = s.list }
