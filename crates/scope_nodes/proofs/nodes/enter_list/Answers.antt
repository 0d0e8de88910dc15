-- `enter_list` meets its contract. Assumes nothing.
use mathlib.Core.Path.{refl}
use Rattle.scope_spec.specs.Walk.{enter_one_lem, enter_all}
use Rattle.image_read_nodes.proofs.ListLaws.{ids-turn}
use Rattle.scope_places.proofs.EnterLaws.{entered_then}
use Rattle.scope_nodes.proofs.nodes.enter_list.Goals as goal

pub loop-j-preserved : goal.loop-j-preserved
loop-j-preserved c =
    let M = c.args.max_id in
    let l = c.loop-j.invariant in
    let k = entered_then l.0 c.enter_one-here.ensures in
    (record { is = refl; kept = k.kept; more = k.more; same = k.same }, ids-turn (enter_all M) (enter_one_lem M) (λ x xs v. refl) l.1 c.list_id.ensures k.is)
