-- `use_list` meets its contract. Assumes nothing.
use mathlib.Core.Path.{sym}
use mathlib.Core.List.{[], ◌∷◌}
use native.Mathlib.Omega.{arith}
use Rattle.image_read_parts.specs.Parts.{list_of}
use Rattle.image_read_parts.specs.Recorded.{record_in}
use Rattle.image_read_nodes.proofs.ListLaws.{ids-turn, ids_end}
use Rattle.scope_places.specs.Scoping.{used_all_lem}
use Rattle.scope_places.specs.Views.{viewed}
use Rattle.scope_places.proofs.UseLaws.{used_none, used-more}
use Rattle.scope_nodes.proofs.nodes.use_list.Goals as goal

pub loop-j-preserved : goal.loop-j-preserved
loop-j-preserved c =
    let Δ = viewed c.args.scope.now in
    ids-turn (used_all_lem Δ) (λ x. used_all_lem Δ (x ∷ [])) (used-more Δ) c.loop-j.invariant c.list_id.ensures c.use_one-used.ensures

pub returns : goal.returns
returns c =
    let Δ = viewed c.args.scope.now in
    sym (ids_end (used_all_lem Δ) (used_none Δ) (list_of (record_in c.args.list.now.node.now)) c.loop-j.invariant (omega arith))
