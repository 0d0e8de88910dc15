-- `enter_list` meets its contract. Assumes nothing.
use mathlib.Core.Path.{◌≡◌}
use lib.ListN.{drop}
use Rattle.syntax.specs.Context.{ids}
use Rattle.scope_spec.specs.Walk.{enter_all}
use Rattle.image_read_parts.specs.Parts.{list_of}
use Rattle.image_read_parts.specs.Recorded.{record_in}
use Rattle.scope_places.specs.Scoping.{scoped_of, Entered}
use Rattle.scope_nodes.proofs.nodes.enter_list.Given as goal

abbrev pub invariant-loop-j : goal.invariant-loop-j
invariant-loop-j l =
    let xs = ids (list_of (record_in l.list.node.now)) in
    Entered l.initial.scope l.scope l.here (scoped_of l.scope l.here)
    × (enter_all l.max_id xs (scoped_of l.initial.scope l.initial.here) ≡ enter_all l.max_id (drop l.j xs) (scoped_of l.scope l.here))
