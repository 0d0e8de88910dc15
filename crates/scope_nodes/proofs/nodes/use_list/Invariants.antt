-- `use_list` meets its contract. Assumes nothing.
use mathlib.Core.Path.{◌≡◌}
use lib.ListN.{drop}
use Rattle.syntax.specs.Context.{ids}
use Rattle.image_read_parts.specs.Parts.{list_of}
use Rattle.image_read_parts.specs.Recorded.{record_in}
use Rattle.scope_places.specs.Scoping.{used_all_lem}
use Rattle.scope_places.specs.Views.{viewed}
use Rattle.scope_nodes.proofs.nodes.use_list.Given as goal

abbrev pub invariant-loop-j : goal.invariant-loop-j
invariant-loop-j l =
    let use_all = used_all_lem (viewed l.scope) in
    let xs = ids (list_of (record_in l.list.node.now)) in
    use_all xs l.initial.used ≡ use_all (drop l.j xs) l.used
