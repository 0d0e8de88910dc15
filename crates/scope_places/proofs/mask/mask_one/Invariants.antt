-- `mask_one` meets its contract. Assumes nothing.
use mathlib.Core.Path.{◌≡◌}
use mathlib.Core.List.{[], ◌∷◌}
use lib.ListN.{drop}
use Rattle.scope_spec.specs.FreeRows.{mask_of}
use Rattle.scope_places.specs.Views.{viewed}
use Rattle.scope_places.proofs.mask.mask_one.Given as goal

abbrev pub invariant-loop-i : goal.invariant-loop-i
invariant-loop-i l = l.mask ≡ mask_of (l.id ∷ []) (drop l.i (viewed l.scope))
