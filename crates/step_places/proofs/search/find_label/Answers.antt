-- `find_label` meets its contract. Assumes nothing.
use mathlib.Core.Path.{refl}
use mathlib.Core.Logic.{inl}
use Rattle.step_places.proofs.SearchLaws.{label-found}
use Rattle.step_places.proofs.search.find_label.Goals as goal

pub find-requires : goal.find-requires
find-requires c = inl refl

pub returns : goal.returns
returns c = label-found c.find.ensures
