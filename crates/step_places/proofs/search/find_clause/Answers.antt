-- `find_clause` meets its contract. Assumes nothing.
use mathlib.Core.Path.{refl}
use mathlib.Core.Logic.{inr}
use Rattle.step_places.proofs.SearchLaws.{clause-found}
use Rattle.step_places.proofs.search.find_clause.Goals as goal

pub find-requires : goal.find-requires
find-requires c = inr refl

pub returns : goal.returns
returns c = clause-found c.find.ensures
