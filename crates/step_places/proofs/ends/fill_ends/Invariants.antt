-- `fill_ends` meets its contract: the places from i on are filled. Assumes nothing.
use Rattle.image_directory.specs.Images.{records_of}
use Rattle.step_places.proofs.EndLaws.{Filled}
use Rattle.step_places.proofs.ends.fill_ends.Given as goal

abbrev pub invariant-loop-i : goal.invariant-loop-i
invariant-loop-i l = Filled (records_of l.image) l.initial.ends l.ends l.i
