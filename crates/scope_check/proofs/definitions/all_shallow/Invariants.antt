-- `all_shallow` meets its contract. Assumes nothing.
use Prim.Native.Nat.{◌-◌}
use lib.Dec.{leb}
use Rattle.model.specs.Sizes.{depth_defs}
use Rattle.image_directory.specs.Images.{records_of}
use Rattle.scope_check.specs.Definitions.{defs_in}
use Rattle.scope_check.proofs.DefLaws.{DefsLeft, Shallow}
use Rattle.scope_check.proofs.definitions.all_shallow.Given as goal

abbrev pub invariant-loop : goal.invariant-loop
invariant-loop l =
    DefsLeft 128 (records_of l.image) (l.definitions - l.counter) l.at (Shallow (leb (depth_defs (defs_in l.definitions (records_of l.image))) 64))
