-- The order of a rearrangement: the targets before what is kept, or behind it.
use Rattle.std.specs.Prelude.{Bool, cond, ◌++◌}
use Rattle.syntax.specs.Context.{Context}

abbrev pub joined : Bool → Context → Context → Context
joined first targets kept = cond first (targets ++ kept) (kept ++ targets)
