-- Two lists of IDs: is none of the first in the second, or each?
use Rattle.std.specs.Prelude.{Bool, true, false, not, List}
use Rattle.syntax.specs.Sets.{elem}
use Rattle.syntax.specs.declared.names.VarId.{VarId}
use Rattle.model.specs.Lists.{every}

-- is no ID of the first list in the second?
abbrev pub apart : List VarId → List VarId → Bool
apart xs ys = every (λ (x : VarId). not (elem x ys)) xs

-- is the answer the one that is wanted?
abbrev pub agrees : (wanted : Bool) → Bool → Bool
agrees true b = b
agrees false b = not b

-- is every ID of the first list in the second (where true is wanted), or none?
abbrev pub all_are_lem : (wanted : Bool) → List VarId → List VarId → Bool
all_are_lem wanted xs ys = every (λ (x : VarId). agrees wanted (elem x ys)) xs
