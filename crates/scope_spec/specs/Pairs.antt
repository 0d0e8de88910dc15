-- The masks of records as the code holds them, a pair for each record, and as the numbers of which FreeRows speaks.
use Rattle.std.specs.Prelude.{ℕ, List, [], ◌∷◌}
use Rattle.scope_spec.specs.declared.FreeVars.{FreeVars}

-- two numbers for each record: the mask of its clauses, then that of its bodies
abbrev pub masks_of : List FreeVars → List ℕ
masks_of [] = []
masks_of (f ∷ fs) = f.clauses ∷ f.next ∷ masks_of fs
