-- Sets of variable IDs (`HashSet<ID>` in the Rust), as lists with membership: an ID may stand in one more than once.
-- Each test stands beside the proposition that it decides.
use Rattle.std.specs.Prelude.{◌≡◌, ◌⊎◌, Bool, true, false, not, ◌&&◌, ◌||◌, cond, List, [], ◌∷◌}
use Rattle.syntax.specs.Names.{same_var_id}
use Rattle.syntax.specs.declared.names.VarId.{VarId}

-- is the ID in the set?
abbrev pub elem : VarId → List VarId → Bool
elem x [] = false
elem x (y ∷ s) = same_var_id x y || elem x s

-- the ID is in the set
infix 40 ◌∈◌
abbrev pub ◌∈◌ : VarId → List VarId → Type 0
x ∈ [] = ⊥
x ∈ (y ∷ s) = (x ≡ y) ⊎ (x ∈ s)

-- is no ID there twice?
abbrev pub distinct : List VarId → Bool
distinct [] = true
distinct (x ∷ s) = not (elem x s) && distinct s

-- no ID is there twice
abbrev pub Distinct : List VarId → Type 0
Distinct [] = Unit {0}
Distinct (x ∷ s) = ¬ (x ∈ s) × Distinct s

-- the set without what stands in the second set
abbrev pub without : List VarId → List VarId → List VarId
without [] r = []
without (x ∷ s) r = cond (elem x r) (without s r) (x ∷ without s r)
