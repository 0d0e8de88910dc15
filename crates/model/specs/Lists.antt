-- Association lists by variable ID, and lists side by side: what the pass and the machines share.
use Rattle.std.specs.Prelude.{Bool, true, ◌&&◌, cond, List, [], ◌∷◌}
use Rattle.std.proofs.Math.Option.{Option, none, some}
use Rattle.syntax.specs.Names.{same_var_id}
use Rattle.syntax.specs.declared.names.VarId.{VarId}

-- does every member pass?
abbrev pub every : (VarId → Bool) → List VarId → Bool
every p [] = true
every p (x ∷ s) = p x && every p s

module _ {A : Type 0} where
  -- what stands beside an ID: the first found
  abbrev pub lookup : VarId → List (VarId × A) → Option A
  lookup x [] = none
  lookup x (e ∷ l) = cond (same_var_id x e.0) (some e.1) (lookup x l)

  -- what stands beside each of some IDs; nothing where one is absent
  abbrev pub both : Option A → Option (List A) → Option (List A)
  both none vs = none
  both (some v) none = none
  both (some v) (some vs) = some (v ∷ vs)

  abbrev pub lookups : List VarId → List (VarId × A) → Option (List A)
  lookups [] l = some []
  lookups (x ∷ xs) l = both (lookup x l) (lookups xs l)

  -- two lists side by side, as far as both go
  abbrev pub zip : {B : Type 0} → List B → List A → List (B × A)
  zip [] vs = []
  zip (x ∷ xs) [] = []
  zip (x ∷ xs) (v ∷ vs) = (x, v) ∷ zip xs vs
