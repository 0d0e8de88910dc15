-- What the record of a definition or a clause lists: its context. Assumes nothing.
use Prim.Native.Nat.{ℕ}
use mathlib.Core.Path.{◌≡◌, refl}
use mathlib.Core.Bool.{Bool, true, false, cond}
use lib.Dec.{eqb}
use Rattle.syntax.specs.Context.{Context}
use Rattle.syntax.specs.declared.names.Identifier.{Identifier}
use Rattle.image_spec.specs.Records.{definition, clause'}
use Rattle.image_read_parts.specs.Parts.{list_of}
use Rattle.step_places.specs.Heads.{head_record}

pub head-list : (kind : ℕ) (x : Identifier) (Γ : Context) → list_of (head_record kind x Γ) ≡ Γ
head-list kind x Γ = go (eqb kind 1)
  where
    go : (b : Bool) → list_of (cond b (definition x Γ) (clause' x Γ)) ≡ Γ
    go true = refl
    go false = refl
