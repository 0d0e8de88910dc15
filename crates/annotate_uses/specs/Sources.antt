-- What every walk over an accepted image needs of it, and the scopes that it holds on the way.
use Rattle.std.specs.Prelude.{ℕ, ◌≡◌, true, List}
use Rattle.syntax.specs.Arrays.{set_of}
use Rattle.syntax.specs.declared.names.VarId.{VarId}
use Rattle.syntax.specs.declared.sets.IdSet.{IdSet}
use Rattle.image_directory.specs.Slots.{records_in}
use Rattle.image_directory.specs.declared.Frame.{Frame}
use Rattle.scope_spec.specs.Flat.{all_records_lem, small_record_lem}
use Rattle.scope_places.specs.Scoping.{Scope}

-- an accepted image whose counts have passed question 7
pub record Source (g : Frame) (s : List ℕ) : Type 0 where
  pub small : all_records_lem small_record_lem (records_in g s) ≡ true

-- the struct holds this scope
pub record BoundBy (x : IdSet) (B : List VarId) : Type 0 where
  pub is : set_of x ≡ B
  pub scope : Scope x
