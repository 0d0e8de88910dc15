-- What a layout has where.
use Rattle.std.specs.Prelude.{Bool, true, false, List, drop, IsFalse, All}
use Rattle.try_building.specs.declared.layout.Part.{Part}
use Rattle.try_building.specs.declared.layout.Part.TheVariants.{Kind, Byte, Variable, Count, Bindings, Pairs, Named, Space}

abbrev pub is_kind : Part → Bool
is_kind (Kind k) = true
is_kind (Byte b) = false
is_kind Variable = false
is_kind Count = false
is_kind Bindings = false
is_kind Pairs = false
is_kind (Named n) = false
is_kind Space = false

-- A layout has a kind as its first part or nowhere.
abbrev pub KindLeads : List Part → Type 0
KindLeads parts = All (λ part. IsFalse (is_kind part)) (drop 1 parts)
