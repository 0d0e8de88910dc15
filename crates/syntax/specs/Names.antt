-- Names, variable IDs and identifiers (names.rs): when two are the same.
use Rattle.std.specs.Prelude.{Bool, ◌&&◌, eqb}
use Rattle.syntax.specs.declared.names.Name.{Name}
use Rattle.syntax.specs.declared.names.VarId.{VarId}
use Rattle.syntax.specs.declared.names.Identifier.{Identifier}

-- document 01, "The Rust": a label or xtor is known by its name alone
abbrev pub same_name : Name → Name → Bool
same_name a b = eqb a.0 b.0

-- document 01, "The Rust": a variable is known by its ID
abbrev pub same_var_id : VarId → VarId → Bool
same_var_id a b = eqb a.0 b.0

abbrev pub same_identifier : Identifier → Identifier → Bool
same_identifier a b = same_name a.name b.name && same_var_id a.id b.id
