-- The masks that the walk finds: of what they are right, and how they are left.
use Rattle.std.specs.Prelude.{ℕ, ◌≡◌, true, List}
use Rattle.syntax.specs.Sets.{◌∈◌}
use Rattle.syntax.specs.declared.names.VarId.{VarId}
use Rattle.model.specs.Syntax.{Stmt, Clauses, Def, Prog}
use Rattle.model.specs.Questions.{asked, asked_clauses, asked_defs, any_stmt, any_binders, plain, new, question6, question7, question8}
use Rattle.scope_spec.specs.Rooms.{in_room, RoomFor, RoomForClauses}
use Rattle.scope_walk.specs.declared.walk.Walked.{Walked}

-- document 01, questions 6 and 8, and the room of question 7, were asked of the statement with all in scope that is bound here
pub record Sourced (bound : List VarId) (t : Stmt) : Type 0 where
  pub room : RoomFor bound t
  pub scope : List VarId
  pub within : (x : VarId) → x ∈ bound → x ∈ scope
  pub six : asked t plain any_binders scope ≡ true
  pub eight : asked t any_stmt new scope ≡ true

pub record SourcedClauses (bound : List VarId) (cs : Clauses) : Type 0 where
  pub room : RoomForClauses bound cs
  pub scope : List VarId
  pub within : (x : VarId) → x ∈ bound → x ∈ scope
  pub six : asked_clauses cs plain any_binders scope ≡ true
  pub eight : asked_clauses cs any_stmt new scope ≡ true

pub record SourcedDefs (ds : List Def) : Type 0 where
  pub room : asked_defs ds in_room any_binders ≡ true
  pub six : asked_defs ds plain any_binders ≡ true
  pub eight : asked_defs ds any_stmt new ≡ true

-- the program has a yes to questions 6, 7 and 8
pub record Passed (P : Prog) : Type 0 where
  pub six : question6 P ≡ true
  pub seven : question7 P ≡ true
  pub eight : question8 P ≡ true

-- the walk has this mask, and these rows are stored
pub record MaskedTo (r : Walked) (now : List ℕ) (free : ℕ) (rows : List ℕ) : Type 0 where
  pub free_is : r.free ≡ free
  pub rows_are : now ≡ rows
