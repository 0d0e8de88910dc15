-- Room for what a statement binds: a walk that starts at a part of a program has at most as much in scope as one that starts above it.
use Rattle.std.specs.Prelude.{◌≤◌, ◌≡◌, true, List, leb, length}
use Rattle.syntax.specs.declared.names.VarId.{VarId}
use Rattle.model.specs.Syntax.{Stmt, Clauses}
use Rattle.model.specs.Questions.{OfStmt, asked, asked_clauses, any_binders}

-- document 01, question 7: 64 bindings in scope
abbrev pub in_room : OfStmt
in_room Δ s = leb (length Δ) 64

-- the question was asked of the statement, with at least as much in scope as is bound here
pub record RoomFor (bound : List VarId) (t : Stmt) : Type 0 where
  pub scope : List VarId
  pub longer : length bound ≤ length scope
  pub room : asked t in_room any_binders scope ≡ true

pub record RoomForClauses (bound : List VarId) (cs : Clauses) : Type 0 where
  pub scope : List VarId
  pub longer : length bound ≤ length scope
  pub room : asked_clauses cs in_room any_binders scope ≡ true
