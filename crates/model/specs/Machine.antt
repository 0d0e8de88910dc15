-- What the two machines share: values, cells, states, events, outcomes of a step, lookups, runs and starts.
use Rattle.std.specs.Prelude.{ℕ, zero, suc, Bool, cond, List, [], ◌∷◌, map, ℤ, pos}
use Rattle.std.proofs.Math.Option.{Option, none, some}
use Rattle.syntax.specs.Names.{same_name}
use Rattle.syntax.specs.Context.{Context}
use Rattle.syntax.specs.declared.names.Name.{Name}
use Rattle.syntax.specs.declared.names.VarId.{VarId}
use Rattle.syntax.specs.declared.names.Identifier.{Identifier}
use Rattle.model.specs.Syntax.{Stmt, Clauses, end, clause, Def}
use Rattle.model.specs.Lists.{lookup}

-- document 01, "The two machines": a value is an i64, a cell number or an outside number (0 to 255). The numbers are not bounded here.
pub data Value : Type 0 where
  int : ℤ → Value
  cell : ℕ → Value
  outside : ℕ → Value

-- IDs with values: the source machine's environment, newest first, and the linear machine's ordered list
abbrev pub Entries : Type 0
Entries = List (VarId × Value)

abbrev pub keys : Entries → List VarId
keys l = map (λ (e : VarId × Value). e.0) l

abbrev pub values : Entries → List Value
values l = map (λ (e : VarId × Value). e.1) l

-- document 01: each Let (tag, values) and Create makes one. The cell of a Create holds entries and its clauses.
pub data Cell : Type 0 where
  xtor : (tag : Name) (fields : List Value) → Cell
  closure : Entries → Clauses → Cell

-- document 01: cells are numbered from 0. The number is the place in this list.
abbrev pub Cells : Type 0
Cells = List Cell

-- before the step of a statement, or after the step that ended the run at it
pub data State : Type 0 where
  at : Stmt → Entries → Cells → State
  ended : Stmt → Entries → Cells → State

-- document 01: events, one per step other than Substitute: kind, and Literal or Op its integer, IfC its branch, Let and Create the
-- cell (Let the tag), Switch and Invoke the cell and tag, Call the label. Invoke of an outside number shows it, the tag and argument values.
-- document 02, A.1: PrintI64 needs an integer and shows it with the newline byte; Exit shows its value, of whatever sort
pub data Event : Type 0 where
  Literal' : ℤ → Event
  Op' : ℤ → Event
  IfC' : (thenBranch : Bool) → Event
  Let' : (cell : ℕ) (tag : Name) → Event
  Create' : (cell : ℕ) → Event
  Switch' : (cell : ℕ) (tag : Name) → Event
  Invoke' : (cell : ℕ) (tag : Name) → Event
  Call' : (label : Name) → Event
  Outside' : (number : ℕ) (tag : Name) (args : List Value) → Event
  PrintI64' : (newline : Bool) → ℤ → Event
  Exit' : Value → Event

-- the next step with its event; the next step of a Substitute; no next step; no next step because of an ID
pub data Outcome : Type 0 where
  shows : Event → State → Outcome
  silent : State → Outcome
  halts : Outcome
  stops : Outcome

module _ {A : Type 0} where
  -- with what is there; without it there is no next step
  abbrev pub or_halt : Option A → (A → Outcome) → Outcome
  or_halt none k = halts
  or_halt (some a) k = k a

  -- the element at a place, from 0
  abbrev pub nth : ℕ → List A → Option A
  nth i [] = none
  nth zero (a ∷ l) = some a
  nth (suc i) (a ∷ l) = nth i l

-- IDs and as many values; nothing where the counts differ
abbrev pub and_first : VarId → Value → Option Entries → Option Entries
and_first x v none = none
and_first x v (some l) = some ((x, v) ∷ l)

abbrev pub pair_up : List VarId → List Value → Option Entries
pair_up [] [] = some []
pair_up [] (v ∷ vs) = none
pair_up (x ∷ xs) [] = none
pair_up (x ∷ xs) (v ∷ vs) = and_first x v (pair_up xs vs)

-- document 01: lookup of a label, or of a clause by tag, is by name, first found
abbrev pub find_def : Name → List Def → Option Def
find_def f [] = none
find_def f (d ∷ ds) = cond (same_name f d.name.name) (some d) (find_def f ds)

abbrev pub find_clause_lem : Name → Clauses → Option (Context × Stmt)
find_clause_lem tag end = none
find_clause_lem tag (clause c context body rest) = cond (same_name tag c.name) (some (context, body)) (find_clause_lem tag rest)

-- the integer that a value is
abbrev pub as_int : Value → Option ℤ
as_int (int z) = some z
as_int (cell i) = none
as_int (outside n) = none

-- document 01: IfC without snd compares with 0
abbrev pub second : Option Identifier → Entries → Option Value
second none l = some (int (pos 0))
second (some x) l = lookup x.id l

-- what a Switch finds: a cell of a Let, its number, tag and fields
abbrev pub as_xtor : ℕ → Option Cell → Option (ℕ × Name × List Value)
as_xtor i none = none
as_xtor i (some (xtor tag fields)) = some (i, tag, fields)
as_xtor i (some (closure l cs)) = none

abbrev pub matched : Cells → Value → Option (ℕ × Name × List Value)
matched K (int z) = none
matched K (cell i) = as_xtor i (nth i K)
matched K (outside n) = none

-- what an Invoke finds: an outside number, or a cell of a Create, its number, entries and clauses
pub data Target : Type 0 where
  out : ℕ → Target
  clo : ℕ → Entries → Clauses → Target

abbrev pub as_closure : ℕ → Option Cell → Option Target
as_closure i none = none
as_closure i (some (xtor tag fields)) = none
as_closure i (some (closure l cs)) = some (clo i l cs)

abbrev pub invoked : Cells → Value → Option Target
invoked K (int z) = none
invoked K (cell i) = as_closure i (nth i K)
invoked K (outside n) = some (out n)

-- the events and the state after exactly n steps; nothing where the run has fewer
abbrev pub first_shown : Event → Option (List Event × State) → Option (List Event × State)
first_shown e none = none
first_shown e (some r) = some (e ∷ r.0, r.1)

abbrev pub go_on_lem : Outcome → (State → Option (List Event × State)) → Option (List Event × State)
go_on_lem (shows e s) k = first_shown e (k s)
go_on_lem (silent s) k = k s
go_on_lem halts k = none
go_on_lem stops k = none

abbrev pub run : (State → Outcome) → ℕ → State → Option (List Event × State)
run step zero s = some ([], s)
run step (suc n) s = go_on_lem (step s) (run step n)

-- document 01: a start gives one integer or outside number for each parameter
pub data Given : Type 0 where
  integer : ℤ → Given
  outside_number : ℕ → Given

abbrev pub value : Given → Value
value (integer z) = int z
value (outside_number n) = outside n

-- a start: at the named definition's body; not begun (no such place, or another count); or stopped there because of an ID
pub data Start : Type 0 where
  begun : State → Start
  no_start : Start
  stopped : State → Start
