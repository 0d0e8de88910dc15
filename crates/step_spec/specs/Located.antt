-- The state that a stepper keeps, and its steps: those of a machine of document 01, with places of records where the machine's state has statements
-- and clauses. One definition for both machines. (proofs/Projects.antt: steps and starts are exactly the machine's.)
use Rattle.std.specs.Prelude.{ℕ, zero, suc, ◌+◌, Bool, true, false, cond, List, [], ◌∷◌, ◌++◌, map, length, drop}
use Rattle.std.proofs.Math.Option.{Option, none, some}
use Rattle.syntax.specs.Names.{same_name}
use Rattle.syntax.specs.declared.names.Name.{Name}
use Rattle.model.specs.Syntax.{Stmt, Clauses, end, clause, Def, Prog}
use Rattle.model.specs.Machine.{Value, Entries, Cell, xtor, closure, Cells, State, at, ended, Event, Literal', Op', IfC', Let', Create', Switch', Invoke'}
use Rattle.model.specs.Machine.{Call', Outside', PrintI64', Exit', Outcome, shows, silent, halts, stops, nth, Given, Start, begun, no_start, stopped}
use Rattle.model.specs.Source.{source_step_lem, source_start}
use Rattle.model.specs.Linear.{linear_step_lem, linear_start}
use Rattle.image_spec.specs.Records.{Record}
use Rattle.image_spec.specs.Shape.{flatten, flatten_clauses, flatten_defs, max_depth}
use Rattle.image_places_spec.specs.Views.{clauses_in, bodies_of}
use Rattle.image_places_spec.specs.Places.{no_stmt, stmt_at}

-- document 01, "The two machines"
pub record Machine : Type 0 where
  pub step : Prog → State → Outcome
  pub start : Prog → ℕ → List Given → Start

abbrev pub source_machine : Machine
source_machine = record { step = source_step_lem; start = source_start }

abbrev pub linear_machine : Machine
linear_machine = record { step = linear_step_lem; start = linear_start }

-- ── the state ──

-- a cell: of a Let its tag and values, of a Create the place of its record, and its entries
pub data Kept : Type 0 where
  held : (tag : Name) (fields : List Value) → Kept
  made : (place : ℕ) (entries : Entries) → Kept

-- document 02, A.2: the state (position, environment, cells, an ended flag and a stopped flag). The position is the place of a statement's record
pub record Located : Type 0 where
  pub position : ℕ
  pub environment : Entries
  pub cells : List Kept
  pub has_ended : Bool
  pub has_stopped : Bool

-- ── the machine's state that it stands for ──

abbrev pub records_in : Prog → List Record
records_in P = flatten_defs P.defs

-- the statement whose record is at place i
abbrev pub stmt_in : Prog → ℕ → Stmt
stmt_in P i = stmt_at max_depth (records_in P) i

abbrev pub cell_in : Prog → Kept → Cell
cell_in P (held tag fields) = xtor tag fields
cell_in P (made i entries) = closure entries (clauses_in (stmt_in P i))

abbrev pub state_of : (has_ended : Bool) → Stmt → Entries → Cells → State
state_of false t ε K = at t ε K
state_of true t ε K = ended t ε K

unfoldable pub project : Prog → Located → State
project P l = state_of l.has_ended (stmt_in P l.position) l.environment (map (cell_in P) l.cells)

-- ── where the next statement stands ──

-- the bodies of the statement t whose record is at i begin behind its clauses
abbrev pub bodies_place : ℕ → Stmt → ℕ
bodies_place i t = i + 1 + length (flatten_clauses (clauses_in t))

abbrev pub first_of : List Stmt → Stmt
first_of [] = no_stmt
first_of (t ∷ ts) = t

-- .. and the second behind the first
abbrev pub second_place : ℕ → Stmt → ℕ
second_place i t = bodies_place i t + length (flatten (first_of (bodies_of t)))

-- the body of the clause with this tag, first found, where the clauses begin at i
unfoldable pub clause_place : Name → Clauses → ℕ → ℕ
clause_place tag end i = i
clause_place tag (clause c context body rest) i = cond (same_name tag c.name) (i + 1) (clause_place tag rest (i + 1 + length (flatten body)))

-- the body of the definition with this label, first found, where the definitions begin at i
unfoldable pub label_place : Name → List Def → ℕ → ℕ
label_place f [] i = i
label_place f (d ∷ ds) i = cond (same_name f d.name.name) (i + 1) (label_place f ds (i + 1 + length (flatten d.body)))

-- the body of the definition at a place among the definitions, where they begin at i
unfoldable pub definition_place : ℕ → List Def → ℕ → ℕ
definition_place n [] i = i
definition_place zero (d ∷ ds) i = i + 1
definition_place (suc n) (d ∷ ds) i = definition_place n ds (i + 1 + length (flatten d.body))

abbrev pub closure_place : Prog → Name → Option Kept → ℕ
closure_place P tag none = 0
closure_place P tag (some (held t fields)) = 0
closure_place P tag (some (made i entries)) = clause_place tag (clauses_in (stmt_in P i)) (i + 1)

-- after the step that showed this (or was a Substitute's, and showed nothing). The event says which way the step went: document 01: IfC its branch,
-- Switch and Invoke the cell and tag, Call the label
unfoldable pub next_place_lem : Prog → Located → Option Event → ℕ
next_place_lem P l none = bodies_place l.position (stmt_in P l.position)
next_place_lem P l (some (Literal' z)) = bodies_place l.position (stmt_in P l.position)
next_place_lem P l (some (Op' z)) = bodies_place l.position (stmt_in P l.position)
next_place_lem P l (some (IfC' b)) = cond b (bodies_place l.position (stmt_in P l.position)) (second_place l.position (stmt_in P l.position))
next_place_lem P l (some (Let' k tag)) = bodies_place l.position (stmt_in P l.position)
next_place_lem P l (some (Create' k)) = bodies_place l.position (stmt_in P l.position)
next_place_lem P l (some (Switch' k tag)) = clause_place tag (clauses_in (stmt_in P l.position)) (l.position + 1)
next_place_lem P l (some (Invoke' k tag)) = closure_place P tag (nth k l.cells)
next_place_lem P l (some (Call' f)) = label_place f P.defs 0
next_place_lem P l (some (Outside' n tag args)) = l.position
next_place_lem P l (some (PrintI64' newline z)) = bodies_place l.position (stmt_in P l.position)
next_place_lem P l (some (Exit' v)) = l.position

-- ── steps ──

abbrev pub entries_of : State → Entries
entries_of (at t ε K) = ε
entries_of (ended t ε K) = ε

abbrev pub cells_of : State → Cells
cells_of (at t ε K) = K
cells_of (ended t ε K) = K

abbrev pub is_ended_lem : State → Bool
is_ended_lem (at t ε K) = false
is_ended_lem (ended t ε K) = true

abbrev pub is_stop : Outcome → Bool
is_stop (shows e s) = false
is_stop (silent s) = false
is_stop halts = false
is_stop stops = true

-- a cell that the step of the statement at place i made
abbrev pub keep : ℕ → Cell → Kept
keep i (xtor tag fields) = held tag fields
keep i (closure entries cs) = made i entries

-- after a step: the machine's environment, and the cells with those that it made
-- document 02, A.2: the ended flag is set by the step that ends the run, the stopped flag by the step or start after which the machine stops
unfoldable pub moved : Machine → Prog → Located → Option Event → State → Located
moved M P l e s = record {
  position = next_place_lem P l e;
  environment = entries_of s;
  cells = l.cells ++ map (keep l.position) (drop (length l.cells) (cells_of s));
  has_ended = is_ended_lem s;
  has_stopped = is_stop (M.step P s);
}

-- a step: what it showed, and the state after it
abbrev pub Stepped : Type 0
Stepped = Option Event × Located

abbrev pub follow : Machine → Prog → Located → Outcome → Option Stepped
follow M P l (shows e s) = some (some e, moved M P l (some e) s)
follow M P l (silent s) = some (none, moved M P l none s)
follow M P l halts = none
follow M P l stops = none

-- document 01: to stop is to have no next step because of an ID
abbrev pub unless_stopped : Bool → Option Stepped → Option Stepped
unless_stopped true o = none
unless_stopped false o = o

unfoldable pub located_step : Machine → Prog → Located → Option Stepped
located_step M P l = unless_stopped l.has_stopped (follow M P l (M.step P (project P l)))

-- ── starts ──

abbrev pub start_state : Prog → ℕ → Bool → State → Located
start_state P n f s = record { position = definition_place n P.defs 0; environment = entries_of s; cells = []; has_ended = false; has_stopped = f }

abbrev pub start_of : Machine → Prog → ℕ → Start → Option Located
start_of M P n (begun s) = some (start_state P n (is_stop (M.step P s)) s)
start_of M P n no_start = none
start_of M P n (stopped s) = some (start_state P n true s)

unfoldable pub located_start : Machine → Prog → ℕ → List Given → Option Located
located_start M P n vs = start_of M P n (M.start P n vs)
