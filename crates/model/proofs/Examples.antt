-- The definitions do something: accepted programs run on both machines, the source copied for the output stops, what PrintI64 and Exit show
-- and where they have no next step, programs that a question refuses, and Op's edges; all by computation. Assumes nothing.
use Prim.Native.Nat.{ℕ, ◌^◌, ◌-◌}
use mathlib.Core.Path.{◌≡◌, refl}
use mathlib.Core.Bool.{Bool, true, false}
use mathlib.Core.List.{List, [], ◌∷◌}
use mathlib.Core.Option.{Option, none, some}
use lib.IntN.{ℤ, pos, negsuc}
use Rattle.syntax.specs.Filter.{retained, fill, filtered}
use Rattle.syntax.specs.Fresh.{fresh, freshen}
use Rattle.syntax.specs.Rows.{All, done, ◌&◌}
use Rattle.syntax.specs.declared.names.Name.{Name}
use Rattle.syntax.specs.declared.names.Identifier.{Identifier}
use Rattle.syntax.specs.declared.types.Ty.{Ty}
use Rattle.syntax.specs.declared.types.Ty.TheVariants.{I64, Decl}
use Rattle.syntax.specs.declared.context.Chirality.TheVariants.{Cns, Ext}
use Rattle.syntax.specs.declared.context.ContextBinding.{ContextBinding}
use Rattle.syntax.specs.declared.op.BinOp.{BinOp}
use Rattle.syntax.specs.declared.op.BinOp.TheVariants.{Div, Prod, Rem, Sum, Sub}
use Rattle.syntax.specs.declared.ifc.IfSort.TheVariants.{Equal}
use Rattle.model.specs.Syntax.{Stmt, Substitute, Call, Let, Switch, Create, Invoke, Literal, Op, IfC, PrintI64, Exit, end, clause, Prog}
use Rattle.model.specs.Sizes.{records, depth}
use Rattle.model.specs.FreeVars.{free_vars}
use Rattle.model.specs.Renaming.{rename_unless}
use Rattle.model.specs.Rules.{bind, arrange, freshen_unless_lem, fresh_var_unless, move_behind_lem}
use Rattle.model.specs.Pass.{linearize_stmt, linearize_defs, linearize}
use Rattle.model.specs.Rows.{identifier}
use Rattle.model.specs.Integers.{wrap, eval_op, holds}
use Rattle.model.specs.Machine.{Value, int, cell, outside, Entries, State, at, ended, Event, Literal', Op', IfC', PrintI64', Exit', Let', Create', Switch'}
use Rattle.model.specs.Machine.{Invoke', Outside', Call', Outcome, shows, halts, stops, run, Given, integer, outside_number, Start, begun, no_start, stopped}
use Rattle.model.specs.Source.{source_step_lem, source_work, source_enter_lem, source_start}
use Rattle.model.specs.Linear.{linear_step_lem, in_order_lem, linear_work, linear_enter_lem, linear_start}
use Rattle.model.specs.Questions.{asked, question6, question8, question9, question10, question11, Accepted}

-- ── runs ──

abbrev name : ℕ → Name
name n = record { 0 = n }

-- a variable, and a label or tag
abbrev v : ℕ → Identifier
v i = identifier 0 i

abbrev named : ℕ → Identifier
named n = identifier n 0

abbrev T : Ty
T = Decl (named 9)

abbrev e : ℕ → ContextBinding
e i = bind (v i) Ext I64

abbrev c : ℕ → ContextBinding
c i = bind (v i) Cns T

-- main(1, 11): create 2 = { K(3, 4) ⇒ 5 ← 3 + 1; invoke 4 R(5) }; lit 6 ← 7; let 8 = Pair(6, 6);
-- switch 8 { Pair(9, 10) ⇒ if 9 == 10 { invoke 2 K(9, 11) } else { main(9, 11) } }
abbrev pub closures : Prog
closures = record {
  max_id = 11;
  defs = record {
    name = named 1;
    context = e 1 ∷ c 11 ∷ [];
    body =
        Create (v 2) T none
        (clause (named 2) (e 3 ∷ c 4 ∷ []) (Op (v 3) Sum (v 1) (v 5) (Invoke (v 4) (named 4) T (e 5 ∷ []))) end)
        (Literal (pos 7) (v 6)
        (Let (v 8) T (named 3) (e 6 ∷ e 6 ∷ [])
        (Switch (v 8) T (clause (named 3) (e 9 ∷ e 10 ∷ [])
        (IfC Equal (v 9) (some (v 10)) (Invoke (v 2) (named 2) T (e 9 ∷ c 11 ∷ [])) (Call (named 1) (e 9 ∷ c 11 ∷ []))) end))));
  } ∷ [];
}

-- count(1, 4): if 1 == 0 { invoke 4 R() } else { lit 2 ← 1; 3 ← 1 - 2; count(3, 4) }
abbrev pub countdown : Prog
countdown = record {
  max_id = 4;
  defs = record {
    name = named 1;
    context = e 1 ∷ c 4 ∷ [];
    body =
        IfC Equal (v 1) none (Invoke (v 4) (named 4) T [])
        (Literal (pos 1) (v 2) (Op (v 1) Sub (v 2) (v 3) (Call (named 1) (e 3 ∷ c 4 ∷ []))));
  } ∷ [];
}

-- report(1, 2): print 1; lit 3 ← 8; println 3; exit 1
abbrev pub printing : Prog
printing = record {
  max_id = 3;
  defs = record { name = named 1; context = e 1 ∷ e 2 ∷ []; body = PrintI64 false (v 1) (Literal (pos 8) (v 3) (PrintI64 true (v 3) (Exit (v 1)))) } ∷ [];
}

-- pair(1): let 2 = Pair(1); exit 2: the value is a cell
abbrev pub leaving : Prog
leaving = record { max_id = 2; defs = record { name = named 1; context = e 1 ∷ []; body = Let (v 2) T (named 3) (e 1 ∷ []) (Exit (v 2)) } ∷ [] }

-- all are accepted
pub examples-accepted : All Accepted (closures ∷ countdown ∷ printing ∷ leaving ∷ [])
unfolding asked records depth fresh freshen retained fill filtered arrange freshen_unless_lem rename_unless fresh_var_unless move_behind_lem linearize_stmt free_vars linearize_defs linearize
examples-accepted =
    record { six = refl; seven = refl; eight = refl; nine = refl; ten = refl; eleven = refl }
    & record { six = refl; seven = refl; eight = refl; nine = refl; ten = refl; eleven = refl }
    & record { six = refl; seven = refl; eight = refl; nine = refl; ten = refl; eleven = refl }
    & record { six = refl; seven = refl; eight = refl; nine = refl; ten = refl; eleven = refl }
    & done

abbrev shown : Option (List Event × State) → Option (List Event)
shown none = none
shown (some r) = some r.0

abbrev run_from : (State → Outcome) → ℕ → Start → Option (List Event)
run_from step n (begun s) = shown (run step n s)
run_from step n no_start = none
run_from step n (stopped s) = none

-- a program begun at its first definition shows the events in n source steps, and in m linear steps
pub data Example : Type 0 where
  runs : (P : Prog) (given : List Given) (n m : ℕ) (events : List Event) → Example

abbrev pub ExampleClaim : Example → Type 0
ExampleClaim (runs P vs n m es) =
    ◌≡◌ {A = Option (List Event) × Option (List Event)}
    (run_from (source_step_lem P) n (source_start P 0 vs), run_from (linear_step_lem (linearize P)) m (linear_start (linearize P) 0 vs))
    (some es, some es)

abbrev pub examples : List Example
examples =
    runs closures (integer (pos 5) ∷ outside_number 3 ∷ []) 8 12
    (Create' 0 ∷ Literal' (pos 7) ∷ Let' 1 (name 3) ∷ Switch' 1 (name 3) ∷ IfC' true ∷ Invoke' 0 (name 2)
    ∷ Op' (pos 12) ∷ Outside' 3 (name 4) (int (pos 12) ∷ []) ∷ [])
    ∷ runs countdown (integer (pos 2) ∷ outside_number 0 ∷ []) 10 13
    (IfC' false ∷ Literal' (pos 1) ∷ Op' (pos 1) ∷ Call' (name 1) ∷ IfC' false ∷ Literal' (pos 1) ∷ Op' (pos 0) ∷ Call' (name 1)
    ∷ IfC' true ∷ Outside' 0 (name 4) [] ∷ [])
    ∷ runs printing (integer (pos 7) ∷ integer (pos 9) ∷ []) 4 5 (PrintI64' false (pos 7) ∷ Literal' (pos 8) ∷ PrintI64' true (pos 8) ∷ Exit' (int (pos 7)) ∷ [])
    ∷ runs leaving (outside_number 3 ∷ []) 2 2 (Let' 0 (name 3) ∷ Exit' (cell 0) ∷ [])
    ∷ []

pub examples-run : All ExampleClaim examples
unfolding source_start source_step_lem source_work source_enter_lem eval_op holds wrap linear_start linear_step_lem in_order_lem linear_work
    linear_enter_lem fresh freshen retained fill filtered arrange freshen_unless_lem rename_unless fresh_var_unless move_behind_lem linearize_stmt
    free_vars linearize_defs linearize
examples-run = refl & refl & refl & refl & done

-- the source copied for the output: the linear machine stops at once
abbrev step_from : (State → Outcome) → Start → Outcome
step_from step (begun s) = step s
step_from step no_start = halts
step_from step (stopped s) = stops

pub copied-stops : step_from (linear_step_lem closures) (linear_start closures 0 (integer (pos 5) ∷ outside_number 3 ∷ [])) ≡ stops
unfolding linear_start linear_step_lem in_order_lem linear_work
copied-stops = refl

-- ── PrintI64 and Exit, step by step: a statement, the entries of either machine, and what each does ──

pub data Meeting : Type 0 where
  meets : (s : Stmt) (l : Entries) (source linear : Outcome) → Meeting

abbrev pub MeetingClaim : Meeting → Type 0
MeetingClaim (meets s l a b) = ◌≡◌ {A = Outcome × Outcome} (source_step_lem printing (at s l []), linear_step_lem printing (at s l [])) (a, b)

abbrev both : Value → Entries
both x = ((v 1).id, x) ∷ ((v 2).id, int (pos 9)) ∷ []

abbrev pub meetings : List Meeting
meetings =
    -- an integer is shown with the newline byte; everything stays; the var need not be last
    meets (PrintI64 true (v 1) (Exit (v 2))) (both (int (pos 7)))
    (shows (PrintI64' true (pos 7)) (at (Exit (v 2)) (both (int (pos 7))) [])) (shows (PrintI64' true (pos 7)) (at (Exit (v 2)) (both (int (pos 7))) []))
    -- a wrong sort of value has no next step, and an absent var stops the linear machine
    ∷ meets (PrintI64 true (v 1) (Exit (v 2))) (both (cell 0)) halts halts
    ∷ meets (PrintI64 true (v 3) (Exit (v 2))) (both (cell 0)) halts stops
    -- Exit shows a value of whatever sort and ends the run, whatever else there is
    ∷ meets (Exit (v 1)) (both (outside 3)) (shows (Exit' (outside 3)) (ended (Exit (v 1)) (both (outside 3)) [])) (shows (Exit' (outside 3)) (ended (Exit (v 1)) (both (outside 3)) []))
    ∷ meets (Exit (v 1)) (both (cell 0)) (shows (Exit' (cell 0)) (ended (Exit (v 1)) (both (cell 0)) [])) (shows (Exit' (cell 0)) (ended (Exit (v 1)) (both (cell 0)) []))
    ∷ meets (Exit (v 3)) (both (cell 0)) halts stops
    ∷ []

pub meetings_hold : All MeetingClaim meetings
unfolding source_step_lem source_work linear_step_lem in_order_lem linear_work
meetings_hold = refl & refl & refl & refl & refl & refl & done

-- ── questions 6 to 11: programs with a no ──

abbrev one : Stmt → ℕ → Prog
one s m = record { max_id = m; defs = record { name = named 1; context = e 1 ∷ []; body = s } ∷ [] }

-- the answers of a program to the questions 6 to 11, but for 7
abbrev pub answers : Prog → List Bool
answers P = question6 P ∷ question8 P ∷ question9 P ∷ question10 P ∷ question11 P ∷ []

pub data Asked : Type 0 where
  says : (P : Prog) → List Bool → Asked

abbrev pub AskedClaim : Asked → Type 0
AskedClaim (says P bs) = answers P ≡ bs

abbrev pub asking : List Asked
asking =
    -- all yes, at the largest max_id that no draw follows, and a no to 11 with one draw
    says (one (Call (named 1) (e 1 ∷ [])) 65535) (true ∷ true ∷ true ∷ true ∷ true ∷ [])
    ∷ says (one (Call (named 1) (e 1 ∷ e 1 ∷ [])) 65535) (true ∷ true ∷ true ∷ true ∷ false ∷ [])
    -- a Substitute, and an environment
    ∷ says (one (Substitute ((e 1, v 1) ∷ []) (Call (named 1) (e 1 ∷ []))) 1) (false ∷ true ∷ true ∷ true ∷ true ∷ [])
    ∷ says (one (Create (v 2) T (some []) end (Call (named 1) (e 1 ∷ []))) 2) (false ∷ true ∷ true ∷ true ∷ true ∷ [])
    -- a binder takes the ID of a binding that is not used any more: nothing is ever dropped from scope
    ∷ says (one (Literal (pos 7) (v 1) (Call (named 1) (e 1 ∷ []))) 1) (true ∷ false ∷ true ∷ true ∷ true ∷ [])
    -- Create's var is not in scope in its clauses: a parameter may take its ID, and a use of it there is out of scope
    ∷ says (one (Create (v 2) T none (clause (named 2) (e 2 ∷ []) (Call (named 1) (e 2 ∷ [])) end) (Call (named 1) (e 1 ∷ []))) 2) (true ∷ true ∷ true ∷ true ∷ true ∷ [])
    ∷ says (one (Create (v 2) T none (clause (named 2) [] (Call (named 1) (c 2 ∷ [])) end) (Call (named 1) (e 1 ∷ []))) 2) (true ∷ true ∷ false ∷ true ∷ true ∷ [])
    -- the var of a PrintI64 or an Exit out of scope
    ∷ says (one (PrintI64 false (v 2) (Exit (v 1))) 2) (true ∷ true ∷ false ∷ true ∷ true ∷ [])
    ∷ says (one (PrintI64 true (v 1) (Exit (v 2))) 2) (true ∷ true ∷ false ∷ true ∷ true ∷ [])
    -- a max_id below a binder's ID
    ∷ says (one (Literal (pos 7) (v 2) (Call (named 1) (e 2 ∷ []))) 1) (true ∷ true ∷ true ∷ false ∷ true ∷ [])
    ∷ []

pub asking_holds : All AskedClaim asking
unfolding asked fresh freshen retained fill filtered arrange freshen_unless_lem rename_unless fresh_var_unless move_behind_lem linearize_stmt free_vars linearize_defs linearize
asking_holds = refl & refl & refl & refl & refl & refl & refl & refl & refl & refl & done

-- ── Op's edges: wrapping, rounding, the dividend's sign, and the divisions without a next step ──

abbrev least : ℤ
least = negsuc (2 ^ 63 - 1)

abbrev most : ℤ
most = pos (2 ^ 63 - 1)

pub data Edge : Type 0 where
  gives : (op : BinOp) (a b : ℤ) (result : Option ℤ) → Edge

abbrev pub EdgeClaim : Edge → Type 0
EdgeClaim (gives op a b r) = eval_op op a b ≡ r

abbrev pub edges : List Edge
edges =
    gives Sum most (pos 1) (some least)
    ∷ gives Sub least (pos 1) (some most)
    ∷ gives Prod least (negsuc 0) (some least)
    ∷ gives Prod (pos (2 ^ 32)) (pos (2 ^ 32)) (some (pos 0))
    ∷ gives Div (negsuc 6) (pos 2) (some (negsuc 2))
    ∷ gives Rem (negsuc 6) (pos 2) (some (negsuc 0))
    ∷ gives Rem (pos 7) (negsuc 1) (some (pos 1))
    ∷ gives Div (pos 1) (pos 0) none
    ∷ gives Rem (pos 1) (pos 0) none
    ∷ gives Div least (negsuc 0) none
    ∷ gives Rem least (negsuc 0) none
    ∷ []

pub edges_hold : All EdgeClaim edges
unfolding eval_op wrap
edges_hold = refl & refl & refl & refl & refl & refl & refl & refl & refl & refl & refl & done
