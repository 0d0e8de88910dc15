-- The source machine. document 01, "The two machines": Source machine: an environment by ID.
use Rattle.std.specs.Prelude.{ℕ, cond, List, [], ◌∷◌, ◌++◌, map, length}
use Rattle.std.proofs.Math.Option.{Option, none, some}
use Rattle.syntax.specs.Context.{ids}
use Rattle.syntax.specs.declared.names.Name.{Name}
use Rattle.model.specs.Syntax.{Stmt, Substitute, Call, Let, Switch, Create, Invoke, Literal, Op, IfC, PrintI64, Exit, Def, Prog}
use Rattle.model.specs.Lists.{lookup, lookups}
use Rattle.model.specs.Integers.{eval_op, holds}
use Rattle.model.specs.Machine.{Value, int, cell, Entries, Cells, xtor, closure, State, at, ended, Literal', Op', IfC', PrintI64', Exit', Let', Create'}
use Rattle.model.specs.Machine.{Switch', Invoke', Call', Outside', Outcome, shows, halts, or_halt, nth, pair_up, find_def, find_clause_lem, as_int, second}
use Rattle.model.specs.Machine.{matched, Target, out, clo, invoked, Given, value, Start, begun, no_start}

-- Invoke runs the clause in it with the parameters added; of an outside number shows it, the tag and argument values, and ends the run
unfoldable pub source_enter_lem : (end : State) (tag : Name) (args : List Value) → Cells → Target → Outcome
source_enter_lem end tag args K (out n) = shows (Outside' n tag args) end
source_enter_lem end tag args K (clo i ε cs) =
    or_halt (find_clause_lem tag cs) λ c.
    or_halt (pair_up (ids c.0) args) λ new.
    shows (Invoke' i tag) (at c.1 (new ++ ε) K)

-- document 01: a wrong sort of value, a wrong count, an absent variable, a missing label or clause, or a statement without a rule:
-- no next step
unfoldable pub source_work : Prog → Stmt → Entries → Cells → Outcome
-- a statement without a rule
source_work P (Substitute ps next) ε K = halts
-- Call has the parameters only
source_work P (Call label args) ε K =
    or_halt (lookups (ids args) ε) λ vs.
    or_halt (find_def label.name P.defs) λ d.
    or_halt (pair_up (ids d.context) vs) λ ε'.
    shows (Call' label.name) (at d.body ε' K)
-- Let, Create, Literal and Op add var, Switch the fields under the clause's names; all else stays
source_work P (Let var ty tag args next) ε K =
    or_halt (lookups (ids args) ε) λ vs.
    shows (Let' (length K) tag.name) (at next ((var.id, cell (length K)) ∷ ε) (K ++ (xtor tag.name vs ∷ [])))
source_work P (Switch var ty cs) ε K =
    or_halt (lookup var.id ε) λ v.
    or_halt (matched K v) λ x.
    or_halt (find_clause_lem x.1 cs) λ c.
    or_halt (pair_up (ids c.0) x.2) λ new.
    shows (Switch' x.0 x.1) (at c.1 (new ++ ε) K)
-- Create's cell holds it whole, before var is added
source_work P (Create var ty env cs next) ε K =
    shows (Create' (length K)) (at next ((var.id, cell (length K)) ∷ ε) (K ++ (closure ε cs ∷ [])))
source_work P (Invoke var tag ty args) ε K =
    or_halt (lookup var.id ε) λ v.
    or_halt (lookups (ids args) ε) λ vs.
    or_halt (invoked K v) λ t.
    source_enter_lem (ended (Invoke var tag ty args) ε K) tag.name vs K t
source_work P (Literal lit var next) ε K = shows (Literal' lit) (at next ((var.id, int lit) ∷ ε) K)
-- Op and IfC only read
source_work P (Op fst op snd var next) ε K =
    or_halt (lookup fst.id ε) λ a.
    or_halt (lookup snd.id ε) λ b.
    or_halt (as_int a) λ x.
    or_halt (as_int b) λ y.
    or_halt (eval_op op x y) λ z.
    shows (Op' z) (at next ((var.id, int z) ∷ ε) K)
source_work P (IfC sort fst snd thenc elsec) ε K =
    or_halt (lookup fst.id ε) λ a.
    or_halt (second snd ε) λ b.
    or_halt (as_int a) λ x.
    or_halt (as_int b) λ y.
    shows (IfC' (holds sort x y)) (at (cond (holds sort x y) thenc elsec) ε K)
-- document 02, A.1: PrintI64 needs an integer, reads it and shows it with the newline byte
source_work P (PrintI64 newline var next) ε K =
    or_halt (lookup var.id ε) λ v.
    or_halt (as_int v) λ z.
    shows (PrintI64' newline z) (at next ε K)
-- document 02, A.1: Exit shows its value, of whatever sort, and ends the run, whatever else the environment holds
source_work P (Exit var) ε K =
    or_halt (lookup var.id ε) λ v.
    shows (Exit' v) (ended (Exit var) ε K)

-- the source machine's step
unfoldable pub source_step_lem : Prog → State → Outcome
source_step_lem P (at s ε K) = source_work P s ε K
source_step_lem P (ended s ε K) = halts

-- document 01: a start names a definition by its place among the definitions, from 0
abbrev pub source_begun : Stmt → Option Entries → Start
source_begun body none = no_start
source_begun body (some ε) = begun (at body ε [])

abbrev pub source_start_at : Option Def → List Given → Start
source_start_at none vs = no_start
source_start_at (some d) vs = source_begun d.body (pair_up (ids d.context) (map value vs))

unfoldable pub source_start : Prog → ℕ → List Given → Start
source_start P place vs = source_start_at (nth place P.defs) vs
