-- The linear machine. document 01, "The two machines": Linear machine: an ordered list of ID and value.
use Rattle.std.specs.Prelude.{ℕ, ◌-◌, Bool, true, false, ◌&&◌, cond, List, [], ◌∷◌, ◌++◌, map, length, take, drop}
use Rattle.std.proofs.Math.Option.{Option, none, some}
use Rattle.syntax.specs.Names.{same_var_id}
use Rattle.syntax.specs.Sets.{elem, distinct}
use Rattle.syntax.specs.Context.{ids}
use Rattle.syntax.specs.declared.names.Name.{Name}
use Rattle.syntax.specs.declared.names.VarId.{VarId}
use Rattle.syntax.specs.declared.names.Identifier.{Identifier}
use Rattle.syntax.specs.declared.context.ContextBinding.{ContextBinding}
use Rattle.model.specs.Syntax.{Stmt, Substitute, Call, Let, Switch, Create, Invoke, Literal, Op, IfC, PrintI64, Exit, Def, Prog}
use Rattle.model.specs.Lists.{every, lookup, lookups, zip}
use Rattle.model.specs.FreeVars.{optional_id}
use Rattle.model.specs.Integers.{eval_op, holds}
use Rattle.model.specs.Machine.{Value, int, cell, Entries, keys, values, Cells, xtor, closure, State, at, ended, Event, Literal', Op', IfC', PrintI64', Exit'}
use Rattle.model.specs.Machine.{Let', Create', Switch', Invoke', Call', Outside', Outcome, shows, silent, halts, stops, or_halt, nth, pair_up, find_def}
use Rattle.model.specs.Machine.{find_clause_lem, as_int, second, matched, Target, out, clo, invoked, Given, value, Start, begun, no_start, stopped}

module _ {A : Type 0} where
  -- the last k, and what stands before them
  abbrev pub last_of : ℕ → List A → List A
  last_of k l = drop (length l - k) l

  abbrev pub before_last : ℕ → List A → List A
  before_last k l = take (length l - k) l

  -- the first of a list, if it has one
  abbrev pub first : List A → Option A
  first [] = none
  first (a ∷ l) = some a

-- ── the rules on IDs ──

abbrev pub same_ids : List VarId → List VarId → Bool
same_ids [] [] = true
same_ids [] (y ∷ t) = false
same_ids (x ∷ s) [] = false
same_ids (x ∷ s) (y ∷ t) = same_var_id x y && same_ids s t

-- are these the last of the list?
abbrev pub ends_in_lem : List VarId → List VarId → Bool
ends_in_lem xs l = same_ids (last_of (length xs) l) xs

-- are they all in the list?
abbrev pub present : List VarId → List VarId → Bool
present xs l = every (λ (x : VarId). elem x l) xs

-- the IDs that a Substitute gives, and those that it takes the values from
abbrev pub targets : List (ContextBinding × Identifier) → List VarId
targets ps = map (λ (p : ContextBinding × Identifier). p.0.var.id) ps

abbrev pub sources : List (ContextBinding × Identifier) → List VarId
sources ps = map (λ (p : ContextBinding × Identifier). p.1.id) ps

-- document 01: to stop is to have no next step because of an ID; this goes before a wrong sort of value. Are the IDs that the
-- statement itself shows in order, where the list has the IDs l?
unfoldable pub in_order_lem : Stmt → (l : List VarId) → Bool
-- repeated targets or an absent source stop
in_order_lem (Substitute ps next) l = distinct (targets ps) && present (sources ps) l
-- args of Call and Invoke aren't read
in_order_lem (Call label args) l = true
-- Let consumes the last entries, whose IDs must be its args; .. as does any step that would leave an ID twice
in_order_lem (Let var ty tag args next) l = ends_in_lem (ids args) l && distinct (before_last (length args) l ++ (var.id ∷ []))
-- Switch consumes the last, which must be var
in_order_lem (Switch var ty cs) l = ends_in_lem (var.id ∷ []) l
-- Create consumes the last, which must be its environment (without one it stops)
in_order_lem (Create var ty none cs next) l = false
in_order_lem (Create var ty (some env) cs next) l = ends_in_lem (ids env) l && distinct (before_last (length env) l ++ (var.id ∷ []))
-- Invoke's last must be var
in_order_lem (Invoke var tag ty args) l = ends_in_lem (var.id ∷ []) l
in_order_lem (Literal lit var next) l = distinct (l ++ (var.id ∷ []))
in_order_lem (Op fst op snd var next) l = present (fst.id ∷ snd.id ∷ []) l && distinct (l ++ (var.id ∷ []))
in_order_lem (IfC sort fst snd thenc elsec) l = present (fst.id ∷ optional_id snd) l
-- document 02, A.1: PrintI64 .. reads it ..; Exit .. whatever else the environment holds. The var is there, and need not be last
in_order_lem (PrintI64 newline var next) l = present (var.id ∷ []) l
in_order_lem (Exit var) l = present (var.id ∷ []) l

abbrev pub stop_unless : Bool → Outcome → Outcome
stop_unless true o = o
stop_unless false o = stops

-- document 01: .. but IDs that a clause or definition brings count only once it is found and the counts agree
abbrev pub shows_unless_twice : Event → Stmt → Entries → Cells → Outcome
shows_unless_twice e s l K = stop_unless (distinct (keys l)) (shows e (at s l K))

-- ── the steps, of statements whose IDs are in order ──

-- the value of the last entry
abbrev pub last_value_lem : Entries → Option Value
last_value_lem l = first (values (last_of 1 l))

-- the entries of a Create's environment; it has one
abbrev pub size_of : {A : Type 0} → Option (List A) → ℕ
size_of none = 0
size_of (some Γ) = length Γ

-- the rest become the clause's parameters, followed by the closure's entries
unfoldable pub linear_enter_lem : (end : State) (tag : Name) (args : List Value) → Cells → Target → Outcome
linear_enter_lem end tag args K (out n) = shows (Outside' n tag args) end
linear_enter_lem end tag args K (clo i l cs) =
    or_halt (find_clause_lem tag cs) λ c.
    or_halt (pair_up (ids c.0) args) λ new.
    shows_unless_twice (Invoke' i tag) c.1 (new ++ l) K

unfoldable pub linear_work : Prog → Stmt → Entries → Cells → Outcome
-- Substitute rebuilds it from its pairs
linear_work P (Substitute ps next) l K =
    or_halt (lookups (sources ps) l) λ vs.
    silent (at next (zip (targets ps) vs) K)
-- Call renames all
linear_work P (Call label args) l K =
    or_halt (find_def label.name P.defs) λ d.
    or_halt (pair_up (ids d.context) (values l)) λ l'.
    shows_unless_twice (Call' label.name) d.body l' K
-- Let consumes the last entries, and appends var
linear_work P (Let var ty tag args next) l K =
    shows (Let' (length K) tag.name)
    (at next (before_last (length args) l ++ ((var.id, cell (length K)) ∷ [])) (K ++ (xtor tag.name (values (last_of (length args) l)) ∷ [])))
-- Switch consumes the last, and appends the fields under the clause's names
linear_work P (Switch var ty cs) l K =
    or_halt (last_value_lem l) λ v.
    or_halt (matched K v) λ x.
    or_halt (find_clause_lem x.1 cs) λ c.
    or_halt (pair_up (ids c.0) x.2) λ new.
    shows_unless_twice (Switch' x.0 x.1) c.1 (before_last 1 l ++ new) K
-- Create consumes the last, and appends var
linear_work P (Create var ty environment cs next) l K =
    shows (Create' (length K))
    (at next (before_last (size_of environment) l ++ ((var.id, cell (length K)) ∷ [])) (K ++ (closure (last_of (size_of environment) l) cs ∷ [])))
-- Invoke: the rest become the clause's parameters
linear_work P (Invoke var tag ty args) l K =
    or_halt (last_value_lem l) λ v.
    or_halt (invoked K v) λ t.
    linear_enter_lem (ended (Invoke var tag ty args) l K) tag.name (values (before_last 1 l)) K t
-- Literal and Op append; Op and IfC only read
linear_work P (Literal lit var next) l K = shows (Literal' lit) (at next (l ++ ((var.id, int lit) ∷ [])) K)
linear_work P (Op fst op snd var next) l K =
    or_halt (lookup fst.id l) λ a.
    or_halt (lookup snd.id l) λ b.
    or_halt (as_int a) λ x.
    or_halt (as_int b) λ y.
    or_halt (eval_op op x y) λ z.
    shows (Op' z) (at next (l ++ ((var.id, int z) ∷ [])) K)
linear_work P (IfC sort fst snd thenc elsec) l K =
    or_halt (lookup fst.id l) λ a.
    or_halt (second snd l) λ b.
    or_halt (as_int a) λ x.
    or_halt (as_int b) λ y.
    shows (IfC' (holds sort x y)) (at (cond (holds sort x y) thenc elsec) l K)
-- document 02, A.1: in both machines PrintI64 needs an integer, reads it and shows it with the newline byte; Exit shows its value, of
-- whatever sort, and ends the run
linear_work P (PrintI64 newline var next) l K =
    or_halt (lookup var.id l) λ v.
    or_halt (as_int v) λ z.
    shows (PrintI64' newline z) (at next l K)
linear_work P (Exit var) l K =
    or_halt (lookup var.id l) λ v.
    shows (Exit' v) (ended (Exit var) l K)

-- the linear machine's step
unfoldable pub linear_step_lem : Prog → State → Outcome
linear_step_lem P (at s l K) = stop_unless (in_order_lem s (keys l)) (linear_work P s l K)
linear_step_lem P (ended s l K) = halts

-- document 01: a start whose parameters repeat an ID has stopped with no step made
abbrev pub stopped_if_twice : Bool → State → Start
stopped_if_twice true s = begun s
stopped_if_twice false s = stopped s

abbrev pub linear_begun : Stmt → Option Entries → Start
linear_begun body none = no_start
linear_begun body (some l) = stopped_if_twice (distinct (keys l)) (at body l [])

abbrev pub linear_start_at : Option Def → List Given → Start
linear_start_at none vs = no_start
linear_start_at (some d) vs = linear_begun d.body (pair_up (ids d.context) (map value vs))

unfoldable pub linear_start : Prog → ℕ → List Given → Start
linear_start P place vs = linear_start_at (nth place P.defs) vs
