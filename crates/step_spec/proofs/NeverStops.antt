-- The source machine never stops: its stepper's stopped flag is never set. Assumes nothing.
use mathlib.Core.Path.{◌≡◌, refl}
use mathlib.Core.Bool.{false}
use mathlib.Core.List.{List}
use mathlib.Core.Option.{Option, none, some}
use Rattle.syntax.specs.Context.{ids}
use Rattle.syntax.specs.declared.names.Name.{Name}
use Rattle.model.specs.Syntax.{Stmt, Substitute, Call, Let, Switch, Create, Invoke, Literal, Op, IfC, PrintI64, Exit, Prog}
use Rattle.model.specs.Lists.{lookup, lookups}
use Rattle.model.specs.Integers.{eval_op}
use Rattle.model.specs.Machine.{Value, Entries, Cells, State, at, ended, Outcome, or_halt, pair_up, find_def, find_clause_lem, as_int, second, matched, Target, out, clo, invoked}
use Rattle.model.specs.Source.{source_enter_lem, source_work, source_step_lem}
use Rattle.step_spec.specs.Located.{is_stop}

pub or_goes : {A : Type 0} (o : Option A) (k : A → Outcome) → ((a : A) → is_stop (k a) ≡ false) → is_stop (or_halt o k) ≡ false
or_goes none k h = refl
or_goes (some a) k h = h a

enters : (end : State) (tag : Name) (args : List Value) (K : Cells) (t : Target) → is_stop (source_enter_lem end tag args K t) ≡ false
unfolding source_enter_lem
enters end tag args K (out n) = refl
enters end tag args K (clo i ε cs) = or_goes (find_clause_lem tag cs) _ λ c. or_goes (pair_up (ids c.0) args) _ λ new. refl

works : (P : Prog) (t : Stmt) (ε : Entries) (K : Cells) → is_stop (source_work P t ε K) ≡ false
unfolding source_work
works P (Substitute ps next) ε K = refl
works P (Call label args) ε K = or_goes (lookups (ids args) ε) _ λ vs. or_goes (find_def label.name P.defs) _ λ d. or_goes (pair_up (ids d.context) vs) _ λ l. refl
works P (Let var ty tag args next) ε K = or_goes (lookups (ids args) ε) _ λ vs. refl
works P (Switch var ty cs) ε K =
    or_goes (lookup var.id ε) _ λ v. or_goes (matched K v) _ λ x. or_goes (find_clause_lem x.1 cs) _ λ c. or_goes (pair_up (ids c.0) x.2) _ λ new. refl
works P (Create var ty env cs next) ε K = refl
works P (Invoke var tag ty args) ε K =
    or_goes (lookup var.id ε) _ λ v. or_goes (lookups (ids args) ε) _ λ vs. or_goes (invoked K v) _ λ t. enters (ended (Invoke var tag ty args) ε K) tag.name vs K t
works P (Literal lit var next) ε K = refl
works P (Op fst op snd var next) ε K =
    or_goes (lookup fst.id ε) _ λ a. or_goes (lookup snd.id ε) _ λ b. or_goes (as_int a) _ λ x. or_goes (as_int b) _ λ y. or_goes (eval_op op x y) _ λ z. refl
works P (IfC sort fst snd thenc elsec) ε K =
    or_goes (lookup fst.id ε) _ λ a. or_goes (second snd ε) _ λ b. or_goes (as_int a) _ λ x. or_goes (as_int b) _ λ y. refl
works P (PrintI64 newline var next) ε K = or_goes (lookup var.id ε) _ λ v. or_goes (as_int v) _ λ z. refl
works P (Exit var) ε K = or_goes (lookup var.id ε) _ λ v. refl

pub source-never-stops : (P : Prog) (s : State) → is_stop (source_step_lem P s) ≡ false
unfolding source_step_lem
source-never-stops P (at t ε K) = works P t ε K
source-never-stops P (ended t ε K) = refl
