-- The stepper follows the linear machine: one case for each statement. Assumes nothing.
use mathlib.Core.Path.{◌≡◌, refl}
use mathlib.Core.Bool.{Bool, true, false}
use mathlib.Core.List.{List, [], ◌∷◌, ◌++◌, map}
use mathlib.Core.Option.{none, some}
use lib.ListN.{length}
use Rattle.syntax.specs.Context.{ids}
use Rattle.syntax.specs.Sets.{distinct}
use Rattle.syntax.specs.declared.names.Name.{Name}
use Rattle.model.specs.Syntax.{Stmt, Substitute, Call, Let, Switch, Create, Invoke, Literal, Op, IfC, PrintI64, Exit, Prog}
use Rattle.model.specs.Lists.{lookup, lookups, zip}
use Rattle.model.specs.Integers.{eval_op, holds}
use Rattle.model.specs.Machine.{Value, Entries, keys, values, xtor, closure, Cells, ended, Event, Literal', Op', Let', Create', Switch', Invoke', Call'}
use Rattle.model.specs.Machine.{Outside', PrintI64', Exit', Outcome, pair_up, find_def, find_clause_lem, as_int, second, matched, Target, out, clo, invoked}
use Rattle.model.specs.Linear.{last_of, before_last, sources, targets, in_order_lem, stop_unless, shows_unless_twice, last_value_lem, size_of, linear_enter_lem, linear_work, linear_step_lem}
use Rattle.image_spec.specs.Parse.{All}
use Rattle.image_spec.specs.Shape.{DefOk, max_depth}
use Rattle.image_places_spec.specs.Places.{StmtStands}
use Rattle.step_spec.specs.Located.{linear_machine, Located, records_in, stmt_in, cell_in, state_of, project, next_place_lem}
use Rattle.step_spec.proofs.Standing.{Placed, create-here, label-stands}
use Rattle.step_spec.proofs.Landing.{Follows, follows-shows, follows-silent, follows-halts, follows-stops, or_follows, land, land-same, land-ended, land-branch}
use Rattle.step_spec.proofs.Landing.{at_first, at_second, at-clause, at-invoked}

module _ (P : Prog) (shallow : All DefOk P.defs) (l : Located) (placed : Placed P l) where
  abbrev K : Cells
  K = map (cell_in P) l.cells

  abbrev F : Outcome → Type 0
  F o = Follows linear_machine P l o

  unless : (b : Bool) (o : Outcome) → F o → F (stop_unless b o)
  unless true o f = f
  unless false o f = follows-stops

  -- a step that makes no cell and may leave an ID twice
  once : (e : Event) (t : Stmt) (ε : Entries) → StmtStands max_depth (records_in P) (next_place_lem P l (some e)) t → F (shows_unless_twice e t ε K)
  once e t ε s = unless (distinct (keys ε)) _ (follows-shows (land-same linear_machine P l placed (some e) t ε s))

  enters : (t : Stmt) (e : stmt_in P l.position ≡ t) (ε : Entries) (v : Value) (tag : Name) (args : List Value) (g : Target) → invoked K v ≡ some g
      → F (linear_enter_lem (ended t ε K) tag args K g)
  unfolding linear_enter_lem next_place_lem
  enters t e ε v tag args (out n) h = follows-shows (land-ended linear_machine P l placed (Outside' n tag args) t ε refl e)
  enters t e ε v tag args (clo j η cs) h =
      or_follows linear_machine P l (find_clause_lem tag cs) _ λ c f.
      or_follows linear_machine P l (pair_up (ids c.0) args) _ λ new _.
      once (Invoke' j tag) c.1 (new ++ η) (at-invoked linear_machine P l placed v j η cs tag c h f)

  works : (t : Stmt) (e : stmt_in P l.position ≡ t) (ε : Entries) → F (linear_work P t ε K)
  unfolding linear_work next_place_lem
  works (Substitute ps next) e ε =
      or_follows linear_machine P l (lookups (sources ps) ε) _ λ vs _.
      follows-silent (land-same linear_machine P l placed none next (zip (targets ps) vs) (at_first linear_machine P l placed _ e next [] refl))
  works (Call label args) e ε =
      or_follows linear_machine P l (find_def label.name P.defs) _ λ d f.
      or_follows linear_machine P l (pair_up (ids d.context) (values ε)) _ λ ε' _.
      once (Call' label.name) d.body ε' (label-stands P shallow label.name d f)
  works (Let var ty tag args next) e ε =
      follows-shows (land linear_machine P l placed (some (Let' (length K) tag.name)) next _ (xtor tag.name (values (last_of (length args) ε)) ∷ [])
      (at_first linear_machine P l placed _ e next [] refl) refl (tt, tt))
  works (Switch var ty cs) e ε =
      or_follows linear_machine P l (last_value_lem ε) _ λ v _.
      or_follows linear_machine P l (matched K v) _ λ x _.
      or_follows linear_machine P l (find_clause_lem x.1 cs) _ λ c f.
      or_follows linear_machine P l (pair_up (ids c.0) x.2) _ λ new _.
      once (Switch' x.0 x.1) c.1 (before_last 1 ε ++ new) (at-clause linear_machine P l placed _ e x.1 c f)
  works (Create var ty env cs next) e ε =
      follows-shows (land linear_machine P l placed (some (Create' (length K))) next _ (closure (last_of (size_of env) ε) cs ∷ []) (at_first linear_machine P l placed _ e next [] refl) (rw e refl)
      ((placed.here, create-here P l.position (Create var ty env cs next) placed.here e refl), tt))
  works (Invoke var tag ty args) e ε =
      or_follows linear_machine P l (last_value_lem ε) _ λ v _.
      or_follows linear_machine P l (invoked K v) _ λ g h.
      enters (Invoke var tag ty args) e ε v tag.name (values (before_last 1 ε)) g h
  works (Literal lit var next) e ε = follows-shows (land-same linear_machine P l placed (some (Literal' lit)) next _ (at_first linear_machine P l placed _ e next [] refl))
  works (Op fst op snd var next) e ε =
      or_follows linear_machine P l (lookup fst.id ε) _ λ a _.
      or_follows linear_machine P l (lookup snd.id ε) _ λ b _.
      or_follows linear_machine P l (as_int a) _ λ x _.
      or_follows linear_machine P l (as_int b) _ λ y _.
      or_follows linear_machine P l (eval_op op x y) _ λ z _.
      follows-shows (land-same linear_machine P l placed (some (Op' z)) next _ (at_first linear_machine P l placed _ e next [] refl))
  works (IfC sort fst snd thenc elsec) e ε =
      or_follows linear_machine P l (lookup fst.id ε) _ λ a _.
      or_follows linear_machine P l (second snd ε) _ λ b _.
      or_follows linear_machine P l (as_int a) _ λ x _.
      or_follows linear_machine P l (as_int b) _ λ y _.
      land-branch linear_machine P l placed ε (holds sort x y) thenc elsec (at_first linear_machine P l placed _ e thenc (elsec ∷ []) refl) (at_second linear_machine P l placed _ e thenc elsec refl)
  works (PrintI64 newline var next) e ε =
      or_follows linear_machine P l (lookup var.id ε) _ λ v _.
      or_follows linear_machine P l (as_int v) _ λ z _.
      follows-shows (land-same linear_machine P l placed (some (PrintI64' newline z)) next ε (at_first linear_machine P l placed _ e next [] refl))
  works (Exit var) e ε =
      or_follows linear_machine P l (lookup var.id ε) _ λ v _.
      follows-shows (land-ended linear_machine P l placed (Exit' v) (Exit var) ε refl e)

  steps : (b : Bool) → F (linear_step_lem P (state_of b (stmt_in P l.position) l.environment K))
  unfolding linear_step_lem
  steps true = follows-halts
  steps false = unless (in_order_lem (stmt_in P l.position) (keys l.environment)) _ (works (stmt_in P l.position) refl l.environment)

  pub linear-follows : F (linear_step_lem P (project P l))
  unfolding project
  linear-follows = steps l.has_ended
