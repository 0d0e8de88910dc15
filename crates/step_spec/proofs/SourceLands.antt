-- The stepper follows the source machine: one case for each statement. Assumes nothing.
use mathlib.Core.Path.{◌≡◌, refl}
use mathlib.Core.Bool.{Bool, true, false}
use mathlib.Core.List.{List, [], ◌∷◌, ◌++◌, map}
use mathlib.Core.Option.{some}
use lib.ListN.{length}
use Rattle.syntax.specs.Context.{ids}
use Rattle.syntax.specs.declared.names.Name.{Name}
use Rattle.model.specs.Syntax.{Stmt, Substitute, Call, Let, Switch, Create, Invoke, Literal, Op, IfC, PrintI64, Exit, Prog}
use Rattle.model.specs.Lists.{lookup, lookups}
use Rattle.model.specs.Integers.{eval_op, holds}
use Rattle.model.specs.Machine.{Value, Entries, xtor, closure, Cells, ended, Literal', Op', Let', Create', Switch', Invoke', Call', Outside', PrintI64', Exit'}
use Rattle.model.specs.Machine.{pair_up, find_def, find_clause_lem, as_int, second, matched, Target, out, clo, invoked}
use Rattle.model.specs.Source.{source_enter_lem, source_work, source_step_lem}
use Rattle.image_spec.specs.Parse.{All}
use Rattle.image_spec.specs.Shape.{DefOk}
use Rattle.step_spec.specs.Located.{source_machine, Located, stmt_in, cell_in, state_of, project, next_place_lem}
use Rattle.step_spec.proofs.Standing.{Placed, create-here, label-stands}
use Rattle.step_spec.proofs.Landing.{Follows, follows-shows, follows-halts, or_follows, land, land-same, land-ended, land-branch, at_first, at_second, at-clause, at-invoked}

module _ (P : Prog) (shallow : All DefOk P.defs) (l : Located) (placed : Placed P l) where
  abbrev K : Cells
  K = map (cell_in P) l.cells

  enters : (t : Stmt) (e : stmt_in P l.position ≡ t) (ε : Entries) (v : Value) (tag : Name) (args : List Value) (g : Target) → invoked K v ≡ some g
      → Follows source_machine P l (source_enter_lem (ended t ε K) tag args K g)
  unfolding source_enter_lem next_place_lem
  enters t e ε v tag args (out n) h = follows-shows (land-ended source_machine P l placed (Outside' n tag args) t ε refl e)
  enters t e ε v tag args (clo j η cs) h =
      or_follows source_machine P l (find_clause_lem tag cs) _ λ c f.
      or_follows source_machine P l (pair_up (ids c.0) args) _ λ new _.
      follows-shows (land-same source_machine P l placed (some (Invoke' j tag)) c.1 (new ++ η) (at-invoked source_machine P l placed v j η cs tag c h f))

  works : (t : Stmt) (e : stmt_in P l.position ≡ t) (ε : Entries) → Follows source_machine P l (source_work P t ε K)
  unfolding source_work next_place_lem
  works (Substitute ps next) e ε = follows-halts
  works (Call label args) e ε =
      or_follows source_machine P l (lookups (ids args) ε) _ λ vs _.
      or_follows source_machine P l (find_def label.name P.defs) _ λ d f.
      or_follows source_machine P l (pair_up (ids d.context) vs) _ λ ε' _.
      follows-shows (land-same source_machine P l placed (some (Call' label.name)) d.body ε' (label-stands P shallow label.name d f))
  works (Let var ty tag args next) e ε =
      or_follows source_machine P l (lookups (ids args) ε) _ λ vs _.
      follows-shows (land source_machine P l placed (some (Let' (length K) tag.name)) next _ (xtor tag.name vs ∷ []) (at_first source_machine P l placed _ e next [] refl) refl (tt, tt))
  works (Switch var ty cs) e ε =
      or_follows source_machine P l (lookup var.id ε) _ λ v _.
      or_follows source_machine P l (matched K v) _ λ x _.
      or_follows source_machine P l (find_clause_lem x.1 cs) _ λ c f.
      or_follows source_machine P l (pair_up (ids c.0) x.2) _ λ new _.
      follows-shows (land-same source_machine P l placed (some (Switch' x.0 x.1)) c.1 (new ++ ε) (at-clause source_machine P l placed _ e x.1 c f))
  works (Create var ty env cs next) e ε =
      follows-shows (land source_machine P l placed (some (Create' (length K))) next _ (closure ε cs ∷ []) (at_first source_machine P l placed _ e next [] refl) (rw e refl)
      ((placed.here, create-here P l.position (Create var ty env cs next) placed.here e refl), tt))
  works (Invoke var tag ty args) e ε =
      or_follows source_machine P l (lookup var.id ε) _ λ v _.
      or_follows source_machine P l (lookups (ids args) ε) _ λ vs _.
      or_follows source_machine P l (invoked K v) _ λ g h.
      enters (Invoke var tag ty args) e ε v tag.name vs g h
  works (Literal lit var next) e ε = follows-shows (land-same source_machine P l placed (some (Literal' lit)) next _ (at_first source_machine P l placed _ e next [] refl))
  works (Op fst op snd var next) e ε =
      or_follows source_machine P l (lookup fst.id ε) _ λ a _.
      or_follows source_machine P l (lookup snd.id ε) _ λ b _.
      or_follows source_machine P l (as_int a) _ λ x _.
      or_follows source_machine P l (as_int b) _ λ y _.
      or_follows source_machine P l (eval_op op x y) _ λ z _.
      follows-shows (land-same source_machine P l placed (some (Op' z)) next _ (at_first source_machine P l placed _ e next [] refl))
  works (IfC sort fst snd thenc elsec) e ε =
      or_follows source_machine P l (lookup fst.id ε) _ λ a _.
      or_follows source_machine P l (second snd ε) _ λ b _.
      or_follows source_machine P l (as_int a) _ λ x _.
      or_follows source_machine P l (as_int b) _ λ y _.
      land-branch source_machine P l placed ε (holds sort x y) thenc elsec (at_first source_machine P l placed _ e thenc (elsec ∷ []) refl) (at_second source_machine P l placed _ e thenc elsec refl)
  works (PrintI64 newline var next) e ε =
      or_follows source_machine P l (lookup var.id ε) _ λ v _.
      or_follows source_machine P l (as_int v) _ λ z _.
      follows-shows (land-same source_machine P l placed (some (PrintI64' newline z)) next ε (at_first source_machine P l placed _ e next [] refl))
  works (Exit var) e ε =
      or_follows source_machine P l (lookup var.id ε) _ λ v _.
      follows-shows (land-ended source_machine P l placed (Exit' v) (Exit var) ε refl e)

  steps : (b : Bool) → Follows source_machine P l (source_step_lem P (state_of b (stmt_in P l.position) l.environment K))
  unfolding source_step_lem
  steps true = follows-halts
  steps false = works (stmt_in P l.position) refl l.environment

  pub source-follows : Follows source_machine P l (source_step_lem P (project P l))
  unfolding project
  source-follows = steps l.has_ended
