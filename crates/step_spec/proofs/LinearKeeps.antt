-- The linear machine's steps keep a state that has bytes one. Assumes nothing.
use Prim.Native.Nat.{ℕ, suc, ◌-◌, ◌^◌, ◌≤◌, ◌<◌}
use mathlib.Core.Path.{◌≡◌}
use mathlib.Core.Bool.{Bool, true, false}
use mathlib.Core.List.{List, [], ◌∷◌, ◌++◌}
use mathlib.Core.Option.{some}
use native.Mathlib.Omega.{arith}
use lib.ListN.{length}
use Rattle.syntax.specs.Context.{ids}
use Rattle.syntax.specs.Sets.{distinct}
use Rattle.syntax.specs.declared.names.Name.{Name}
use Rattle.model.specs.Syntax.{Stmt, Substitute, Call, Let, Switch, Create, Invoke, Literal, Op, IfC, PrintI64, Exit, Prog}
use Rattle.model.specs.Lists.{lookup, lookups}
use Rattle.model.specs.Integers.{eval_op, holds}
use Rattle.model.specs.Machine.{Value, int, cell, Entries, keys, values, xtor, closure, Cells, State, at, ended, Event, Switch', Invoke', Call', Outcome}
use Rattle.model.specs.Machine.{pair_up, find_def, find_clause_lem, as_int, second, matched, Target, out, clo, invoked, Let', Create', Literal', Outside'}
use Rattle.model.specs.Linear.{last_of, before_last, sources, targets, in_order_lem, stop_unless, shows_unless_twice, last_value_lem, size_of, linear_enter_lem, linear_work, linear_step_lem}
use Rattle.image_spec.specs.Parse.{All}
use Rattle.image_spec.specs.Records.{RecordOk}
use Rattle.image_spec.specs.Shape.{flatten, flatten_clauses}
use Rattle.step_spec.specs.Store.{ValueFits, EntryFits}
use Rattle.step_spec.proofs.Lists.{all-++, all_left, all_right, all_take, all_drop}
use Rattle.step_arithmetic.proofs.Operations.{eval_op-fits}
use Rattle.step_spec.proofs.Representable.{values-fit, lookup-fits, lookups-fit, paired-fit, zipped-fit, int-fits, id-fits, ids-fit, targets-fit, clause-ok}
use Rattle.step_spec.proofs.Representable.{def-ok, DefsOk, Holds, StateFits, Keeps, keeps-shows, keeps-silent, keeps-halts, keeps-stops, or_keeps, matched-fits}
use Rattle.step_spec.proofs.Representable.{invoked-fits, out-fits, new-number, EventHolds, last_fits, entry-later, values-later, one_more, branch-ok}

module _ (w : ℕ) (narrow : 256 ^ w ≤ 256 ^ 4) (P : Prog) (defs : DefsOk w narrow P.defs) where
  abbrev Ks : Outcome → Type 0
  Ks o = Keeps w narrow o

  unless : (b : Bool) (o : Outcome) → Ks o → Ks (stop_unless b o)
  unless true o k = k
  unless false o k = keeps-stops

  once : (e : Event) (t : Stmt) (ε : Entries) (K : Cells) → EventHolds (length K) e → Holds w narrow (length K) t ε K → Ks (shows_unless_twice e t ε K)
  once e t ε K b h = unless (distinct (keys ε)) _ (keeps-shows b h)

  before : (n k : ℕ) (ε : Entries) → All (EntryFits n) ε → All (EntryFits n) (before_last k ε)
  before n k ε h = all_take (EntryFits n) (length ε - k) ε h

  last : (n k : ℕ) (ε : Entries) → All (EntryFits n) ε → All (EntryFits n) (last_of k ε)
  last n k ε h = all_drop (EntryFits n) (length ε - k) ε h

  enters : (t : Stmt) (ε : Entries) (K : Cells) (v : Value) (tag : Name) (args : List Value) (g : Target) → Holds w narrow (length K) t ε K → tag.0 < 256 ^ 2
      → ValueFits (length K) v → All (ValueFits (length K)) args → invoked K v ≡ some g
      → Ks (linear_enter_lem (ended t ε K) tag args K g)
  unfolding linear_enter_lem
  enters t ε K v tag args (out n) h b u a e = keeps-shows {e = Outside' n tag args} {s = ended t ε K} (b, out-fits w narrow (length K) K v n u e, a) h
  enters t ε K v tag args (clo j η cs) h b u a e =
      let r = invoked-fits w narrow (length K) K v j η cs h.cells e in
      or_keeps w narrow (find_clause_lem tag cs) _ λ c f.
      or_keeps w narrow (pair_up (ids c.0) args) _ λ new g.
      let o = clause-ok w narrow tag cs c r.1 f in
      let entries = all-++ (EntryFits (length K)) new η (paired-fit (length K) (ids c.0) args new (ids-fit w narrow c.0 o.0) a g) r.0 in
      once (Invoke' j tag) c.1 (new ++ η) K (b, r.2) (record { stmt = o.1; entries = entries; cells = h.cells })

  works : (t : Stmt) (ε : Entries) (K : Cells) → Holds w narrow (length K) t ε K → Ks (linear_work P t ε K)
  unfolding linear_work flatten RecordOk
  works (Substitute ps next) ε K h =
      or_keeps w narrow (lookups (sources ps) ε) _ λ vs e.
      let entries = zipped-fit (length K) (targets ps) vs (targets-fit w narrow ps h.stmt.0.1) (lookups-fit (length K) (sources ps) ε vs h.entries e) in
      keeps-silent (record { stmt = h.stmt.1; entries = entries; cells = h.cells })
  works (Call label args) ε K h =
      or_keeps w narrow (find_def label.name P.defs) _ λ d f.
      or_keeps w narrow (pair_up (ids d.context) (values ε)) _ λ ε' g.
      let o = def-ok w narrow label.name P.defs d defs f in
      let entries = paired-fit (length K) (ids d.context) (values ε) ε' (ids-fit w narrow d.context o.0) (values-fit (length K) ε h.entries) g in
      once (Call' label.name) d.body ε' K h.stmt.0.0.0 (record { stmt = o.1; entries = entries; cells = h.cells })
  works (Let var ty tag args next) ε K h =
      let left = before_last (length args) ε in
      let made = xtor tag.name (values (last_of (length args) ε)) in
      let new = (var.id, cell (length K)) ∷ [] in
      keeps-shows {e = Let' (length K) tag.name} (h.stmt.0.1.1.0.0, new-number K made) (one_more w narrow next (left ++ new) K made h.stmt.1
      (all-++ (EntryFits (suc (length K))) left new (entry-later w narrow (length K) left (before (length K) (length args) ε h.entries))
      ((id-fits w narrow var h.stmt.0.0, omega arith), tt)) h.cells
      (h.stmt.0.1.1.0.0, values-later w narrow (length K) (values (last_of (length args) ε)) (values-fit (length K) (last_of (length args) ε) (last (length K) (length args) ε h.entries))))
  works (Switch var ty cs) ε K h =
      or_keeps w narrow (last_value_lem ε) _ λ v _.
      or_keeps w narrow (matched K v) _ λ x m.
      or_keeps w narrow (find_clause_lem x.1 cs) _ λ c f.
      or_keeps w narrow (pair_up (ids c.0) x.2) _ λ new g.
      let o = clause-ok w narrow x.1 cs c h.stmt.1 f in
      let r = matched-fits w narrow (length K) K v x h.cells m in
      once (Switch' x.0 x.1) c.1 (before_last 1 ε ++ new) K (r.tag, r.number) (record {
        stmt = o.1;
        entries = all-++ (EntryFits (length K)) (before_last 1 ε) new (before (length K) 1 ε h.entries) (paired-fit (length K) (ids c.0) x.2 new (ids-fit w narrow c.0 o.0) r.fields g);
        cells = h.cells;
      })
  works (Create var ty env cs next) ε K h =
      let left = before_last (size_of env) ε in
      let made = closure (last_of (size_of env) ε) cs in
      let new = (var.id, cell (length K)) ∷ [] in
      keeps-shows {e = Create' (length K)} (new-number K made) (one_more w narrow next (left ++ new) K made
      (all_right (RecordOk w) (flatten_clauses cs) (flatten next) h.stmt.1)
      (all-++ (EntryFits (suc (length K))) left new (entry-later w narrow (length K) left (before (length K) (size_of env) ε h.entries))
      ((id-fits w narrow var h.stmt.0.0, omega arith), tt)) h.cells
      (entry-later w narrow (length K) (last_of (size_of env) ε) (last (length K) (size_of env) ε h.entries), all_left (RecordOk w) (flatten_clauses cs) (flatten next) h.stmt.1))
  works (Invoke var tag ty args) ε K h =
      or_keeps w narrow (last_value_lem ε) _ λ v u.
      or_keeps w narrow (invoked K v) _ λ g i.
      let given = before_last 1 ε in
      enters (Invoke var tag ty args) ε K v tag.name (values given) g h h.stmt.0.1.0.0 (last_fits (length K) ε v h.entries u)
      (values-fit (length K) given (before (length K) 1 ε h.entries)) i
  works (Literal lit var next) ε K h =
      let new = (var.id, int lit) ∷ [] in
      let entries = all-++ (EntryFits (length K)) ε new h.entries ((id-fits w narrow var h.stmt.0.1, h.stmt.0.0), tt) in
      keeps-shows {e = Literal' lit} {s = at next (ε ++ new) K} h.stmt.0.0 (record { stmt = h.stmt.1; entries = entries; cells = h.cells })
  works (Op fst op snd var next) ε K h =
      or_keeps w narrow (lookup fst.id ε) _ λ a p.
      or_keeps w narrow (lookup snd.id ε) _ λ b q.
      or_keeps w narrow (as_int a) _ λ x i.
      or_keeps w narrow (as_int b) _ λ y j.
      or_keeps w narrow (eval_op op x y) _ λ z g.
      let fit = eval_op-fits op x y z g (int-fits (length K) a x (lookup-fits (length K) fst.id ε a h.entries p) i) (int-fits (length K) b y (lookup-fits (length K) snd.id ε b h.entries q) j) in
      keeps-shows fit (record {
        stmt = h.stmt.1;
        entries = all-++ (EntryFits (length K)) ε ((var.id, int z) ∷ []) h.entries
            ((id-fits w narrow var h.stmt.0.1.1.1, fit), tt);
        cells = h.cells;
      })
  works (IfC sort fst snd thenc elsec) ε K h =
      or_keeps w narrow (lookup fst.id ε) _ λ a _.
      or_keeps w narrow (second snd ε) _ λ b _.
      or_keeps w narrow (as_int a) _ λ x _.
      or_keeps w narrow (as_int b) _ λ y _.
      keeps-shows tt (record { stmt = branch-ok w narrow (holds sort x y) thenc elsec h.stmt.1; entries = h.entries; cells = h.cells })
  works (PrintI64 newline var next) ε K h =
      or_keeps w narrow (lookup var.id ε) _ λ v p.
      or_keeps w narrow (as_int v) _ λ z i.
      keeps-shows (int-fits (length K) v z (lookup-fits (length K) var.id ε v h.entries p) i) (record { stmt = h.stmt.1; entries = h.entries; cells = h.cells })
  works (Exit var) ε K h =
      or_keeps w narrow (lookup var.id ε) _ λ v p.
      keeps-shows (lookup-fits (length K) var.id ε v h.entries p) h

  pub linear-keeps : (s : State) → StateFits w narrow s → Ks (linear_step_lem P s)
  unfolding linear_step_lem
  linear-keeps (at t ε K) h = unless (in_order_lem t (keys ε)) _ (works t ε K h)
  linear-keeps (ended t ε K) h = keeps-halts
