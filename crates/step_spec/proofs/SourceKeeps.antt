-- The source machine's steps keep a state that has bytes one. Assumes nothing.
use Prim.Native.Nat.{ℕ, ◌^◌, ◌≤◌, ◌<◌}
use mathlib.Core.Path.{◌≡◌}
use mathlib.Core.List.{List, ◌∷◌}
use mathlib.Core.Option.{some}
use native.Mathlib.Omega.{arith}
use lib.ListN.{length}
use Rattle.syntax.specs.Context.{ids}
use Rattle.syntax.specs.declared.names.Name.{Name}
use Rattle.model.specs.Syntax.{Stmt, Substitute, Call, Let, Switch, Create, Invoke, Literal, Op, IfC, PrintI64, Exit, Prog}
use Rattle.model.specs.Lists.{lookup, lookups}
use Rattle.model.specs.Integers.{eval_op, holds}
use Rattle.model.specs.Machine.{Value, int, cell, Entries, xtor, closure, Cells, State, at, ended, Outcome, pair_up, find_def, find_clause_lem, as_int, second}
use Rattle.model.specs.Machine.{matched, Target, out, clo, invoked, Let', Create', Literal', Outside'}
use Rattle.model.specs.Source.{source_enter_lem, source_work, source_step_lem}
use Rattle.image_spec.specs.Parse.{All}
use Rattle.image_spec.specs.Records.{RecordOk}
use Rattle.image_spec.specs.Shape.{flatten, flatten_clauses}
use Rattle.step_spec.specs.Store.{ValueFits, EntryFits}
use Rattle.step_spec.proofs.Lists.{all-++, all_left, all_right}
use Rattle.step_arithmetic.proofs.Operations.{eval_op-fits}
use Rattle.step_spec.proofs.Representable.{lookup-fits, lookups-fit, paired-fit, int-fits, id-fits, ids-fit, clause-ok, def-ok, DefsOk, Holds, StateFits, Keeps}
use Rattle.step_spec.proofs.Representable.{keeps-shows, keeps-halts, or_keeps, matched-fits, invoked-fits, out-fits, new-number, entry-later, values-later}
use Rattle.step_spec.proofs.Representable.{one_more, branch-ok}

module _ (w : ℕ) (narrow : 256 ^ w ≤ 256 ^ 4) (P : Prog) (defs : DefsOk w narrow P.defs) where
  abbrev Ks : Outcome → Type 0
  Ks o = Keeps w narrow o

  enters : (t : Stmt) (ε : Entries) (K : Cells) (v : Value) (tag : Name) (args : List Value) (g : Target) → Holds w narrow (length K) t ε K → tag.0 < 256 ^ 2
      → ValueFits (length K) v → All (ValueFits (length K)) args → invoked K v ≡ some g
      → Ks (source_enter_lem (ended t ε K) tag args K g)
  unfolding source_enter_lem
  enters t ε K v tag args (out n) h b u a e = keeps-shows {e = Outside' n tag args} {s = ended t ε K} (b, out-fits w narrow (length K) K v n u e, a) h
  enters t ε K v tag args (clo j η cs) h b u a e =
      let r = invoked-fits w narrow (length K) K v j η cs h.cells e in
      or_keeps w narrow (find_clause_lem tag cs) _ λ c f.
      or_keeps w narrow (pair_up (ids c.0) args) _ λ new g.
      let o = clause-ok w narrow tag cs c r.1 f in
      keeps-shows (b, r.2) (record { stmt = o.1; entries = all-++ (EntryFits (length K)) new η (paired-fit (length K) (ids c.0) args new (ids-fit w narrow c.0 o.0) a g) r.0; cells = h.cells })

  works : (t : Stmt) (ε : Entries) (K : Cells) → Holds w narrow (length K) t ε K → Ks (source_work P t ε K)
  unfolding source_work flatten RecordOk
  works (Substitute ps next) ε K h = keeps-halts
  works (Call label args) ε K h =
      or_keeps w narrow (lookups (ids args) ε) _ λ vs e.
      or_keeps w narrow (find_def label.name P.defs) _ λ d f.
      or_keeps w narrow (pair_up (ids d.context) vs) _ λ ε' g.
      let o = def-ok w narrow label.name P.defs d defs f in
      let given = lookups-fit (length K) (ids args) ε vs h.entries e in
      let entries = paired-fit (length K) (ids d.context) vs ε' (ids-fit w narrow d.context o.0) given g in
      keeps-shows h.stmt.0.0.0 (record { stmt = o.1; entries = entries; cells = h.cells })
  works (Let var ty tag args next) ε K h =
      or_keeps w narrow (lookups (ids args) ε) _ λ vs e.
      let made = xtor tag.name vs in
      keeps-shows {e = Let' (length K) tag.name} (h.stmt.0.1.1.0.0, new-number K made)
      (one_more w narrow next ((var.id, cell (length K)) ∷ ε) K made h.stmt.1
      ((id-fits w narrow var h.stmt.0.0, omega arith), entry-later w narrow (length K) ε h.entries) h.cells
      (h.stmt.0.1.1.0.0, values-later w narrow (length K) vs (lookups-fit (length K) (ids args) ε vs h.entries e)))
  works (Switch var ty cs) ε K h =
      or_keeps w narrow (lookup var.id ε) _ λ v _.
      or_keeps w narrow (matched K v) _ λ x m.
      or_keeps w narrow (find_clause_lem x.1 cs) _ λ c f.
      or_keeps w narrow (pair_up (ids c.0) x.2) _ λ new g.
      let o = clause-ok w narrow x.1 cs c h.stmt.1 f in
      let r = matched-fits w narrow (length K) K v x h.cells m in
      keeps-shows (r.tag, r.number) (record {
        stmt = o.1;
        entries = all-++ (EntryFits (length K)) new ε (paired-fit (length K) (ids c.0) x.2 new (ids-fit w narrow c.0 o.0) r.fields g) h.entries;
        cells = h.cells;
      })
  works (Create var ty env cs next) ε K h =
      let made = closure ε cs in
      keeps-shows {e = Create' (length K)} (new-number K made)
      (one_more w narrow next ((var.id, cell (length K)) ∷ ε) K made (all_right (RecordOk w) (flatten_clauses cs) (flatten next) h.stmt.1)
      ((id-fits w narrow var h.stmt.0.0, omega arith), entry-later w narrow (length K) ε h.entries) h.cells
      (entry-later w narrow (length K) ε h.entries, all_left (RecordOk w) (flatten_clauses cs) (flatten next) h.stmt.1))
  works (Invoke var tag ty args) ε K h =
      or_keeps w narrow (lookup var.id ε) _ λ v u.
      or_keeps w narrow (lookups (ids args) ε) _ λ vs e.
      or_keeps w narrow (invoked K v) _ λ g i.
      enters (Invoke var tag ty args) ε K v tag.name vs g h h.stmt.0.1.0.0 (lookup-fits (length K) var.id ε v h.entries u) (lookups-fit (length K) (ids args) ε vs h.entries e) i
  works (Literal lit var next) ε K h =
      keeps-shows {e = Literal' lit} {s = at next ((var.id, int lit) ∷ ε) K} h.stmt.0.0 (record {
        stmt = h.stmt.1;
        entries = ((id-fits w narrow var h.stmt.0.1, h.stmt.0.0), h.entries);
        cells = h.cells;
      })
  works (Op fst op snd var next) ε K h =
      or_keeps w narrow (lookup fst.id ε) _ λ a p.
      or_keeps w narrow (lookup snd.id ε) _ λ b q.
      or_keeps w narrow (as_int a) _ λ x i.
      or_keeps w narrow (as_int b) _ λ y j.
      or_keeps w narrow (eval_op op x y) _ λ z g.
      let fit = eval_op-fits op x y z g (int-fits (length K) a x (lookup-fits (length K) fst.id ε a h.entries p) i) (int-fits (length K) b y (lookup-fits (length K) snd.id ε b h.entries q) j) in
      keeps-shows fit (record {
        stmt = h.stmt.1;
        entries = ((id-fits w narrow var h.stmt.0.1.1.1, fit), h.entries);
        cells = h.cells;
      })
  works (IfC sort fst snd thenc elsec) ε K h =
      or_keeps w narrow (lookup fst.id ε) _ λ a _.
      or_keeps w narrow (second snd ε) _ λ b _.
      or_keeps w narrow (as_int a) _ λ x _.
      or_keeps w narrow (as_int b) _ λ y _.
      keeps-shows tt (record { stmt = branch-ok w narrow (holds sort x y) thenc elsec h.stmt.1; entries = h.entries; cells = h.cells })
  works (PrintI64 newline var next) ε K h =
      or_keeps w narrow (lookup var.id ε) _ λ v p.
      or_keeps w narrow (as_int v) _ λ z i.
      keeps-shows (int-fits (length K) v z (lookup-fits (length K) var.id ε v h.entries p) i) (record { stmt = h.stmt.1; entries = h.entries; cells = h.cells })
  works (Exit var) ε K h =
      or_keeps w narrow (lookup var.id ε) _ λ v p.
      keeps-shows (lookup-fits (length K) var.id ε v h.entries p) h

  pub source_keeps : (s : State) → StateFits w narrow s → Ks (source_step_lem P s)
  unfolding source_step_lem
  source_keeps (at t ε K) h = works t ε K h
  source_keeps (ended t ε K) h = keeps-halts
