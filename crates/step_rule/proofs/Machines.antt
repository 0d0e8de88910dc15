-- What each machine does at the statement of a store's state: its rule, as the IDs are in order. Assumes nothing.
use mathlib.Core.Path.{◌≡◌, refl, sym, ap, ◌∙◌}
use mathlib.Core.Bool.{Bool, true, false, false≢true}
use mathlib.Core.List.{List, map}
use Rattle.model.specs.Syntax.{Stmt, Prog}
use Rattle.model.specs.Machine.{keys, Outcome}
use Rattle.model.specs.Source.{source_work, source_step_lem}
use Rattle.model.specs.Linear.{in_order_lem, stop_unless, linear_work, linear_step_lem}
use Prim.Native.Nat.{ℕ}
use Rattle.step_spec.specs.Located.{source_machine, linear_machine, Located, stmt_in, cell_in, project, is_stop}
use Rattle.step_header.specs.declared.Header.{Header}
use Rattle.step_rule.specs.Rules.{Stored}
use Rattle.step_rule.proofs.Ways.{outcome}

-- a step that is not stopped is in order
unstopped : (b : Bool) (r : Outcome) → is_stop (stop_unless b r) ≡ false → b ≡ true
unstopped true r e = refl
unstopped false r e = absurd (false≢true (sym e))

module _ {P : Prog} {store : List ℕ} {h : Header} {l : Located} where
  pub source-works : Stored source_machine P store h l → (t : Stmt) → stmt_in P l.position ≡ t → source_step_lem P (project P l) ≡ source_work P t l.environment (map (cell_in P) l.cells)
  unfolding source_step_lem
  source-works o t e = outcome o t e

  pub in_order : Stored linear_machine P store h l → (t : Stmt) → stmt_in P l.position ≡ t → in_order_lem t (keys l.environment) ≡ true
  unfolding linear_step_lem
  in_order o t e =
      let K = map (cell_in P) l.cells in
      unstopped (in_order_lem t (keys l.environment)) (linear_work P t l.environment K) (ap is_stop (sym (outcome o t e)) ∙ o.goes)

  pub linear-works : Stored linear_machine P store h l → (t : Stmt) → stmt_in P l.position ≡ t → linear_step_lem P (project P l) ≡ linear_work P t l.environment (map (cell_in P) l.cells)
  unfolding linear_step_lem
  linear-works o t e = outcome o t e ∙ ap (λ (b : Bool). stop_unless b (linear_work P t l.environment (map (cell_in P) l.cells))) (in_order o t e)
