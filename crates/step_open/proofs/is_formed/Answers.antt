use mathlib.Core.Path.{◌≡◌, refl, sym, ap, ◌∙◌}
use mathlib.Core.Bool.{Bool, true, false, ◌&&◌, and-false}
use Prim.Native.Nat.{ℕ}
use Rattle.step_spec.specs.Store.{statement_at, every_slot, entry_ok}
use Rattle.step_scan.proofs.PassLaws.{statement-of}
use Rattle.step_header.specs.Headers.{heap_in, entries_in}
use Rattle.step_open.proofs.is_formed.Goals as goal
use Rattle.step_open.proofs.is_formed.Goals.{then-is_statement, else-is_statement}

pub returns-then-cells_ok : goal.returns-then-cells_ok
returns-then-cells_ok c = λ P o.
    let q = statement-of c.args.header.position o in
    elim c.if-is_statement.branch [
      | then-is_statement w ↦
          let i = sym q ∙ (sym c.is_statement.ensures ∙ w.if-is_statement.true) in
          let f = sym (w.cells_ok.ensures P o) ∙ (sym w.value-is ∙ c.if-cells_ok.true) in
          c.entries_ok.ensures P ∙ rw (w.heap-is, i, f) refl
      | else-is_statement w ↦ let z : true ≡ false = sym c.if-cells_ok.true ∙ (w.value-is ∙ w.if-is_statement.false) in cc
    ]

pub returns-else-cells_ok : goal.returns-else-cells_ok
returns-else-cells_ok c = λ P o.
    let q = statement-of c.args.header.position o in
    let s = c.args.store.now in
    let h = c.args.header in
    let n = every_slot (entry_ok P (heap_in s h)) (entries_in s h) in
    c.if-cells_ok.false ∙ elim c.if-is_statement.branch [
      | then-is_statement w ↦
          let f = sym (w.cells_ok.ensures P o) ∙ (sym w.value-is ∙ c.if-cells_ok.false) in
          rw f (sym (and-false (statement_at P h.position)))
      | else-is_statement w ↦
          let i = sym q ∙ (sym c.is_statement.ensures ∙ w.if-is_statement.false) in
          rw i refl
    ]
