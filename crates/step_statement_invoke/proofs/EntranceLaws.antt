-- The clause that is entered: as the code finds it, and what is known of one that was found. Assumes nothing.
use Prim.Native.Nat.{ℕ, ◌*◌, ◌≤◌}
use mathlib.Core.Path.{◌≡◌, refl, ap, ◌∙◌, subst}
use mathlib.Core.Bool.{true}
use mathlib.Core.List.{List}
use native.Mathlib.Omega.{arith}
use lib.ListN.{length}
use Rattle.std.specs.Prelude.{Option as Maybe, Some}
use Rattle.image_directory.specs.declared.Frame.{Frame}
use Rattle.step_slots.specs.Slots.{Slot}
use Rattle.step_slots.specs.Views.{slots_at, all_slots}
use Rattle.step_header.specs.Headers.{heap_in}
use Rattle.step_write.specs.declared.Work.{Work}
use Rattle.step_write.specs.Working.{Fit}
use Rattle.step_cells.specs.Cells.{Cell, cell_in'}
use Rattle.step_cells.proofs.HeapLaws.{cell_holds}
use Rattle.step_enter.specs.declared.Parameters.{Parameters}
use Rattle.step_enter.specs.Entering.{ClauseOf}
use Rattle.step_enter.proofs.ParameterLaws.{Fitting, fitting}
use Rattle.step_statement_invoke.specs.Invoking.{EntranceOf, no-closure, no_record, no-clause, other-count, a-clause, Enterable}

-- what is known of one that was found
pub record Entered (frame : Frame) (bytes : List ℕ) (cell : Cell) (tag k : ℕ) (p : Parameters) : Type 0 where
  pub sort : cell.sort ≡ 4
  pub clause : ClauseOf frame bytes cell.id tag (Some p)
  pub count : p.row.places.len ≡ k

module _ {frame : Frame} {bytes : List ℕ} {cell : Cell} {tag k : ℕ} {p : Parameters} where
  pub entered_by : {r : Maybe Parameters} → EntranceOf frame bytes cell tag k r → r ≡ Some p → Entered frame bytes cell tag k p
  entered_by (no-closure s) e = let z : ◌≡◌ {A = ℕ} 0 1 = cc in absurd (omega arith)
  entered_by (no_record s n) e = let z : ◌≡◌ {A = ℕ} 0 1 = cc in absurd (omega arith)
  entered_by (no-clause s f) e = let z : ◌≡◌ {A = ℕ} 0 1 = cc in absurd (omega arith)
  entered_by (other-count s f n) e = let z : ◌≡◌ {A = ℕ} 0 1 = cc in absurd (omega arith)
  entered_by (a-clause {p = q} s f c) e =
      let same : q ≡ p = cc (e) in
      subst (Entered frame bytes cell tag k) same record { sort = s; clause = f; count = c }

  module _ (w : Entered frame bytes cell tag k p) where
    entered-fits : Fitting p.row
    entered-fits = fitting refl w.clause.reads

    pub entered-few : k ≤ 128
    entered-few = omega (arith, w.count, entered-fits.short)

    -- it can be entered
    pub can_enter : {work : Work} {bytes : List ℕ} (value : Slot) → Fit work → cell ≡ cell_in' (heap_in work.store.now work.header) value → length bytes ≡ 16 * k
        → all_slots (slots_at bytes 0 k) ≡ true → Enterable work bytes cell p.row
    can_enter {work} {bytes} value f e r s = record {
      fit = f;
      whole = omega (arith, r, w.count);
      slots = ap (λ (m : ℕ). all_slots (slots_at bytes 0 m)) w.count ∙ s;
      closure = (cell_holds work.store.now work.header f.holds value e).inside;
    }
