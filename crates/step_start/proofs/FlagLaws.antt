-- The stopped flag of a start: left to the machine, set for parameters that repeat an ID, or clear. Assumes nothing.
use Prim.Native.Nat.{ℕ}
use mathlib.Core.Path.{◌≡◌, refl, sym, ap, ◌∙◌}
use mathlib.Core.Bool.{Bool, true, false}
use mathlib.Core.List.{List}
use lib.ListN.{set}
use lib.Seq.{sets}
use Rattle.syntax.specs.Sets.{distinct}
use Rattle.syntax.specs.declared.names.VarId.{VarId}
use Rattle.step_spec.specs.declared.MachineKind.{MachineKind}
use Rattle.step_spec.specs.declared.MachineKind.TheVariants.{Source, Linear}
use Rattle.step_spec.specs.Located.{Located, project, is_stop}
use Rattle.step_spec.specs.Store.{store_bytes}
use Rattle.step_spec.proofs.NeverStops.{source-never-stops}
use Rattle.step_header.specs.declared.Header.{Header}
use Rattle.step_rows.specs.declared.row.Row.{Row}
use Rattle.step_rows.specs.Rows.{ids_of}
use Rattle.step_places.specs.declared.stepper.Stepper.{Stepper}
use Rattle.step_rule.specs.Rules.{machine_for, machine_in}
use Rattle.step_settle.specs.Settling.{flagged, Settles}
use Rattle.step_settle.proofs.SettleLaws.{same_bytes, stop-bytes, clear_is}
use Rattle.step_start.specs.Starting.{start_stops, Flags}

distinct-stops : (kind : MachineKind) (xs : List VarId) (b : Bool) → distinct xs ≡ true → start_stops kind xs b ≡ b
distinct-stops Source xs b e = refl
distinct-stops Linear xs b e = rw e refl

repeated_stops : (kind : MachineKind) (xs : List VarId) (b : Bool) → kind ≡ Linear → distinct xs ≡ false → start_stops kind xs b ≡ true
repeated_stops kind xs b e f = rw (e, f) refl

source-stops : (kind : MachineKind) (xs : List VarId) (b : Bool) → kind ≡ Source → start_stops kind xs b ≡ b
source-stops kind xs b e = rw e refl

-- a store that begins with the state with this flag
abbrev wrote : (store : List ℕ) → Located → Bool → List ℕ
wrote store l b = sets store 0 (store_bytes (flagged b l))

module _ {stepper : Stepper} {bytes : List ℕ} {row : Row} {store : List ℕ} {h : Header} where
  -- no ID stands twice: the machine says it
  pub flags-settled : distinct (ids_of row) ≡ true → {store' : List ℕ} {h' : Header} → Settles (machine_in stepper) stepper bytes store h store' h' → Flags stepper bytes row store h store'
  flags-settled e s = record {
    flags = λ P l p o c. (s.settles P l p o c).0 ∙ ap (wrote store l) (sym (distinct-stops stepper.machine (ids_of row) _ e));
  }

  -- one does
  pub flags-stopped : stepper.machine ≡ Linear → distinct (ids_of row) ≡ false → {store' : List ℕ} → store' ≡ set store 5 1 → Flags stepper bytes row store h store'
  flags-stopped e f w = record {
    flags = λ P l p o c. w ∙ (stop-bytes o ∙ ap (wrote store l) (sym (repeated_stops stepper.machine (ids_of row) _ e f)));
  }

  -- the source machine never stops
  pub flags_clear : stepper.machine ≡ Source → Flags stepper bytes row store h store
  flags_clear e = record {
    flags = λ P l p o c.
        let goes : is_stop ((machine_in stepper).step P (project P l)) ≡ false =
        ap (λ (kind : MachineKind). is_stop ((machine_for kind).step P (project P l))) e ∙ source-never-stops P (project P l) in
        let clear = source-stops stepper.machine (ids_of row) (is_stop ((machine_in stepper).step P (project P l))) e ∙ goes in
        same_bytes o ∙ (ap (λ (z : Located). sets store 0 (store_bytes z)) (sym (clear_is o c)) ∙ ap (wrote store l) (sym clear));
  }
