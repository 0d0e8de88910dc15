-- Literal: the step of either machine. Assumes nothing.
use Rattle.std.specs.Prelude.{Result}
use Prim.Native.Nat.{ℕ, ◌+◌}
use mathlib.Core.Path.{◌≡◌, refl}
use mathlib.Core.List.{List, map}
use mathlib.Core.Option.{some}
use native.Mathlib.Omega.{arith}
use lib.IntN.{ℤ}
use mir.Syntax.{w64}
use mir.Val.{of_z}
use Rattle.syntax.specs.declared.names.Identifier.{Identifier}
use Rattle.model.specs.Syntax.{Stmt, Literal, Prog}
use Rattle.model.specs.Machine.{int, at, shows, Literal'}
use Rattle.model.specs.Source.{source_work}
use Rattle.model.specs.Linear.{linear_work}
use Rattle.image_spec.specs.Records.{literal}
use Rattle.image_spec.specs.Shape.{flatten_clauses}
use Rattle.image_directory.specs.declared.Frame.{Frame}
use Rattle.image_read_parts.specs.Indexed.{record_at}
use Rattle.step_spec.specs.declared.MachineKind.{MachineKind}
use Rattle.step_spec.specs.declared.MachineKind.TheVariants.{Source, Linear}
use Rattle.step_spec.specs.Located.{Located, stmt_in, cell_in, project, next_place_lem, located_step}
use Rattle.step_spec.specs.Events.{event_bytes}
use Rattle.step_header.specs.declared.Header.{Header}
use Rattle.step_write.specs.declared.Step.{Step}
use Rattle.step_write.specs.declared.Stop.{Stop}
use Rattle.step_rule.specs.Rules.{machine_for, ImageOf, Stored, resting, Makes}
use Rattle.step_rule.proofs.Views.{viewed}
use Rattle.step_rule.proofs.Statements.{Is, is_literal, here}
use Rattle.step_rule.proofs.Machines.{source-works, linear-works}
use Rattle.step_bind.specs.Binding.{Binds}
use Rattle.step_bind.proofs.BindingLaws.{added, binds-makes}

module _ (P : Prog) {store : List ℕ} (h : Header) (l : Located) (z : ℤ) (v : Identifier) where
  -- what the machine does
  goes : (b : MachineKind) → Stored (machine_for b) P store h l → (next : Stmt) → stmt_in P l.position ≡ Literal z v next
      → (machine_for b).step P (project P l) ≡ shows (Literal' z) (at next (added b (v.id, int z) l.environment) (map (cell_in P) l.cells))
  unfolding source_work linear_work
  goes Linear o next e = linear-works o (Literal z v next) e
  goes Source o next e = source-works o (Literal z v next) e

-- where its next stands
next_place : (P : Prog) (h : Header) (l : Located) (z : ℤ) (v : Identifier) (next : Stmt) → h.position ≡ l.position → stmt_in P l.position ≡ Literal z v next → h.position + 1 ≡ next_place_lem P l (some (Literal' z))
unfolding next_place_lem flatten_clauses
next_place P h l z v next p e = rw e (omega (arith, p))

pub literal-makes : (b : MachineKind) {P : Prog} {frame : Frame} {definitions : ℕ} {bytes store events store' events' : List ℕ} {h : Header} {l : Located} {at' payload : ℕ} {z : ℤ} {v : Identifier} {m : Result Step Stop}
    → ImageOf P frame definitions bytes → Stored (machine_for b) P store h l → record_at frame bytes h.position ≡ literal z v → payload ≡ of_z w64 z
    → Binds b store events h at' 8 v.id.0 payload store' events' m → Makes store events at' (resting (located_step (machine_for b) P l)) store' events' m
unfolding event_bytes
literal-makes b {P} {bytes} {store} {events} {store'} {events'} {h} {l} {at'} {payload} {z} {v} {m} p o e q w = go (stmt_in P l.position) refl (here p o (literal z v) e)
  where
    go : (t : Stmt) → stmt_in P l.position ≡ t → Is t (literal z v) → Makes store events at' (resting (located_step (machine_for b) P l)) store' events' m
    go t f (is_literal next) = binds-makes b o (Literal' z) next v.id z (goes P h l z v b o next f) (next_place P h l z v next (viewed o).position f) q refl w
