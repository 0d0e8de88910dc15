-- PrintI64: the step of either machine. Assumes nothing.
use Rattle.std.specs.Prelude.{Result, Err}
use Prim.Native.Nat.{ℕ, ◌+◌}
use mathlib.Core.Path.{◌≡◌, refl, sym, ap, ap₂, ◌∙◌}
use mathlib.Core.Bool.{Bool, true, false}
use mathlib.Core.List.{List, map}
use mathlib.Core.Option.{Option, none, some}
use native.Mathlib.Omega.{arith}
use lib.IntN.{ℤ}
use mir.Syntax.{w64}
use mir.Val.{of_z}
use Rattle.syntax.specs.declared.names.Identifier.{Identifier}
use Rattle.model.specs.Syntax.{Stmt, PrintI64, Prog}
use Rattle.model.specs.Lists.{lookup}
use Rattle.model.specs.Machine.{at, Outcome, shows, or_halt, as_int, PrintI64'}
use Rattle.model.specs.Source.{source_work}
use Rattle.model.specs.Linear.{linear_work}
use Rattle.image_spec.specs.Fields.{newline_code_lem}
use Rattle.image_spec.specs.Records.{print}
use Rattle.image_spec.specs.Shape.{flatten_clauses}
use Rattle.image_directory.specs.declared.Frame.{Frame}
use Rattle.image_read_parts.specs.Indexed.{record_at}
use Rattle.step_spec.specs.declared.MachineKind.{MachineKind}
use Rattle.step_spec.specs.declared.MachineKind.TheVariants.{Source, Linear}
use Rattle.step_spec.specs.Located.{Located, stmt_in, cell_in, project, next_place_lem, located_step}
use Rattle.step_spec.specs.Store.{bit}
use Rattle.step_spec.specs.Events.{event_head, event_bytes}
use Rattle.step_header.specs.declared.Header.{Header}
use Rattle.step_header.specs.Headers.{entries_in}
use Rattle.step_entries.specs.Named.{named}
use Rattle.step_write.specs.declared.Step.{Step}
use Rattle.step_write.specs.declared.Stop.{Stop}
use Rattle.step_write.specs.declared.Stop.TheVariants.{NoStep}
use Rattle.step_rule.specs.Rules.{machine_for, ImageOf, Stored, resting, Makes}
use Rattle.step_rule.proofs.Views.{viewed}
use Rattle.step_rule.proofs.Statements.{Is, is_print, here}
use Rattle.step_rule.proofs.Machines.{source-works, linear-works}
use Rattle.step_lookup.specs.Integer.{integer_in}
use Rattle.step_lookup.proofs.LookupLaws.{integer-seen, one-integer, Asks, goes_with, nothing-made}
use Rattle.step_stay.specs.Staying.{Stays}
use Rattle.step_stay.proofs.StayingLaws.{stays-makes}

-- the integer, as the slots show it
abbrev pub shown : (store : List ℕ) → Header → Identifier → Option ℤ
shown store h v = integer_in (named v.id.0 (entries_in store h))

-- the newline byte is that of the record
pub newline-bit : (n : Bool) → newline_code_lem n ≡ bit n
newline-bit true = refl
newline-bit false = refl

module _ (P : Prog) (l : Located) (newline : Bool) (v : Identifier) (next : Stmt) (e : stmt_in P l.position ≡ PrintI64 newline v next) where
  -- the step, where there is an integer
  abbrev prints : ℤ → Outcome
  prints z = shows (PrintI64' newline z) (at next l.environment (map (cell_in P) l.cells))

  -- what the machine does
  works : (b : MachineKind) {store : List ℕ} {h : Header} → Stored (machine_for b) P store h l
      → (machine_for b).step P (project P l) ≡ or_halt (lookup v.id l.environment) λ x. or_halt (as_int x) prints
  unfolding source_work linear_work
  works Linear o = linear-works o (PrintI64 newline v next) e
  works Source o = source-works o (PrintI64 newline v next) e

  goes : (b : MachineKind) {store : List ℕ} {h : Header} → Stored (machine_for b) P store h l → Asks (shown store h v) prints ((machine_for b).step P (project P l))
  goes b o = record { is = works b o ∙ (one-integer (lookup v.id l.environment) prints ∙ ap (λ (x : Option ℤ). or_halt x prints) (sym (integer-seen o v.id))) }

  -- where its next stands
  next_place : (z : ℤ) (h : Header) → h.position ≡ l.position → h.position + 1 ≡ next_place_lem P l (some (PrintI64' newline z))
  unfolding next_place_lem flatten_clauses
  next_place z h p = rw e (omega (arith, p))

-- the statement that has the record
there : {newline : Bool} {v : Identifier} {t : Stmt} → Is t (print newline v) → (next : Stmt) × (t ≡ PrintI64 newline v next)
there (is_print next) = (next, refl)

module _ (b : MachineKind) {P : Prog} {frame : Frame} {definitions : ℕ} {bytes store : List ℕ} {h : Header} {l : Located} {newline : Bool} {v : Identifier}
    (p : ImageOf P frame definitions bytes) (o : Stored (machine_for b) P store h l) (e : record_at frame bytes h.position ≡ print newline v) (events : List ℕ) (at' : ℕ) where
  pub print-halts : none ≡ shown store h v → Makes store events at' (resting (located_step (machine_for b) P l)) store events (Err NoStep)
  print-halts w = let t = there (here p o (print newline v) e) in nothing-made o events at' (goes P l newline v t.0 t.1 b o) w

  pub print-makes : (z : ℤ) {detail payload : ℕ} {store' events' : List ℕ} {m : Result Step Stop} → some z ≡ shown store h v → detail ≡ newline_code_lem newline → payload ≡ of_z w64 z
      → Stays store events h at' (h.position + 1) false (event_head 12 detail 0 0 payload) store' events' m → Makes store events at' (resting (located_step (machine_for b) P l)) store' events' m
  unfolding event_bytes
  print-makes z w d q s =
      let t = there (here p o (print newline v) e) in
      stays-makes o (PrintI64' newline z) (ap₂ {C = List ℕ} (λ (i j : ℕ). event_head 12 i 0 0 j) (d ∙ newline-bit newline) q) t.0 (goes_with (goes P l newline v t.0 t.1 b o) z w)
      (next_place P l newline v t.0 t.1 z h (viewed o).position) s
