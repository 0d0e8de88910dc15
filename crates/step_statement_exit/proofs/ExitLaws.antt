-- Exit: the step of either machine. Assumes nothing.
use Rattle.std.specs.Prelude.{Result, Err}
use Prim.Native.Nat.{ℕ, ◌≤◌, ◌<◌}
use mathlib.Core.Path.{◌≡◌, refl, sym, ap, ap₂, ◌∙◌}
use mathlib.Core.Bool.{true}
use mathlib.Core.List.{List, map}
use mathlib.Core.Option.{none, some}
use native.Mathlib.Omega.{arith}
use lib.ListN.{length}
use Rattle.syntax.specs.declared.names.VarId.{VarId}
use Rattle.syntax.specs.declared.names.Identifier.{Identifier}
use Rattle.model.specs.Syntax.{Stmt, Exit, Prog}
use Rattle.model.specs.Lists.{lookup}
use Rattle.model.specs.Machine.{Value, int, cell, outside, ended, Outcome, shows, or_halt, Exit'}
use Rattle.model.specs.Source.{source_work}
use Rattle.model.specs.Linear.{linear_work}
use Rattle.image_spec.specs.Records.{exit}
use Rattle.image_directory.specs.declared.Frame.{Frame}
use Rattle.image_read_parts.specs.Indexed.{record_at}
use Rattle.step_slots.specs.Slots.{Slot}
use Rattle.step_spec.specs.declared.MachineKind.{MachineKind}
use Rattle.step_spec.specs.declared.MachineKind.TheVariants.{Source, Linear}
use Rattle.step_spec.specs.Located.{Machine, Located, stmt_in, cell_in, project, next_place_lem, located_step}
use Rattle.step_spec.specs.Store.{place_of}
use Rattle.step_spec.specs.Events.{event_head, shown_slot, event_bytes}
use Rattle.step_spec.proofs.Representable.{lookup-fits}
use Rattle.step_header.specs.declared.Header.{Header}
use Rattle.step_header.specs.Headers.{heap_in, entries_in}
use Rattle.step_entries.specs.Named.{named}
use Rattle.step_gather.specs.Gathering.{shown_as}
use Rattle.step_gather.proofs.CellNumbers.{cell-number}
use Rattle.step_write.specs.declared.Step.{Step}
use Rattle.step_write.specs.declared.Stop.{Stop}
use Rattle.step_write.specs.declared.Stop.TheVariants.{NoStep}
use Rattle.step_rule.specs.Rules.{machine_for, ImageOf, Stored, resting, Makes}
use Rattle.step_rule.proofs.Views.{viewed}
use Rattle.step_rule.proofs.Finds.{Sees, sees_none, sees-int, sees-cell, sees-outside, sees}
use Rattle.step_rule.proofs.Statements.{Is, is_exit, here}
use Rattle.step_rule.proofs.Machines.{source-works, linear-works}
use Rattle.step_lookup.proofs.LookupLaws.{Asks, goes_with, nothing-made}
use Rattle.step_stay.specs.Staying.{Stays}
use Rattle.step_stay.proofs.StayingLaws.{stays-ended}
use Rattle.step_statement_exit.specs.Shown.{number_at, shown_in}

-- ── what is shown ──

-- as in other events
pub as_shown : (heap : List Slot) (t : Slot) → (shown_as heap t).payload ≡ shown_in heap t
unfolding shown_in number_at
as_shown heap t = refl

module _ {M : Machine} {P : Prog} {store : List ℕ} {h : Header} {l : Located} (o : Stored M P store h l) where
  -- the value that a slot is, as an event shows it
  record Valued (x : VarId) (t : Slot) : Type 0 where
    value : Value
    there : some value ≡ lookup x l.environment
    sort : t.sort ≡ (shown_slot value).sort
    payload : shown_in (heap_in store h) t ≡ (shown_slot value).payload

  valued : (x : VarId) {t : Slot} → Sees (place_of l.cells) x l.environment t → t.sort ≤ 4 → Valued x t
  unfolding shown_in number_at
  valued x (sees_none e) s = absurd (omega arith)
  valued x (sees-int z e f) s = record { value = int z; there = sym e; sort = refl; payload = refl }
  valued x (sees-cell k e) s =
      let f : k < length l.cells = lookup-fits (length l.cells) x l.environment (cell k) (viewed o).fits.environment e in
      record { value = cell k; there = sym e; sort = refl; payload = ap (λ (H : List Slot). number_at H (place_of l.cells k)) (viewed o).heap ∙ cell-number l.cells k f }
  valued x (sees-outside n e) s = record { value = outside n; there = sym e; sort = refl; payload = refl }

  absent : (x : VarId) {t : Slot} → Sees (place_of l.cells) x l.environment t → t.sort ≡ 5 → none ≡ lookup x l.environment
  absent x (sees_none e) s = sym e
  absent x (sees-int z e f) s = absurd (omega arith)
  absent x (sees-cell k e) s = absurd (omega arith)
  absent x (sees-outside n e) s = absurd (omega arith)

-- ── the step ──

module _ (P : Prog) (l : Located) (v : Identifier) (e : stmt_in P l.position ≡ Exit v) where
  -- where there is a value
  abbrev ends : Value → Outcome
  ends x = shows (Exit' x) (ended (Exit v) l.environment (map (cell_in P) l.cells))

  -- what the machine does
  works : (b : MachineKind) {store : List ℕ} {h : Header} → Stored (machine_for b) P store h l → (machine_for b).step P (project P l) ≡ or_halt (lookup v.id l.environment) ends
  unfolding source_work linear_work
  works Linear o = linear-works o (Exit v) e
  works Source o = source-works o (Exit v) e

  goes : (b : MachineKind) {store : List ℕ} {h : Header} → Stored (machine_for b) P store h l → Asks (lookup v.id l.environment) ends ((machine_for b).step P (project P l))
  goes b o = record { is = works b o }

-- the statement that has the record
exit-there : {v : Identifier} {t : Stmt} → Is t (exit v) → t ≡ Exit v
exit-there is_exit = refl

module _ (b : MachineKind) {P : Prog} {frame : Frame} {definitions : ℕ} {bytes store : List ℕ} {h : Header} {l : Located} {v : Identifier} {t : Slot}
    (p : ImageOf P frame definitions bytes) (o : Stored (machine_for b) P store h l) (e : record_at frame bytes h.position ≡ exit v) (q : t ≡ named v.id.0 (entries_in store h))
    (events : List ℕ) (at' : ℕ) where
  pub exit-halts : t.sort ≡ 5 → Makes store events at' (resting (located_step (machine_for b) P l)) store events (Err NoStep)
  exit-halts s = nothing-made o events at' (goes P l v (exit-there (here p o (exit v) e)) b o) (absent o v.id (sees o v.id q) s)

  pub exit-makes : {detail payload : ℕ} {store' events' : List ℕ} {m : Result Step Stop} → t.sort ≤ 4 → detail ≡ t.sort → payload ≡ shown_in (heap_in store h) t
      → Stays store events h at' h.position true (event_head 13 detail 0 0 payload) store' events' m → Makes store events at' (resting (located_step (machine_for b) P l)) store' events' m
  unfolding event_bytes next_place_lem
  exit-makes s d k w =
      let r = valued o v.id (sees o v.id q) s in
      stays-ended o (Exit' r.value) (ap₂ {C = List ℕ} (λ (i j : ℕ). event_head 13 i 0 0 j) (d ∙ r.sort) (k ∙ r.payload)) (Exit v)
      (goes_with (goes P l v (exit-there (here p o (exit v) e)) b o) r.value r.there) (viewed o).position w
