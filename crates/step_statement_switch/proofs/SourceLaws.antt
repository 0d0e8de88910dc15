-- Switch: the source machine's. Assumes nothing.
use Prim.Native.Nat.{ℕ}
use mathlib.Core.Path.{◌≡◌, refl, ap, ◌∙◌, subst}
use mathlib.Core.List.{List, [], ◌++◌}
use Rattle.std.specs.Prelude.{Result}
use Rattle.syntax.specs.Context.{Context}
use Rattle.syntax.specs.declared.names.Name.{Name}
use Rattle.syntax.specs.declared.names.Identifier.{Identifier}
use Rattle.model.specs.Syntax.{Stmt, Switch, Prog}
use Rattle.model.specs.Lists.{lookup}
use Rattle.model.specs.Machine.{Entries, at, shows, Switch'}
use Rattle.model.specs.Source.{source_work}
use Rattle.image_directory.specs.declared.Frame.{Frame}
use Rattle.image_read_nodes.specs.Nodes.{first_of}
use Rattle.image_read_parts.specs.Indexed.{record_at, At}
use Rattle.step_slots.specs.Slots.{Slot}
use Rattle.step_spec.specs.Located.{source_machine, Located, stmt_in, located_step}
use Rattle.step_header.specs.declared.Header.{Header}
use Rattle.step_header.specs.Headers.{entries_in}
use Rattle.step_entries.specs.Named.{named}
use Rattle.step_cells.proofs.CellLaws.{cells_of, looked-up}
use Rattle.step_write.specs.declared.Step.{Step}
use Rattle.step_write.specs.declared.Stop.{Stop}
use Rattle.step_rule.specs.Rules.{ImageOf, Stored, resting, Makes}
use Rattle.step_rule.proofs.Finds.{sees}
use Rattle.step_rule.proofs.Machines.{source-works}
use Rattle.step_enter.proofs.Around.{before-all}
use Rattle.step_statement_switch.specs.Switching.{Switches}
use Rattle.step_statement_switch.proofs.TheSwitch.{Switching, the_switch}
use Rattle.step_statement_switch.proofs.SwitchLaws.{Works, switches-makes}

module _ {P : Prog} {frame : Frame} {definitions : ℕ} {bytes store : List ℕ} {h : Header} {l : Located} (p : ImageOf P frame definitions bytes) (o : Stored source_machine P store h l) where
  -- what the machine does
  works : (t : Switching (stmt_in P l.position) (record_at frame bytes h.position))
      → Works source_machine P l t.clauses (lookup t.var.id l.environment) [] l.environment
  unfolding source_work
  works t = record {
    enter = λ (k : ℕ) (tag : Name) (c : Context × Stmt) (new : Entries). shows (Switch' k tag) (at c.1 (new ++ l.environment) (cells_of P l));
    works = source-works o (Switch t.var t.ty t.clauses) t.is;
    shown = λ k tag c new e. e;
  }

  pub source-makes : {i : ℕ} {var : Identifier} {value : Slot} {back at' : ℕ} {events store' events' : List ℕ} {m : Result Step Stop} → At frame bytes h.position 5
      → i ≡ h.position → var ≡ first_of (record_at frame bytes i) → value ≡ named var.id.0 (entries_in store h) → back ≡ h.entries
      → Switches frame bytes store events h at' value 0 back store' events' m → Makes store events at' (resting (located_step source_machine P l)) store' events' m
  source-makes {var = var} {value = value} {at' = at'} {events = events} {store' = store'} {events' = events'} {m = m} a i v e n w =
      let t = the_switch p o a in
      let x : var ≡ t.var = v ∙ (ap (λ (k : ℕ). first_of (record_at frame bytes k)) i ∙ ap first_of t.holds) in
      let q : value ≡ named t.var.id.0 (entries_in store h) = e ∙ ap (λ (y : Identifier). named y.id.0 (entries_in store h)) x in
      switches-makes p o t (works t) (looked-up o t.var.id (sees o t.var.id q) refl) (before-all o)
      (subst (λ (k : ℕ). Switches frame bytes store events h at' value 0 k store' events' m) n w)
