-- Op: the step of either machine. Assumes nothing.
use Rattle.std.specs.Prelude.{Result, Err}
use Prim.Native.Nat.{ℕ, ◌+◌}
use mathlib.Core.Path.{◌≡◌, refl, sym, ap₂, ◌∙◌}
use mathlib.Core.List.{List, map}
use mathlib.Core.Option.{Option, none, some}
use native.Mathlib.Omega.{arith}
use lib.IntN.{ℤ}
use mir.Syntax.{w64}
use mir.Val.{of_z}
use Rattle.syntax.specs.declared.names.Identifier.{Identifier}
use Rattle.syntax.specs.declared.op.BinOp.{BinOp}
use Rattle.model.specs.Syntax.{Stmt, Op, Prog}
use Rattle.model.specs.Lists.{lookup}
use Rattle.model.specs.Integers.{eval_op}
use Rattle.model.specs.Machine.{int, at, Outcome, shows, or_halt, as_int, Op'}
use Rattle.model.specs.Source.{source_work}
use Rattle.model.specs.Linear.{linear_work}
use Rattle.image_spec.specs.Records.{op}
use Rattle.image_spec.specs.Shape.{flatten_clauses}
use Rattle.image_directory.specs.declared.Frame.{Frame}
use Rattle.image_read_parts.specs.Indexed.{record_at}
use Rattle.step_spec.specs.declared.MachineKind.{MachineKind}
use Rattle.step_spec.specs.declared.MachineKind.TheVariants.{Source, Linear}
use Rattle.step_spec.specs.Located.{Located, stmt_in, cell_in, project, next_place_lem, located_step}
use Rattle.step_spec.specs.Events.{event_bytes}
use Rattle.step_header.specs.declared.Header.{Header}
use Rattle.step_header.specs.Headers.{entries_in}
use Rattle.step_entries.specs.Named.{named}
use Rattle.step_write.specs.declared.Step.{Step}
use Rattle.step_write.specs.declared.Stop.{Stop}
use Rattle.step_write.specs.declared.Stop.TheVariants.{NoStep}
use Rattle.step_rule.specs.Rules.{machine_for, ImageOf, Stored, resting, Makes}
use Rattle.step_rule.proofs.Views.{viewed}
use Rattle.step_rule.proofs.Statements.{Is, is_op, here}
use Rattle.step_rule.proofs.Machines.{source-works, linear-works}
use Rattle.step_bind.specs.Binding.{Binds}
use Rattle.step_bind.proofs.BindingLaws.{added, binds-makes}
use Rattle.step_lookup.specs.Integer.{integer_in, of_both}
use Rattle.step_lookup.proofs.LookupLaws.{integer-seen, two_integers, Asks, goes_with, nothing-made}

-- what two operands give, as the slots show them
abbrev pub shown : (store : List ℕ) → Header → (fst : Identifier) → BinOp → (snd : Identifier) → Option ℤ
shown store h fst f snd = of_both (eval_op f) (integer_in (named fst.id.0 (entries_in store h))) (integer_in (named snd.id.0 (entries_in store h)))

module _ (P : Prog) (l : Located) (fst : Identifier) (f : BinOp) (snd v : Identifier) (next : Stmt) (e : stmt_in P l.position ≡ Op fst f snd v next) where
  -- the step, where the operator gives an integer
  abbrev adds : (b : MachineKind) → ℤ → Outcome
  adds b z = shows (Op' z) (at next (added b (v.id, int z) l.environment) (map (cell_in P) l.cells))

  -- what the machine does
  works : (b : MachineKind) {store : List ℕ} {h : Header} → Stored (machine_for b) P store h l → (machine_for b).step P (project P l)
      ≡ or_halt (lookup fst.id l.environment) λ v. or_halt (lookup snd.id l.environment) λ w. or_halt (as_int v) λ x. or_halt (as_int w) λ y. or_halt (eval_op f x y) (adds b)
  unfolding source_work linear_work
  works Linear o = linear-works o (Op fst f snd v next) e
  works Source o = source-works o (Op fst f snd v next) e

  goes : (b : MachineKind) {store : List ℕ} {h : Header} → Stored (machine_for b) P store h l → Asks (shown store h fst f snd) (adds b) ((machine_for b).step P (project P l))
  goes b o =
      let x = lookup fst.id l.environment in
      let y = lookup snd.id l.environment in
      record {
        is = works b o
            ∙ (two_integers x y (eval_op f) (adds b)
            ∙ ap₂ {C = Outcome} (λ (i j : Option ℤ). or_halt (of_both (eval_op f) i j) (adds b)) (sym (integer-seen o fst.id)) (sym (integer-seen o snd.id)));
      }

  -- where its next stands
  next_place : (z : ℤ) (h : Header) → h.position ≡ l.position → h.position + 1 ≡ next_place_lem P l (some (Op' z))
  unfolding next_place_lem flatten_clauses
  next_place z h p = rw e (omega (arith, p))

-- the statement that has the record
there : {fst : Identifier} {f : BinOp} {snd v : Identifier} {t : Stmt} → Is t (op fst f snd v) → (next : Stmt) × (t ≡ Op fst f snd v next)
there (is_op next) = (next, refl)

module _ (b : MachineKind) {P : Prog} {frame : Frame} {definitions : ℕ} {bytes store : List ℕ} {h : Header} {l : Located} {fst : Identifier} {f : BinOp} {snd v : Identifier}
    (p : ImageOf P frame definitions bytes) (o : Stored (machine_for b) P store h l) (e : record_at frame bytes h.position ≡ op fst f snd v) (events : List ℕ) (at' : ℕ) where
  pub op-halts : none ≡ shown store h fst f snd → Makes store events at' (resting (located_step (machine_for b) P l)) store events (Err NoStep)
  op-halts w = let t = there (here p o (op fst f snd v) e) in nothing-made o events at' (goes P l fst f snd v t.0 t.1 b o) w

  pub op-makes : (z : ℤ) {payload : ℕ} {store' events' : List ℕ} {m : Result Step Stop} → some z ≡ shown store h fst f snd → payload ≡ of_z w64 z
      → Binds b store events h at' 9 v.id.0 payload store' events' m → Makes store events at' (resting (located_step (machine_for b) P l)) store' events' m
  unfolding event_bytes
  op-makes z w q d =
      let t = there (here p o (op fst f snd v) e) in
      binds-makes b o (Op' z) t.0 v.id z (goes_with (goes P l fst f snd v t.0 t.1 b o) z w) (next_place P l fst f snd v t.0 t.1 z h (viewed o).position) q refl d
