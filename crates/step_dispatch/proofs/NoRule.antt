-- Where there is no rule: records that are no statement, and a Substitute in the source machine. Assumes nothing.
use Rattle.std.specs.Prelude.{Err}
use Prim.Native.Nat.{ℕ, ◌≤◌, ◌<◌}
use mathlib.Core.Path.{◌≡◌, refl, ◌∙◌, subst}
use mathlib.Core.List.{map}
use native.Mathlib.Omega.{arith}
use Rattle.model.specs.Syntax.{Stmt, Prog}
use Rattle.model.specs.Machine.{halts}
use Rattle.model.specs.Source.{source_work}
use Rattle.image_spec.specs.Records.{Record}
use Rattle.image_spec.specs.Kinds.{kind_of}
use Rattle.image_kinds.specs.Codes.{code_of}
use Rattle.image_kinds.specs.declared.kinds.Kind.{Kind}
use Rattle.image_kinds.proofs.KindNames.{same_code}
use Rattle.image_read_parts.specs.Indexed.{record_at, At}
use Rattle.step_spec.specs.Located.{Machine, source_machine, Located, stmt_in, cell_in}
use Rattle.step_write.specs.declared.Work.{Work}
use Rattle.step_write.specs.declared.Stop.TheVariants.{NoStep}
use Rattle.step_places.specs.declared.stepper.Stepper.{Stepper}
use Rattle.step_rule.specs.Rules.{no_step, MakesAs}
use Rattle.step_rule.proofs.Ways.{halted}
use Rattle.step_rule.proofs.Statements.{Is, is_substitute, is_call, is_let, is_switch, is_create_lem, is_invoke, is_literal, is_op, is_ifc, is_print, is_exit, here}
use Rattle.step_rule.proofs.Machines.{source-works}

-- another kind has another byte
pub other_byte : (k j : Kind) → (k ≡ j → ⊥) → code_of k ≡ code_of j → ⊥
other_byte k j n e = n (same_code k j e)

-- the kinds of the records of statements
abbrev pub StatementKind : ℕ → Type 0
StatementKind k = (2 ≤ k) × (k ≡ 11 → ⊥)

is_of : {t : Stmt} {r : Record} → Is t r → StatementKind (kind_of r)
is_of (is_substitute next) = (omega arith, λ e. omega arith)
is_of is_call = (omega arith, λ e. omega arith)
is_of (is_let next) = (omega arith, λ e. omega arith)
is_of (is_switch cs) = (omega arith, λ e. omega arith)
is_of (is_create_lem cs next) = (omega arith, λ e. omega arith)
is_of is_invoke = (omega arith, λ e. omega arith)
is_of (is_literal next) = (omega arith, λ e. omega arith)
is_of (is_op next) = (omega arith, λ e. omega arith)
is_of (is_ifc t e) = (omega arith, λ e. omega arith)
is_of (is_print next) = (omega arith, λ e. omega arith)
is_of is_exit = (omega arith, λ e. omega arith)

module _ {stepper : Stepper} {w : Work} {k : ℕ} (a : At stepper.image.frame stepper.image.bytes.now w.header.position k) where
  -- no statement has a record of this kind
  pub no-statement : {M : Machine} → (StatementKind k → ⊥) → MakesAs M stepper w w (Err NoStep)
  no-statement f = record { makes = λ P l p o. absurd (f (subst StatementKind a.kind (is_of (here p o (record_at stepper.image.frame stepper.image.bytes.now w.header.position) refl)))) }

  -- the source machine has no rule for a Substitute
  pub no-source-rule : k < 3 → MakesAs source_machine stepper w w (Err NoStep)
  unfolding source_work
  no-source-rule b = record {
    makes = λ P l p o.
        let i = here p o (record_at stepper.image.frame stepper.image.bytes.now w.header.position) refl in
        rw (halted o (source-works o (stmt_in P l.position) refl ∙ go P l (stmt_in P l.position) (record_at stepper.image.frame stepper.image.bytes.now w.header.position) i (omega (arith, a.kind, b)))) no_step;
  }
    where
      go : (P : Prog) (l : Located) (t : Stmt) (r : Record) → Is t r → kind_of r < 3 → source_work P t l.environment (map (cell_in P) l.cells) ≡ halts
      go P l t r (is_substitute next) b = refl
      go P l t r is_call b = absurd (omega (arith, b))
      go P l t r (is_let next) b = absurd (omega (arith, b))
      go P l t r (is_switch cs) b = absurd (omega (arith, b))
      go P l t r (is_create_lem cs next) b = absurd (omega (arith, b))
      go P l t r is_invoke b = absurd (omega (arith, b))
      go P l t r (is_literal next) b = absurd (omega (arith, b))
      go P l t r (is_op next) b = absurd (omega (arith, b))
      go P l t r (is_ifc u v) b = absurd (omega (arith, b))
      go P l t r (is_print next) b = absurd (omega (arith, b))
      go P l t r is_exit b = absurd (omega (arith, b))
