-- The step of an Exit. Assumes nothing.
use Prim.Native.Nat.{ℕ}
use mathlib.Core.Path.{◌≡◌}
use mathlib.Core.List.{List}
use Rattle.syntax.specs.declared.names.Identifier.{Identifier}
use Rattle.image_spec.specs.Records.{Record, exit, record_bytes}
use Rattle.image_write_parts.specs.Puts.{Puts}
use Rattle.image_write_directory.specs.Emitting.{Noted, Progress}
use Rattle.image_write_directory.proofs.EmitLaws.{emits_one}
use Rattle.pass_work_spec.specs.Work.{Work, used}
use Rattle.pass_step_spec.specs.Steps.{step_exit}
use Rattle.pass_step.specs.Stepping.{LeavesAs}

pub exit-leaves : {w : ℕ} {record' : Record} (var : Identifier) (W : Work) {clauses mask : ℕ} {n : ℕ} {out out' lengths lengths' : List ℕ} {p r : Progress} {next : ℕ} {a : Identifier}
    → record' ≡ exit var → a ≡ used W var → Puts out out' p.at next (record_bytes w (exit a)) → Noted r p next lengths lengths'
    → LeavesAs w record' clauses mask W n out out' lengths lengths' p r
unfolding step_exit
exit-leaves var W e f u m = rw e record { leaves = λ fc fn _ _. record { emits = rw (← f) (emits_one (exit _) u m); max_id = m.max_id } }
