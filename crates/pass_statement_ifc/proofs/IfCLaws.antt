-- The step of an IfC. Assumes nothing.
use Prim.Native.Nat.{ℕ}
use mathlib.Core.Path.{◌≡◌, ap}
use mathlib.Core.List.{List}
use mathlib.Core.Option.{Option, some}
use Rattle.std.specs.Prelude.{Option as Maybe, None, Some}
use Rattle.std.specs.Option.{MatchOption, IsSomeAnd}
use Rattle.syntax.specs.Options.{option_of}
use Rattle.syntax.specs.declared.names.Identifier.{Identifier}
use Rattle.syntax.specs.declared.ifc.IfSort.{IfSort}
use Rattle.image_spec.specs.Records.{Record, ifc, record_bytes}
use Rattle.image_write_parts.specs.Puts.{Puts}
use Rattle.image_write_directory.specs.Emitting.{Noted, Progress}
use Rattle.image_write_directory.proofs.EmitLaws.{emits_one}
use Rattle.pass_work_spec.specs.Work.{Work, used, used_option}
use Rattle.pass_step_spec.specs.Steps.{step_if_c}
use Rattle.pass_step.specs.Stepping.{LeavesAs}

pub ifc-leaves : {w : ℕ} {record' : Record} (sort : IfSort) (fst : Identifier) (snd : Option Identifier) (W : Work) {clauses mask : ℕ} {n : ℕ} {out out' lengths lengths' : List ℕ} {p r : Progress} {next : ℕ}
    {a : Identifier} {b : Option Identifier}
    → record' ≡ ifc sort fst snd → a ≡ used W fst → b ≡ used_option W snd → Puts out out' p.at next (record_bytes w (ifc sort a b)) → Noted r p next lengths lengths'
    → LeavesAs w record' clauses mask W n out out' lengths lengths' p r
unfolding step_if_c
ifc-leaves sort fst snd W e f g u m =
    rw e record { leaves = λ fc fn _ _. record { emits = rw (← f, ← g) (emits_one (ifc sort _ _) u m); max_id = m.max_id } }

-- each is used where there is one
pub used-map : (W : Work) {P : Identifier → Identifier → Type 0} (o r : Maybe Identifier) → MatchOption o (r ≡ None) (λ x. IsSomeAnd r (P x)) → ((x y : Identifier) → P x y → y ≡ used W x)
    → option_of r ≡ used_option W (option_of o)
used-map W None r e f = rw e
used-map W (Some x) None e f = absurd e
used-map W (Some x) (Some y) e f = ap some (f x y e)
