-- The step of a Call. Assumes nothing.
use Prim.Native.Nat.{ℕ}
use mathlib.Core.Path.{◌≡◌, subst}
use mathlib.Core.List.{List, [], append-nil}
use Rattle.syntax.specs.Context.{Context, same_context}
use Rattle.syntax.specs.declared.names.Identifier.{Identifier}
use Rattle.model.specs.Rules.{freshen_unless_lem}
use Rattle.image_spec.specs.Records.{Record, call}
use Rattle.image_write_directory.specs.Emitting.{Progress}
use Rattle.pass_work_spec.specs.Work.{Work, bindings, used_all_lem}
use Rattle.pass_step_spec.specs.Steps.{step_call_lem}
use Rattle.pass_step.specs.Stepping.{Leaves, LeavesAs}
use Rattle.pass_step.proofs.EndLaws.{end_step}

-- nothing is wanted behind the arguments
call_ends : (label : Identifier) (Γ : Context) (W : Work) (n m : ℕ) → end_step W (used_all_lem W Γ) [] [] (call label []) n m ≡ step_call_lem label Γ W n m
unfolding step_call_lem
call_ends label Γ W n m = cc (append-nil (used_all_lem W Γ), append-nil (freshen_unless_lem (same_context (bindings W) (used_all_lem W Γ)) (used_all_lem W Γ) [] m).0)

pub call-leaves : {w : ℕ} {record' : Record} (label : Identifier) (Γ : Context) {clauses mask : ℕ} (W : Work) (n : ℕ) {out out' lengths lengths' : List ℕ} {p r : Progress}
    → record' ≡ call label Γ → Leaves w out out' lengths lengths' p r (end_step W (used_all_lem W Γ) [] [] (call label []) n p.max_id) → LeavesAs w record' clauses mask W n out out' lengths lengths' p r
call-leaves {w} label Γ W n {out} {out'} {lengths} {lengths'} {p} {r} e s = rw e record { leaves = λ fc fn _ _. subst (Leaves w out out' lengths lengths' p r) (call_ends label Γ W n p.max_id) s }
