-- The step of an Invoke. Assumes nothing.
use Prim.Native.Nat.{ℕ}
use mathlib.Core.Path.{◌≡◌, subst}
use mathlib.Core.List.{List, [], ◌∷◌, ◌++◌}
use Rattle.syntax.specs.Context.{Context}
use Rattle.syntax.specs.Arrays.{set_of, SetHolds}
use Rattle.syntax.specs.declared.names.VarId.{VarId}
use Rattle.syntax.specs.declared.names.Identifier.{Identifier}
use Rattle.syntax.specs.declared.sets.IdSet.{IdSet}
use Rattle.syntax.specs.declared.types.Ty.{Ty}
use Rattle.syntax.specs.declared.context.Chirality.TheVariants.{Cns}
use Rattle.model.specs.Rules.{bind}
use Rattle.image_spec.specs.Records.{Record, invoke}
use Rattle.image_write_directory.specs.Emitting.{Progress}
use Rattle.pass_work_spec.specs.Work.{Work, used, used_all_lem}
use Rattle.pass_step_spec.specs.Steps.{step_invoke}
use Rattle.pass_step.specs.Stepping.{Leaves, LeavesAs}
use Rattle.pass_step.proofs.EndLaws.{end_step}

-- one ID, added to the empty set
pub set-holds-one : {none s : IdSet} {x : VarId} → SetHolds none [] → SetHolds s (set_of none ++ (x ∷ [])) → SetHolds s (x ∷ [])
set-holds-one {s = s} {x = x} n h = subst (λ (xs : List VarId). SetHolds s (xs ++ (x ∷ []))) n.list h

-- the closure is wanted behind the arguments, under the name that its use is written as
pub invoke-leaves : {w : ℕ} {record' : Record} (var tag : Identifier) (ty : Ty) (Γ : Context) {clauses mask : ℕ} (W : Work) (n : ℕ) {out out' lengths lengths' : List ℕ} {p r : Progress} (closure : Identifier)
    → record' ≡ invoke var tag ty Γ → closure ≡ used W var
    → Leaves w out out' lengths lengths' p r (end_step W (used_all_lem W Γ) (bind closure Cns ty ∷ []) (closure.id ∷ []) (invoke closure tag ty []) n p.max_id) → LeavesAs w record' clauses mask W n out out' lengths lengths' p r
unfolding step_invoke
invoke-leaves {w} var tag ty Γ W n {out} {out'} {lengths} {lengths'} {p} {r} closure e v s =
    rw e record {
      leaves = λ fc fn _ _. subst (λ (x : Identifier). Leaves w out out' lengths lengths' p r (end_step W (used_all_lem W Γ) (bind x Cns ty ∷ []) (x.id ∷ []) (invoke x tag ty []) n p.max_id)) v s;
    }
