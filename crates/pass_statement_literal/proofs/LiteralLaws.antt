-- The step of a Literal. Assumes nothing.
use Prim.Native.Nat.{ℕ, ◌+◌}
use mathlib.Core.Path.{◌≡◌, subst}
use mathlib.Core.Bool.{Bool}
use mathlib.Core.List.{List, [], ◌∷◌, ◌++◌}
use lib.IntN.{ℤ}
use Rattle.syntax.specs.Context.{same_context}
use Rattle.syntax.specs.declared.names.Identifier.{Identifier}
use Rattle.syntax.specs.declared.context.Chirality.TheVariants.{Ext}
use Rattle.syntax.specs.declared.types.Ty.TheVariants.{I64}
use Rattle.model.specs.Rules.{bind}
use Rattle.image_spec.specs.Records.{Record, literal, record_bytes}
use Rattle.image_write_parts.specs.Puts.{Puts}
use Rattle.image_write_directory.specs.Emitting.{Noted, Progress}
use Rattle.pass_work_spec.specs.Work.{Work, bindings, own}
use Rattle.pass_context.specs.Holding.{work_of, HoldsWork}
use Rattle.pass_entries.specs.Masks.{kept_by_mask}
use Rattle.pass_context.specs.declared.Held.{Held}
use Rattle.pass_step_spec.specs.Steps.{arranged, step_literal}
use Rattle.pass_step.specs.Stepping.{Arranges, Steps, StepsAs, Stepped}
use Rattle.pass_step.proofs.StepLaws.{kept-says}
use Rattle.pass_step.proofs.BindLaws.{binds_behind, binds-steps}

pub literal-steps : {w : ℕ} {record' : Record} (lit : ℤ) (var : Identifier) {clauses mask : ℕ} {W : Work} {n : ℕ} {out mid out' lengths middle lengths' : List ℕ} {p q : Progress} {next : ℕ} {r : Stepped}
    {new : Held} {right : Bool}
    → record' ≡ literal lit var → HoldsWork new (kept_by_mask mask W) → right ≡ same_context (bindings W) (bindings (kept_by_mask mask W))
    → Arranges w out mid lengths middle p q (arranged right (bindings (work_of new)) (bindings (work_of new)))
    → Puts mid out' q.at next (record_bytes w (literal lit var)) → Noted r.progress q next middle lengths'
    → HoldsWork r.context (work_of new ++ (own n (bind var Ext I64) ∷ [])) → r.in_scope ≡ n + 1
    → StepsAs w record' clauses mask W n out out' lengths lengths' p r
unfolding step_literal binds_behind
literal-steps {w} {record'} lit var {clauses} {mask} {W} {n} {out} {mid} {out'} {lengths} {middle} {lengths'} {p} {q} {next} {r} {new} {right} e h b a u m x y =
    rw e record {
      steps = λ fc fn _ s.
          subst (λ (N : Work). Steps w out out' lengths lengths' p r (binds_behind N W (literal lit var) (bind var Ext I64) n p.max_id)) (kept-says s) (binds-steps (literal lit var) (bind var Ext I64) W n h b a u m x y);
    }
