-- The step of an Op: its inputs are retained, and a var is bound behind what is. Assumes nothing.
use Prim.Native.Nat.{ℕ}
use mathlib.Core.Path.{◌≡◌, ap, ◌∙◌, subst}
use mathlib.Core.List.{List}
use Rattle.syntax.specs.declared.names.Identifier.{Identifier}
use Rattle.syntax.specs.declared.context.Chirality.TheVariants.{Ext}
use Rattle.syntax.specs.declared.types.Ty.TheVariants.{I64}
use Rattle.syntax.specs.declared.op.BinOp.{BinOp}
use Rattle.model.specs.Rules.{bind}
use Rattle.image_spec.specs.Records.{Record, op}
use Rattle.image_write_directory.specs.Emitting.{Progress}
use Rattle.pass_work_spec.specs.Work.{Work, used}
use Rattle.pass_entries.specs.Masks.{kept_by_mask, with_places_lem, InPlaces}
use Rattle.pass_step_spec.specs.Steps.{step_op}
use Rattle.pass_step.specs.Stepping.{Steps, StepsAs, Stepped}
use Rattle.pass_step.proofs.StepLaws.{kept-says}
use Rattle.pass_step.proofs.BindLaws.{binds_behind, says_with}

-- the inputs are written as they are called in the context, and what the mask with their places retains stands before the var
pub op-steps : {w : ℕ} {record' : Record} (fst : Identifier) (o : BinOp) (snd var : Identifier) {clauses mask more : ℕ} {W : Work} {n : ℕ} {out out' lengths lengths' : List ℕ} {p : Progress} {r : Stepped}
    {a b : Identifier} → InPlaces W → record' ≡ op fst o snd var → more ≡ with_places_lem fst.id snd.id W mask → a ≡ used W fst → b ≡ used W snd
    → Steps w out out' lengths lengths' p r (binds_behind (kept_by_mask more W) W (op a o b var) (bind var Ext I64) n p.max_id)
    → StepsAs w record' clauses mask W n out out' lengths lengths' p r
unfolding step_op binds_behind
op-steps {w} {record'} fst o snd var {clauses} {mask} {more} {W} {n} {out} {out'} {lengths} {lengths'} {p} {r} {a} {b} i e k f g x =
    rw e record {
      steps = λ fc fn _ s.
          subst (Steps w out out' lengths lengths' p r)
          (ap (λ (y : Identifier). binds_behind (kept_by_mask more W) W (op y o b var) (bind var Ext I64) n p.max_id) f
          ∙ ap (λ (y : Identifier). binds_behind (kept_by_mask more W) W (op (used W fst) o y var) (bind var Ext I64) n p.max_id) g
          ∙ ap (λ (N : Work). binds_behind N W (op (used W fst) o (used W snd) var) (bind var Ext I64) n p.max_id)
          (ap (λ (m : ℕ). kept_by_mask m W) k ∙ kept-says (says_with fst.id snd.id i s)))
          x;
    }
