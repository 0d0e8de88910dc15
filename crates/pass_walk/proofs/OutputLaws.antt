-- What was done to an output that another step left: with the width of the one that the walk began with. Assumes nothing.
use Prim.Native.Nat.{ℕ}
use mathlib.Core.Path.{◌≡◌, subst, ◌∙◌}
use mathlib.Core.List.{List}
use Rattle.image_spec.specs.Records.{Record}
use Rattle.image_write_directory.specs.Emitting.{Progress}
use Rattle.image_write_directory.specs.Outputs.{so_far, Keeps, Unwritten}
use Rattle.image_write_directory.specs.declared.output.Output.{Output}
use Rattle.pass_work_spec.specs.Work.{Work}
use Rattle.pass_step_spec.specs.Steps.{Step}
use Rattle.pass_step.specs.Stepping.{Stepped, Opened, Steps, StepsAs, LeavesAs, OpensAs, OpenedAs}
use Rattle.pass_step.proofs.OpenLaws.{opened_as}
use Rattle.pass_walk.specs.Walking.{Linearized, LinearizedTo}
use Rattle.pass_walk.specs.Outputs.{LinearizedIn}

module _ {w w' : ℕ} (e : w' ≡ w) {out out' lengths lengths' : List ℕ} {p : Progress} where
  pub step-width : {r : Stepped} {x : Step} → Steps w' out out' lengths lengths' p r x → Steps w out out' lengths lengths' p r x
  step-width {r} {x} s = subst (λ (v : ℕ). Steps v out out' lengths lengths' p r x) e s

  pub steps-width : {z : Record} {c n : ℕ} {W : Work} {m : ℕ} {r : Stepped} → StepsAs w' z c n W m out out' lengths lengths' p r → StepsAs w z c n W m out out' lengths lengths' p r
  steps-width {z} {c} {n} {W} {m} {r} s = subst (λ (v : ℕ). StepsAs v z c n W m out out' lengths lengths' p r) e s

  pub leaves-width : {z : Record} {c n : ℕ} {W : Work} {m : ℕ} {q : Progress} → LeavesAs w' z c n W m out out' lengths lengths' p q → LeavesAs w z c n W m out out' lengths lengths' p q
  leaves-width {z} {c} {n} {W} {m} {q} s = subst (λ (v : ℕ). LeavesAs v z c n W m out out' lengths lengths' p q) e s

  pub linearized-width : {r : Linearized} {place : ℕ} {R : List Record} {top : ℕ} → LinearizedTo w' out out' lengths lengths' p r place R top → LinearizedTo w out out' lengths lengths' p r place R top
  linearized-width {r} {place} {R} {top} s = subst (λ (v : ℕ). LinearizedTo v out out' lengths lengths' p r place R top) e s

-- what was written behind a place that was kept free
pub linearized-behind : {o o₁ o₂ : Output} {next place : ℕ} {R : List Record} {top : ℕ} → Unwritten o o₁ → LinearizedIn o₁ o₂ next place R top
    → LinearizedTo o.writer.id o.writer.out.now o₂.writer.out.now o.lengths.now o₂.lengths.now (so_far o₁) (record { next = next; progress = so_far o₂ }) place R top
linearized-behind {o} {o₁} {o₂} {next} {place} {R} {top} u y =
    let r : Linearized = record { next = next; progress = so_far o₂ } in
    subst (λ (v : List ℕ). LinearizedTo o.writer.id o.writer.out.now o₂.writer.out.now v o₂.lengths.now (so_far o₁) r place R top) u.lengths
    (subst (λ (v : List ℕ). LinearizedTo o.writer.id v o₂.writer.out.now o₁.lengths.now o₂.lengths.now (so_far o₁) r place R top) u.out
    (linearized-width u.keeps.id y.0))

-- what was opened, however far the output has come since
pub opened-since : {w : ℕ} {z : Record} {c n : ℕ} {W : Work} {p : Progress} {r : Opened} (q : Progress) → OpensAs w z c n W p r → OpenedAs z c n W (record { context = r.context; right = r.right; progress = q })
opened-since q o = let a = opened_as o in record { context = a.context; right = a.right }
