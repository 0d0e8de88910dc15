-- The step of a PrintI64: its var is retained beside what its next needs, and nothing is bound. Assumes nothing.
use Prim.Native.Nat.{ℕ}
use mathlib.Core.Path.{◌≡◌, ap, ◌∙◌, subst}
use mathlib.Core.Bool.{Bool, or_self_left}
use mathlib.Core.List.{List, [], ◌∷◌, ◌++◌}
use Rattle.syntax.specs.Names.{same_var_id}
use Rattle.syntax.specs.Sets.{elem}
use Rattle.syntax.specs.Context.{same_context}
use Rattle.syntax.specs.declared.names.VarId.{VarId}
use Rattle.syntax.specs.declared.names.Identifier.{Identifier}
use Rattle.image_spec.specs.Records.{Record, print}
use Rattle.image_write_directory.specs.Emitting.{Emits, Progress}
use Rattle.pass_work_spec.specs.Work.{Work, bindings, used}
use Rattle.pass_context.specs.Holding.{HoldsWork}
use Rattle.pass_entries.specs.Masks.{kept_by_mask, with_places_lem, InPlaces}
use Rattle.pass_step_spec.specs.Steps.{Step, arranged, step_print_i64}
use Rattle.pass_step.specs.Stepping.{Says, Steps, StepsAs, Stepped}
use Rattle.pass_step.proofs.StepLaws.{kept-says}
use Rattle.pass_step.proofs.BindLaws.{says_with}

-- one variable twice is the variable once
says-one : (x : VarId) {mask : ℕ} {s : List VarId} {W : Work} → InPlaces W → Says mask s W → Says (with_places_lem x x W mask) (x ∷ s) W
says-one x {s = s} p a = record { says = λ e k. (says_with x x p a).says e k ∙ or_self_left (same_var_id e.source x) (elem e.source s) }

-- N is retained, and the record is written
unfoldable pub retains_only : (N W : Work) (own-record : Record) (n m : ℕ) → Step
retains_only N W z n m = record { front = arranged (same_context (bindings W) (bindings N)) (bindings N) (bindings N) ++ (z ∷ []); context = N; in_scope_lem = n; max_id = m }

pub retains_steps : {w : ℕ} (z : Record) (W : Work) (n : ℕ) {N : Work} {out out' lengths lengths' : List ℕ} {p : Progress} {r : Stepped}
    → Emits w out out' lengths lengths' p r.progress (arranged (same_context (bindings W) (bindings N)) (bindings N) (bindings N) ++ (z ∷ []))
    → HoldsWork r.context N → r.in_scope ≡ n → r.progress.max_id ≡ p.max_id
    → Steps w out out' lengths lengths' p r (retains_only N W z n p.max_id)
unfolding retains_only
retains_steps z W n e h i m = record { emits = e; context = h; in_scope_lem = i; max_id = m }

-- the var is written as it is called in the context
pub print-steps : {w : ℕ} {record' : Record} (newline : Bool) (var : Identifier) {clauses mask more : ℕ} {W : Work} {n : ℕ} {out out' lengths lengths' : List ℕ} {p : Progress} {r : Stepped} {a : Identifier}
    → InPlaces W → record' ≡ print newline var → more ≡ with_places_lem var.id var.id W mask → a ≡ used W var
    → Steps w out out' lengths lengths' p r (retains_only (kept_by_mask more W) W (print newline a) n p.max_id)
    → StepsAs w record' clauses mask W n out out' lengths lengths' p r
unfolding step_print_i64 retains_only
print-steps {w} {record'} newline var {clauses} {mask} {more} {W} {n} {out} {out'} {lengths} {lengths'} {p} {r} {a} i e k f x =
    rw e record {
      steps = λ fc fn _ s.
          subst (Steps w out out' lengths lengths' p r)
          (ap (λ (y : Identifier). retains_only (kept_by_mask more W) W (print newline y) n p.max_id) f
          ∙ ap (λ (N : Work). retains_only N W (print newline (used W var)) n p.max_id)
          (ap (λ (m : ℕ). kept_by_mask m W) k ∙ kept-says (says-one var.id i s)))
          x;
    }
