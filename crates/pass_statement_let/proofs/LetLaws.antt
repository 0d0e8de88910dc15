-- The step of a Let: its arguments as they are written, under fresh names unless the context is right, and what is written. Assumes nothing.
use Prim.Native.Nat.{ℕ, ◌+◌}
use mathlib.Core.Path.{◌≡◌, ap, ◌∙◌, subst}
use mathlib.Core.Bool.{Bool}
use mathlib.Core.List.{List, [], ◌∷◌, ◌++◌}
use Rattle.syntax.specs.Context.{Context, ids, same_context}
use Rattle.syntax.specs.Arrays.{context_of, set_of, Holds, SetHolds, Freshens}
use Rattle.syntax.specs.declared.names.Identifier.{Identifier}
use Rattle.syntax.specs.declared.context.Chirality.TheVariants.{Prd}
use Rattle.syntax.specs.declared.context.TypingContext.{TypingContext}
use Rattle.syntax.specs.declared.context.Freshened.{Freshened}
use Rattle.syntax.specs.declared.sets.IdSet.{IdSet}
use Rattle.syntax.specs.declared.types.Ty.{Ty}
use Rattle.model.specs.Rules.{bind, freshen_unless_lem}
use Rattle.image_spec.specs.Records.{Record, let', record_bytes}
use Rattle.image_write_parts.specs.Puts.{Puts}
use Rattle.image_write_directory.specs.Emitting.{Noted, Progress}
use Rattle.pass_work_spec.specs.Work.{Work, bindings, kept, own, used_all_lem}
use Rattle.pass_context.specs.Holding.{work_of, HoldsWork}
use Rattle.pass_entries.specs.Masks.{kept_by_mask}
use Rattle.pass_context.specs.declared.Held.{Held}
use Rattle.pass_step_spec.specs.Steps.{arranged, step_let}
use Rattle.pass_step.specs.Drawn.{drawn_to}
use Rattle.pass_step.specs.Stepping.{Arranges, StepsAs, Stepped}
use Rattle.pass_step.proofs.StepLaws.{kept-says, arranged_then, emits_as}

pub let_steps : {w : ℕ} {record' : Record} (var : Identifier) (ty : Ty) (tag : Identifier) (args : Context) {clauses mask : ℕ} (W : Work) (n : ℕ) {out mid out' lengths middle lengths' : List ℕ} {p q z : Progress}
    {next : ℕ} {r : Stepped} {new : Held} {a : TypingContext} {d : IdSet} {right : Bool} (f : Freshened)
    → record' ≡ let' var ty tag args → HoldsWork new (kept_by_mask mask W) → Holds a (used_all_lem W args) → SetHolds d (ids (bindings (work_of new)))
    → right ≡ same_context (bindings W) (bindings (work_of new) ++ context_of a) → Freshens f (freshen_unless_lem right (context_of a) (set_of d) p.max_id)
    → Arranges w out mid lengths middle p q (arranged right (bindings (work_of new) ++ context_of f.context) (bindings (work_of new) ++ context_of a))
    → Puts mid out' q.at next (record_bytes w (let' var ty tag (context_of f.context))) → Noted z q next middle lengths'
    → HoldsWork r.context (work_of new ++ (own n (bind var Prd ty) ∷ [])) → r.in_scope ≡ n + 1 → r.progress ≡ drawn_to z f.max_id.0
    → StepsAs w record' clauses mask W n out out' lengths lengths' p r
unfolding step_let
let_steps {w} {record'} var ty tag args {clauses} {mask} W n {out} {mid} {out'} {lengths} {middle} {lengths'} {p} {q} {z} {next} {r} {new} {a} {d} {right} f e h l s t u v x m i j o =
    rw e record {
      steps = λ fc fn _ y.
          let N = kept fn W in
          let A = used_all_lem W args in
          let g : work_of new ≡ N = h.list ∙ kept-says y in
          let D : set_of d ≡ ids (bindings N) = s.list ∙ ap (λ (b : Work). ids (bindings b)) g in
          let R = same_context (bindings W) (bindings N ++ A) in
          let same : right ≡ R = cc (t, g, l.list) in
          let F = freshen_unless_lem R A (ids (bindings N)) p.max_id in
          let fl : context_of f.context ≡ F.0 = cc (u.holds.list, same, l.list, D) in
          let front : arranged right (bindings (work_of new) ++ context_of f.context) (bindings (work_of new) ++ context_of a) ++ (let' var ty tag (context_of f.context) ∷ [])
          ≡ arranged R (bindings N ++ F.0) (bindings N ++ A) ++ (let' var ty tag F.0 ∷ []) = cc (same, fl, g, l.list) in
          let max : f.max_id.0 ≡ F.1 = cc (u.max, same, l.list, D) in
          record {
            emits = emits_as front (ap (λ (b : Progress). b.at) o) (ap (λ (b : Progress). b.count) o) (arranged_then (let' var ty tag (context_of f.context)) v x m);
            context = subst (λ (b : Work). HoldsWork r.context (b ++ (own n (bind var Prd ty) ∷ []))) g i;
            in_scope_lem = j;
            max_id = ap (λ (b : Progress). b.max_id) o ∙ max;
          };
    }
