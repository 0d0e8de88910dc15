-- The step of a statement that retains a part of the context (`retained-emits`), with its own variables beside what its next needs (`says_with`);
-- and of one that binds a var behind that: a Literal's or an Op's (`binds-steps`). Assumes nothing.
use Prim.Native.Nat.{ℕ, ◌+◌}
use mathlib.Core.Path.{◌≡◌, ap, ◌∙◌, subst}
use mathlib.Core.Bool.{Bool}
use mathlib.Core.List.{List, [], ◌∷◌, ◌++◌}
use Rattle.syntax.specs.Context.{same_context}
use Rattle.syntax.specs.declared.names.VarId.{VarId}
use Rattle.syntax.specs.declared.context.ContextBinding.{ContextBinding}
use Rattle.image_spec.specs.Records.{Record, record_bytes}
use Rattle.image_write_parts.specs.Puts.{Puts}
use Rattle.image_write_directory.specs.Emitting.{Emits, Noted, Progress}
use Rattle.pass_work_spec.specs.Work.{Work, bindings, own}
use Rattle.pass_entries.specs.Masks.{with_places_lem, InPlaces}
use Rattle.pass_entries.proofs.MaskLaws.{places_say}
use Rattle.pass_context.specs.Holding.{work_of, HoldsWork}
use Rattle.pass_context.specs.declared.Held.{Held}
use Rattle.pass_step_spec.specs.Steps.{Step, arranged}
use Rattle.pass_step.specs.Stepping.{Says, Arranges, Steps, Stepped}
use Rattle.pass_step.proofs.StepLaws.{arranged_then}

-- with the places of two variables the mask says the set with these two
pub says_with : (fst snd : VarId) {mask : ℕ} {s : List VarId} {W : Work} → InPlaces W → Says mask s W → Says (with_places_lem fst snd W mask) (fst ∷ snd ∷ s) W
says_with fst snd {mask} {s} p a = record { says = places_say fst snd mask s p a.says }

-- N is retained, and the record is written
pub retained-emits : {w : ℕ} (z : Record) (W : Work) {N : Work} {out mid out' lengths middle lengths' : List ℕ} {p q r : Progress} {next : ℕ} {new : Held} {right : Bool}
    → HoldsWork new N → right ≡ same_context (bindings W) (bindings N) → Arranges w out mid lengths middle p q (arranged right (bindings (work_of new)) (bindings (work_of new)))
    → Puts mid out' q.at next (record_bytes w z) → Noted r q next middle lengths'
    → Emits w out out' lengths lengths' p r (arranged (same_context (bindings W) (bindings N)) (bindings N) (bindings N) ++ (z ∷ []))
retained-emits {w} z W {N} {out} {mid} {out'} {lengths} {middle} {lengths'} {p} {q} {r} {next} {new} {right} h t a u m =
    subst (Emits w out out' lengths lengths' p r)
    (ap (λ (v : Work). arranged right (bindings v) (bindings v) ++ (z ∷ [])) h.list
    ∙ ap (λ (v : Bool). arranged v (bindings N) (bindings N) ++ (z ∷ [])) t)
    (arranged_then z a u m)

-- N is retained, the record is written, and b is bound
unfoldable pub binds_behind : (N W : Work) (own-record : Record) (b : ContextBinding) (n m : ℕ) → Step
binds_behind N W z b n m = record { front = arranged (same_context (bindings W) (bindings N)) (bindings N) (bindings N) ++ (z ∷ []); context = N ++ (own n b ∷ []); in_scope_lem = n + 1; max_id = m }

pub binds-steps : {w : ℕ} (z : Record) (b : ContextBinding) (W : Work) (n : ℕ) {N : Work} {out mid out' lengths middle lengths' : List ℕ} {p q : Progress} {next : ℕ} {r : Stepped} {new : Held} {right : Bool}
    → HoldsWork new N → right ≡ same_context (bindings W) (bindings N) → Arranges w out mid lengths middle p q (arranged right (bindings (work_of new)) (bindings (work_of new)))
    → Puts mid out' q.at next (record_bytes w z) → Noted r.progress q next middle lengths'
    → HoldsWork r.context (work_of new ++ (own n b ∷ [])) → r.in_scope ≡ n + 1
    → Steps w out out' lengths lengths' p r (binds_behind N W z b n p.max_id)
unfolding binds_behind
binds-steps {w} z b W n {N} {out} {mid} {out'} {lengths} {middle} {lengths'} {p} {q} {next} {r} {new} {right} h t a u m x y =
    record {
      emits = retained-emits z W h t a u m;
      context = subst (λ (v : Work). HoldsWork r.context (v ++ (own n b ∷ []))) h.list x;
      in_scope_lem = y;
      max_id = m.max_id ∙ a.max_id;
    }
