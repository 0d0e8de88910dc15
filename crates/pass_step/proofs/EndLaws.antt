-- The step of a statement that ends a body, a Call or an Invoke: its arguments are wanted, and something behind them. Assumes nothing.
use Prim.Native.Nat.{ℕ, ◌+◌}
use mathlib.Core.Path.{◌≡◌, sym, ap, ◌∙◌}
use mathlib.Core.Bool.{Bool, false}
use mathlib.Core.List.{List, [], ◌∷◌, ◌++◌}
use native.Mathlib.Omega.{arith}
use lib.ListN.{length, length-append, length-map}
use Rattle.syntax.specs.Context.{Context, same_context}
use Rattle.syntax.specs.Arrays.{set_of, context_of, Holds, SetHolds, Freshens}
use Rattle.syntax.specs.declared.names.VarId.{VarId}
use Rattle.syntax.specs.declared.sets.IdSet.{IdSet}
use Rattle.syntax.specs.declared.context.TypingContext.{TypingContext}
use Rattle.syntax.specs.declared.context.Freshened.{Freshened}
use Rattle.syntax.proofs.Same.{same-lengths}
use Rattle.model.specs.Rules.{freshen_unless_lem}
use Rattle.image_spec.specs.Records.{Record, record_bytes}
use Rattle.image_write_parts.specs.Puts.{Puts}
use Rattle.image_write_directory.specs.Emitting.{Noted, Progress}
use Rattle.pass_work_spec.specs.Work.{Work, bindings}
use Rattle.pass_work_spec.specs.declared.Entry.{Entry}
use Rattle.pass_step_spec.specs.Steps.{Step, arranged}
use Rattle.pass_step.specs.Stepping.{Arranges, Leaves}
use Rattle.pass_step.specs.Drawn.{drawn_to}
use Rattle.pass_step.proofs.StepLaws.{arranged_then, emits_as}

-- A is wanted, whose duplicates and clashes with C take fresh names, and B behind it; the context stays
abbrev pub end_step : Work → (A B : Context) (C : List VarId) → Record → (n m : ℕ) → Step
end_step W A B C own n m =
    let right = same_context (bindings W) (A ++ B) in
    let (freshened, m₁) = freshen_unless_lem right A C m in
    record { front = arranged right (freshened ++ B) (A ++ B) ++ (own ∷ []); context = W; in_scope_lem = n; max_id = m₁ }

-- is the context right? Where there are as many bindings as are wanted, they are compared
pub compared_right : (W : Work) (Γ : Context) {B : Context} {right same : Bool} {behind : TypingContext} → Holds behind B
    → same ≡ same_context (bindings W) (Γ ++ context_of behind) → right ≡ same → right ≡ same_context (bindings W) (Γ ++ B)
compared_right W Γ h s e = e ∙ s ∙ ap (λ (Δ : Context). same_context (bindings W) (Γ ++ Δ)) h.list

-- .. and where there are not, it is not
pub uncounted_right : (W : Work) (Γ B : Context) {n k : ℕ} {right : Bool} → n ≡ length W → k ≡ length Γ → (n ≡ k + length B → ⊥) → right ≡ false → right ≡ same_context (bindings W) (Γ ++ B)
uncounted_right W Γ B h l other e = e ∙ sym (same-lengths (bindings W) (Γ ++ B) (λ z. other (omega (arith, length-map W (λ (x : Entry). x.binding), length-append Γ B))))

pub end_leaves : {w : ℕ} (B : Context) (C : List VarId) (own : Record) (W : Work) (n : ℕ) {out mid out' lengths middle lengths' : List ℕ} {p q s t : Progress} {next : ℕ} {A : Context}
    {args : TypingContext} {clashes : IdSet} {right : Bool} {f : Freshened}
    → Holds args A → SetHolds clashes C → right ≡ same_context (bindings W) (context_of args ++ B) → Freshens f (freshen_unless_lem right (context_of args) (set_of clashes) p.max_id)
    → Arranges w out mid lengths middle p q (arranged right (context_of f.context ++ B) (context_of args ++ B))
    → Puts mid out' q.at next (record_bytes w own) → Noted s q next middle lengths' → t ≡ drawn_to s f.max_id.0
    → Leaves w out out' lengths lengths' p t (end_step W A B C own n p.max_id)
end_leaves B C own W n x z r h a u m e =
    record {
      emits = emits_as (cc (h.holds.list, r, x.list, z.list)) (ap (λ (y : Progress). y.at) e) (ap (λ (y : Progress). y.count) e) (arranged_then own a u m);
      max_id = ap (λ (y : Progress). y.max_id) e ∙ cc (h.max, r, x.list, z.list);
    }
