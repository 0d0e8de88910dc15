-- What a Switch and a Create have in common: how many there are in their structs, when the context is right, and what was opened. Assumes nothing.
use Prim.Native.Nat.{ℕ}
use mathlib.Core.Path.{◌≡◌, sym, ◌∙◌}
use mathlib.Core.Bool.{false}
use lib.ListN.{length, length-map}
use Rattle.syntax.specs.Context.{Context, id_of, ids, same_context}
use Rattle.syntax.specs.Arrays.{Holds, SetHolds}
use Rattle.syntax.specs.declared.sets.IdSet.{IdSet}
use Rattle.syntax.specs.declared.context.TypingContext.{TypingContext}
use Rattle.syntax.proofs.Same.{same-lengths}
use Rattle.image_spec.specs.Records.{Record}
use Rattle.image_write_directory.specs.Emitting.{Progress}
use Rattle.pass_work_spec.specs.Work.{Work, bindings}
use Rattle.pass_work_spec.specs.declared.Entry.{Entry}
use Rattle.pass_context.specs.Holding.{work_of}
use Rattle.pass_context.proofs.Counts.{work-count}
use Rattle.pass_context.specs.declared.Held.{Held}
use Rattle.pass_step.specs.Stepping.{OpensAs, OpenedAs, Opened}

-- ── how many there are ──

-- as many bindings as entries
pub bindings-count : (h : Held) → length (bindings (work_of h)) ≡ h.len
bindings-count h = length-map (work_of h) (λ (e : Entry). e.binding) ∙ sym (work-count h)

-- .. in a list of them
pub held-count : (h : Held) {c : TypingContext} → Holds c (bindings (work_of h)) → c.len ≡ h.len
held-count h b = b.count ∙ bindings-count h

-- .. and as many IDs
pub ids-count : (h : Held) {s : IdSet} → SetHolds s (ids (bindings (work_of h))) → s.len ≡ h.len
ids-count h k = k.count ∙ length-map (bindings (work_of h)) id_of ∙ bindings-count h

-- ── when the context is right ──

-- the lengths are compared first: a context of another length is not right
pub other_length : (held : Held) {m : ℕ} (Γ : Context) → length Γ ≡ m → (held.len ≡ m → ⊥) → same_context (bindings (work_of held)) Γ ≡ false
other_length held Γ e h = same-lengths (bindings (work_of held)) Γ (λ d. h (sym (bindings-count held) ∙ d ∙ e))

-- ── what was opened ──

-- the clauses have their context, and the place for what stands before them is no longer asked for
pub opened_as : {w : ℕ} {record' : Record} {clauses next : ℕ} {W : Work} {p : Progress} {r : Opened} → OpensAs w record' clauses next W p r → OpenedAs record' clauses next W r
opened_as h = record { context = λ fc fn s t. (h.opens fc fn s t).context; right = λ fc fn s t. (h.opens fc fn s t).right }
