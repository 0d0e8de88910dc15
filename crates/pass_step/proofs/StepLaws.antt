-- What the masks say, what structs hold, and the step of each statement from what its code did. Assumes nothing.
use Prim.Native.Nat.{ℕ, ◌+◌, ◌≤◌}
use mathlib.Core.Path.{◌≡◌, sym, ap, ◌∙◌, subst}
use mathlib.Core.List.{List, [], ◌∷◌, ◌++◌}
use native.Mathlib.Omega.{arith}
use lib.ListN.{length, length-map}
use Rattle.syntax.specs.Context.{Context}
use Rattle.syntax.specs.Arrays.{context_of, Holds}
use Rattle.syntax.specs.Sets.{elem}
use Rattle.syntax.specs.declared.names.VarId.{VarId}
use Rattle.syntax.specs.declared.context.TypingContext.{TypingContext}
use Rattle.syntax.specs.declared.context.ContextBinding.{ContextBinding}
use Rattle.image_directory.specs.declared.Frame.{Frame}
use Rattle.image_spec.specs.Parse.{each}
use Rattle.image_spec.specs.Records.{Record, record_bytes}
use Rattle.image_write_parts.specs.Puts.{Puts}
use Rattle.image_write_directory.specs.Emitting.{sizes_of, Emits, Noted, Progress}
use Rattle.image_write_directory.proofs.EmitLaws.{emits_one, emits_then}
use Rattle.pass_work_spec.specs.Work.{Work, bindings, kept}
use Rattle.pass_work_spec.specs.declared.Entry.{Entry}
use Rattle.pass_work_spec.proofs.Lists.{filtered-same}
use Rattle.pass_context.specs.Holding.{work_of, HoldsWork}
use Rattle.pass_entries.specs.Masks.{in_mask, kept_by_mask}
use Rattle.pass_context.proofs.Counts.{work-count}
use Rattle.pass_context.specs.declared.Held.{Held}
use Rattle.pass_entries.proofs.MaskLaws.{mask_fewer}
use Rattle.pass_step.specs.Stepping.{Says, Arranges, SourceAt, Workable}

-- ── masks and structs ──

-- what the mask retains is what the set retains
pub kept-says : {mask : ℕ} {s : List VarId} {W : Work} → Says mask s W → kept_by_mask mask W ≡ kept s W
kept-says {mask} {s} {W} a = filtered-same (in_mask mask) (λ (e : Entry). elem e.source s) W a.says

-- ── what is written ──

-- a Substitute where the context is not right, and then the statement's own record
pub arranged_then : {w : ℕ} {out mid out' lengths middle lengths' : List ℕ} {p q r : Progress} {next : ℕ} {R : List Record} (own : Record) → Arranges w out mid lengths middle p q R
    → Puts mid out' q.at next (record_bytes w own) → Noted r q next middle lengths' → Emits w out out' lengths lengths' p r (R ++ (own ∷ []))
arranged_then own a b n = emits_then a.emits (emits_one own b n)

-- what is retained has room for what is bound
pub kept-room : {held : Held} {n k : ℕ} → Workable held n k → (mask : ℕ) {new : Held} → HoldsWork new (kept_by_mask mask (work_of held)) → new.len + k ≤ 64
kept-room {held} a mask h = omega (arith, h.count, mask_fewer mask (work_of held), work-count held, a.room)

-- the same records, in another struct with the same place and count
pub emits_as : {w : ℕ} {out out' lengths lengths' : List ℕ} {p q r : Progress} {R S : List Record} → R ≡ S → r.at ≡ q.at → r.count ≡ q.count → Emits w out out' lengths lengths' p q R → Emits w out out' lengths lengths' p r S
emits_as {w} {out} {out'} {lengths} {lengths'} {p} {q} {r} {R} {S} e at count x =
    subst (Emits w out out' lengths lengths' p r) e record {
      bytes = subst (λ (z : ℕ). Puts out out' p.at z (each (record_bytes w) R)) (sym at) x.bytes;
      noted = subst (λ (z : ℕ). Puts lengths lengths' p.count z (sizes_of w R)) (sym count) x.noted;
    }

-- one binding, pushed on the empty context
pub holds-one : {none c : TypingContext} {b : ContextBinding} → Holds none [] → Holds c (context_of none ++ (b ∷ [])) → Holds c (b ∷ [])
holds-one {c = c} {b = b} n h = subst (λ (Γ : Context). Holds c (Γ ++ (b ∷ []))) n.list h

-- the record, by its kind
pub source_as : {g : Frame} {s : List ℕ} {i kind : ℕ} (k : ℕ) → kind ≡ k → SourceAt g s i kind → SourceAt g s i k
source_as {g} {s} {i} k e a = subst (λ (z : ℕ). SourceAt g s i z) e a
