-- What stands before a body: the record read and written as it is, and its parameters in the context. Assumes nothing.
use Prim.Native.Nat.{ℕ, ◌+◌}
use mathlib.Core.Path.{◌≡◌, refl, sym, ap, ◌∙◌, subst}
use mathlib.Core.Bool.{Bool, cond}
use mathlib.Core.List.{List, ◌∷◌, ◌++◌}
use mathlib.Core.Logic.{inl, inr}
use native.Mathlib.Omega.{arith}
use Rattle.syntax.specs.Arrays.{context_of}
use Rattle.syntax.specs.Context.{Context}
use Rattle.image_spec.specs.Fields.{identifier_bytes, list_bytes}
use Rattle.image_spec.specs.Records.{Record, record_bytes}
use Rattle.image_spec.specs.Kinds.{kind_of}
use Rattle.image_directory.specs.declared.Frame.{Frame}
use Rattle.image_write_parts.specs.Puts.{Puts}
use Rattle.image_write_parts.proofs.Putting.{puts_as}
use Rattle.image_write_directory.specs.Emitting.{Noted, Progress}
use Rattle.image_write_directory.proofs.EmitLaws.{emits_one}
use Rattle.image_read_parts.specs.Parts.{list_of}
use Rattle.image_read_nodes.specs.Nodes.{first_of}
use Rattle.pass_records.specs.Unpacked.{NamedAt, NamedIs}
use Rattle.pass_records.specs.declared.NameAndList.{NameAndList}
use Rattle.pass_records.proofs.MadeLaws.{made_of}
use Rattle.pass_records.proofs.ListPlaces.{named-at}
use Rattle.pass_work_spec.specs.Work.{Work, owns}
use Rattle.pass_context.specs.Holding.{HoldsWork}
use Rattle.pass_step.specs.Stepping.{SourceAt, Steps, Stepped}
use Rattle.pass_clause.specs.Entering.{Enters, entering}
use Rattle.pass_step.proofs.StepLaws.{source_as}

-- it is an identifier and a list that an array has room for
pub enters-named : {g : Frame} {s : List ℕ} {i kind : ℕ} → Enters kind → SourceAt g s i kind → NamedAt g s i
enters-named (inl e) a = let b = source_as 1 e a in named-at 1 b.at refl refl (omega arith) refl b.small
enters-named (inr e) a = let b = source_as 11 e a in named-at 11 b.at refl refl (omega arith) refl b.small

-- it is written as its kind, its identifier and its list
pub enters-bytes : {kind : ℕ} (w : ℕ) (r : Record) → Enters kind → kind_of r ≡ kind → record_bytes w r ≡ kind ∷ (identifier_bytes w (first_of r) ++ list_bytes w (list_of r))
unfolding record_bytes
enters-bytes w r (inl e) k = ap (record_bytes w) (made_of r 1 (k ∙ e)) ∙ ap (λ (z : ℕ). z ∷ (identifier_bytes w (first_of r) ++ list_bytes w (list_of r))) (sym e)
enters-bytes w r (inr e) k = ap (record_bytes w) (made_of r 11 (k ∙ e)) ∙ ap (λ (z : ℕ). z ∷ (identifier_bytes w (first_of r) ++ list_bytes w (list_of r))) (sym e)

pub enters : {w kind : ℕ} {r : Record} {before : Bool} (b : Bool) (W : Work) (n : ℕ) {out out' lengths lengths' : List ℕ} {p : Progress} {next : ℕ} {a : NameAndList} {x : Stepped}
    → Enters kind → kind_of r ≡ kind → NamedIs a r → before ≡ b
    → Puts out out' p.at next (kind ∷ (identifier_bytes w a.name ++ list_bytes w (context_of a.list))) → Noted x.progress p next lengths lengths'
    → HoldsWork x.context (cond b (owns n (context_of a.list) ++ W) (W ++ owns n (context_of a.list))) → x.in_scope ≡ n + a.list.len
    → Steps w out out' lengths lengths' p x (entering r before W n p.max_id)
unfolding entering
enters {w} {kind} {r} b W n {x = x} k e a t u m h s = rw t record {
  emits = emits_one r (puts_as ((λ i. kind ∷ (identifier_bytes w (a.name i) ++ list_bytes w (a.list.list i))) ∙ sym (enters-bytes w r k e)) u) m;
  context = subst (λ (Γ : Context). HoldsWork x.context (cond b (owns n Γ ++ W) (W ++ owns n Γ))) a.list.list h;
  in_scope_lem = s ∙ ap (λ (l : ℕ). n + l) a.list.count;
  max_id = m.max_id;
}
