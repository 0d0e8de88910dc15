-- What a caller has after a call of `axcut_linearize` that answers 0, by its contract alone (`Told (linearize_call ..)`): `answered`: the first
-- `length` bytes of the buffer are the output, and the others are as before; `answer-reads`: they read back as the linearized program, and no
-- other image does; `answer-runs`: demand 3 of the image that was given and of these bytes. Assumes nothing.
use Prim.Native.Nat.{ℕ, ◌≤◌}
use mathlib.Core.Path.{◌≡◌, refl, sym, ap, ◌∙◌, subst}
use mathlib.Core.List.{List, ◌++◌}
use native.Mathlib.Omega.{arith}
use native.Mathlib.Nat.{zero-add}
use lib.ListN.{length, take, drop}
use lib.Seq.{sets, sets-eq, take_at, drop_at}
use Rattle.model.specs.Syntax.{Prog}
use Rattle.model.specs.Pass.{linearize}
use Rattle.model.specs.Machine.{Given}
use Rattle.model.specs.Source.{source_start}
use Rattle.model.specs.Linear.{linear_start}
use Rattle.model.specs.Demand3.{Starts}
use Rattle.image_spec.specs.declared.Refusal.{Refusal}
use Rattle.image_spec.specs.declared.Refusal.TheVariants.{Size, LayoutNumber, Directory, RecordForm, Shape, Linearized, Limits, Binders, Scope, MaxId, Draws, Room, Place}
use Rattle.image_spec.specs.Layout.{layout1}
use Rattle.image_spec.specs.Answers.{number_of}
use Rattle.image_spec.specs.Reading.{accept, reading}
use Rattle.scope_spec.specs.Calls.{Reply, refuses, writes, Told}
use Rattle.pass_answer_spec.specs.Calls.{linearize_of, linearize_call}
use Rattle.pass_answer_spec.proofs.Readable.{Output, output_reads}
use Rattle.pass_answer_spec.proofs.OnBytes.{demand_3_on_bytes}

-- the call wrote these bytes
pub record Answered (s before after : List ℕ) (size m : ℕ) : Type 0 where
  pub wrote : linearize_of layout1 s (length before) ≡ writes (take size after) m
  pub behind : drop size after ≡ drop size before

-- no refusal is 0
refused_nonzero : (q : Refusal) → 0 ≡ number_of q → ⊥
refused_nonzero Size e = omega (arith, e)
refused_nonzero LayoutNumber e = omega (arith, e)
refused_nonzero Directory e = omega (arith, e)
refused_nonzero RecordForm e = omega (arith, e)
refused_nonzero Shape e = omega (arith, e)
refused_nonzero Linearized e = omega (arith, e)
refused_nonzero Limits e = omega (arith, e)
refused_nonzero Binders e = omega (arith, e)
refused_nonzero Scope e = omega (arith, e)
refused_nonzero MaxId e = omega (arith, e)
refused_nonzero Draws e = omega (arith, e)
refused_nonzero Room e = omega (arith, e)
refused_nonzero Place e = omega (arith, e)

module _ (s before after : List ℕ) (size m : ℕ) (t : Told (linearize_call s before) 0 size m before after) where
  pub answered : Answered s before after size m
  unfolding linearize_call
  answered = go (linearize_of layout1 s (length before)) refl t
    where
      go : (R : Reply) → linearize_of layout1 s (length before) ≡ R → Told R 0 size m before after → Answered s before after size m
      go (refuses q) e t = absurd (refused_nonzero q t.reports.number_is)
      go (writes bytes top) e t =
          let k : size ≡ length bytes = t.reports.length_is in
          let fits : length bytes ≤ length before = (output_reads s (length before) bytes top e).fits in
          let all : after ≡ bytes ++ drop size before = t.leaves ∙ (sets-eq bytes before 0 (omega (arith, fits)) ∙ ap (λ (n : ℕ). bytes ++ drop n before) (zero-add (length bytes) ∙ sym k)) in
          record {
            wrote = e ∙ rw (all, take_at bytes (drop size before) size (sym k), t.reports.max_id_is) refl;
            behind = ap (drop size) all ∙ drop_at bytes (drop size before) size (sym k);
          }

  -- the output satisfies questions 1 to 5, reads back as the linearized program with the closing max_id, and no other image does
  pub answer-reads : Output s (length before) (take size after) m
  answer-reads = output_reads s (length before) (take size after) m answered.wrote

  -- demand 3: every definition place and all start values
  pub answer-runs : (P Q : Prog) → reading layout1 s ≡ accept P → reading layout1 (take size after) ≡ accept Q
      → (place : ℕ) (vs : List Given) → (Q ≡ linearize P) × Starts P (source_start P place vs) (linear_start Q place vs)
  answer-runs = demand_3_on_bytes s (take size after) (length before) m answered.wrote
