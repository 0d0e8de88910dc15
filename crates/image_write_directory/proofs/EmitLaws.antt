-- Laws of records that are written: none, one, one in an output, some after others, and some at a place that was kept free. Assumes nothing.
use Prim.Native.Nat.{ℕ, ◌+◌, ◌-◌}
use mathlib.Core.Path.{◌≡◌, refl, sym, ap, ◌∙◌, subst}
use mathlib.Core.List.{List, [], ◌∷◌, ◌++◌, append-nil}
use native.Mathlib.Omega.{arith}
use lib.ListN.{length, length-map}
use Rattle.image_spec.specs.Parse.{each}
use Rattle.image_spec.specs.Records.{Record, record_bytes}
use Rattle.image_spec.specs.Image.{entries_of}
use Rattle.image_spec.specs.declared.Layout.{Layout}
use Rattle.image_spec.proofs.ListLaws.{each_append}
use Rattle.image_write_parts.specs.Puts.{Puts}
use Rattle.image_write_parts.specs.Written.{Wrote}
use Rattle.image_write_parts.specs.declared.writer.Writer.{Writer}
use Rattle.image_write_parts.proofs.Putting.{puts_none, puts_as, puts_then, puts_reserved}
use Rattle.image_write_directory.specs.Emitting.{sizes_of, Emits, Noted, entries_from, Progress}
use Rattle.image_write_directory.specs.Outputs.{Keeps}
use Rattle.image_write_directory.specs.declared.output.Output.{Output}

pub sizes_append : (w : ℕ) (R S : List Record) → sizes_of w (R ++ S) ≡ sizes_of w R ++ sizes_of w S
sizes_append w [] S = refl
sizes_append w (r ∷ R) S = ap (λ (z : List ℕ). length (record_bytes w r) ∷ z) (sizes_append w R S)

pub emits_none : (w : ℕ) (out lengths : List ℕ) (p : Progress) → Emits w out out lengths lengths p p []
emits_none w out lengths p = record { bytes = puts_none out p.at; noted = puts_none lengths p.count }

pub emits_one : {w : ℕ} {out out' lengths lengths' : List ℕ} {p q : Progress} {next : ℕ} (r : Record) → Puts out out' p.at next (record_bytes w r) → Noted q p next lengths lengths'
    → Emits w out out' lengths lengths' p q (r ∷ [])
emits_one {w} {out} {out'} {lengths} {lengths'} {p} {q} {next} r a n =
    let k : next - p.at ≡ length (record_bytes w r) = omega (arith, a.ends) in
    record {
      bytes = subst (λ (z : ℕ). Puts out out' p.at z (record_bytes w r ++ [])) (sym n.at) (puts_as (sym (append-nil (record_bytes w r))) a);
      noted = puts_as (ap (λ (z : ℕ). z ∷ []) k) n.puts;
    }

-- ---- in an output

pub keeps_same : (o : Output) → Keeps o o
keeps_same o = record { id = refl; out = refl; lengths = refl }

pub keeps_then : {a b c : Output} → Keeps a b → Keeps b c → Keeps a c
keeps_then p q = record { id = q.id ∙ p.id; out = q.out ∙ p.out; lengths = q.lengths ∙ p.lengths }

-- its writer wrote
pub keeps_wrote : (o : Output) {w' : Writer} {bytes : List ℕ} → Wrote o.writer w' bytes → Keeps o (record o { writer = w' })
keeps_wrote o p = record { id = p.id; out = p.same; lengths = refl }

-- ---- more than one record

pub emits_then : {w : ℕ} {a b c d e f : List ℕ} {p q r : Progress} {R S : List Record} → Emits w a b d e p q R → Emits w b c e f q r S → Emits w a c d f p r (R ++ S)
emits_then {w} {R = R} {S = S} x y = record {
  bytes = puts_as (sym (each_append (record_bytes w) R S)) (puts_then x.bytes y.bytes);
  noted = puts_as (sym (sizes_append w R S)) (puts_then x.noted y.noted);
}

-- as many more as were written
pub emits-count : {w : ℕ} {out out' lengths lengths' : List ℕ} {p q : Progress} {R : List Record} → Emits w out out' lengths lengths' p q R → q.count ≡ p.count + length R
emits-count {w = w} {p = p} {R = R} e = e.noted.ends ∙ ap (λ (k : ℕ). p.count + k) (length-map R (λ (r : Record). length (record_bytes w r)))

-- S was written behind a place for R, and then R there. (What R leads to is not where the writing goes on.)
pub emits_reserved : {w : ℕ} {a b c d e f : List ℕ} {p free q r : Progress} {R S : List Record}
    → free.at ≡ p.at + length (each (record_bytes w) R) → free.count ≡ p.count + length R
    → Emits w a b d e free q S → Emits w b c e f p r R → Emits w a c d f p q (R ++ S)
emits_reserved {w} {a} {b} {c} {d} {e} {f} {p} {free} {q} {r} {R} {S} x y s t = record {
  bytes = puts_as (sym (each_append (record_bytes w) R S)) (puts_reserved {k = length (each (record_bytes w) R)} refl (subst (λ (z : ℕ). Puts a b z q.at (each (record_bytes w) S)) x s.bytes) t.bytes);
  noted = puts_as (sym (sizes_append w R S)) (puts_reserved {k = length R} (length-map R (λ (z : Record). length (record_bytes w z))) (subst (λ (z : ℕ). Puts d e z q.count (sizes_of w S)) y s.noted) t.noted);
}

-- the directory by the lengths
pub entries_sizes : (L : Layout) (at : ℕ) (R : List Record) → entries_of L at R ≡ entries_from at (sizes_of L.id R)
entries_sizes L at [] = refl
entries_sizes L at (r ∷ R) = ap (λ z. (at, length (record_bytes L.id r)) ∷ z) (entries_sizes L (at + length (record_bytes L.id r)) R)
