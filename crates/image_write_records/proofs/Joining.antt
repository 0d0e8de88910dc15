-- The parts of records behind one another: how many bytes they have, and a kind with a var and its type before the others. Assumes nothing.
use Prim.Native.Nat.{ℕ, ◌+◌, ◌*◌, ◌≤◌}
use mathlib.Core.List.{List, [], ◌∷◌, ◌++◌, append_assoc}
use mathlib.Core.Path.{◌≡◌, ap, ◌∙◌}
use native.Mathlib.Omega.{arith}
use lib.ListN.{length, length-append, length-take}
use Rattle.syntax.specs.Context.{Context}
use Rattle.syntax.specs.Arrays.{bindings_in, context_of}
use Rattle.syntax.specs.declared.names.Identifier.{Identifier}
use Rattle.syntax.specs.declared.types.Ty.{Ty}
use Rattle.syntax.specs.declared.context.TypingContext.{TypingContext}
use Rattle.image_spec.specs.Parse.{each}
use Rattle.image_spec.specs.Fields.{identifier_bytes, type_bytes, binding_bytes, list_bytes}
use Rattle.image_spec.proofs.FieldLaws.{identifier-length, type-length, binding-length}
use Rattle.image_write_parts.specs.Written.{Wrote}
use Rattle.image_write_parts.specs.declared.writer.Writer.{Writer}
use Rattle.image_write_parts.proofs.WriterLaws.{wrote_as, wrote_next}

module _ (w : ℕ) where
  pub typed-length : (x : Identifier) (t : Ty) → length (identifier_bytes w x ++ type_bytes w t) ≡ 5 + (w + w)
  typed-length x t = length-append (identifier_bytes w x) (type_bytes w t) ∙ rw (identifier-length w x, type-length w t) (omega arith)

  bindings-length : (Γ : Context) → w ≤ 8 → length (each (binding_bytes w) Γ) ≤ 22 * length Γ
  bindings-length [] h = omega arith
  bindings-length (b ∷ Γ) h =
      omega (arith, length-append (binding_bytes w b) (each (binding_bytes w) Γ), binding-length w b, bindings-length Γ h, h)

  pub list_length : (c : TypingContext) → w ≤ 8 → length (list_bytes w (context_of c)) ≤ 1409
  list_length c h = omega (arith, bindings-length (context_of c) h, length-take c.len (bindings_in c), c.fits)

-- what follows a kind and two parts
pub then_others : {u v w : Writer} (k : ℕ) (xs ys : List ℕ) (f : ℕ → List ℕ) → Wrote u v (k ∷ (xs ++ ys)) → Wrote v w (f v.id)
    → Wrote u w (k ∷ (xs ++ (ys ++ f u.id)))
then_others {u} k xs ys f p q = wrote_as (ap (λ z. k ∷ z) (append_assoc xs ys (f u.id))) (wrote_next f p q)
