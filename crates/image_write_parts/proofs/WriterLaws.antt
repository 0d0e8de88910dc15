-- Laws of what a writer writes: equal bytes, one run of bytes after another. Assumes nothing.
use Prim.Native.Nat.{ℕ}
use mathlib.Core.List.{List, ◌++◌}
use mathlib.Core.Path.{◌≡◌, ap, ◌∙◌}
use Rattle.image_write_parts.specs.Written.{Wrote}
use Rattle.image_write_parts.specs.declared.writer.Writer.{Writer}
use Rattle.image_write_parts.proofs.Putting.{puts_as, puts_then}

-- equal bytes
pub wrote_as : {w w' : Writer} {xs ys : List ℕ} → xs ≡ ys → Wrote w w' xs → Wrote w w' ys
wrote_as e p = record { puts = puts_as e p.puts; id = p.id; same = p.same }

-- one run of bytes after another
pub wrote_then : {u v w : Writer} {xs ys : List ℕ} → Wrote u v xs → Wrote v w ys → Wrote u w (xs ++ ys)
wrote_then p q = record { puts = puts_then p.puts q.puts; id = q.id ∙ p.id; same = q.same ∙ p.same }

-- .. where the bytes of the second depend on how many an ID has
pub wrote_next : {u v w : Writer} {xs : List ℕ} (f : ℕ → List ℕ) → Wrote u v xs → Wrote v w (f v.id) → Wrote u w (xs ++ f u.id)
wrote_next f p q = wrote_then p (wrote_as (ap f p.id) q)
