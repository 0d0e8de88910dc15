-- `put_literal` meets its contract. Assumes nothing.
use Prim.Native.Nat.{ℕ}
use mathlib.Core.List.{◌∷◌, [], ◌++◌}
use mathlib.Core.Path.{ap}
use Rattle.image_spec.specs.Fields.{integer_bytes, identifier_bytes}
use Rattle.image_spec.specs.Records.{record_bytes}
use Rattle.std.proofs.lemmas.Int.{to_z-of_z}
use mir.Syntax.{w64}
use Rattle.image_write_parts.proofs.WriterLaws.{wrote_as, wrote_next}
use Rattle.image_write_records.proofs.records.put_literal.Goals as goal

pub returns : goal.returns
unfolding record_bytes
returns c =
    let a = c.args in
    let number = wrote_as (ap integer_bytes (to_z-of_z w64 a.lit c.ranges.lit)) c.integer.ensures in
    let after = wrote_next {xs = integer_bytes a.lit} (λ (k : ℕ). identifier_bytes k a.var) number c.identifier.ensures in
    wrote_next {xs = 8 ∷ []} (λ (k : ℕ). integer_bytes a.lit ++ identifier_bytes k a.var) c.byte.ensures after
