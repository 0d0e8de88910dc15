-- `put_invoke` meets its contract. Assumes nothing.
use Prim.Native.Nat.{ℕ}
use mathlib.Core.List.{◌∷◌, [], ◌++◌}
use native.Mathlib.Omega.{arith}
use Rattle.image_spec.specs.Fields.{identifier_bytes, type_bytes}
use Rattle.image_spec.specs.Records.{record_bytes}
use Rattle.image_spec.proofs.FieldLaws.{identifier-length, type-length}
use Rattle.image_write_parts.proofs.WriterLaws.{wrote_then, wrote_next}
use Rattle.image_write_records.proofs.records.put_invoke.Goals as goal

pub identifier-requires : goal.identifier-requires
identifier-requires c = omega (arith, identifier-length)

pub ty-requires : goal.ty-requires
ty-requires c = omega (arith, identifier-length)

pub byte-requires : goal.byte-requires
byte-requires c = omega (arith, identifier-length, type-length)

pub returns : goal.returns
unfolding record_bytes
returns c =
    let a = c.args in
    let last = wrote_then {xs = type_bytes c.identifier.new.self.id a.ty} c.ty.ensures c.byte.ensures in
    let after = wrote_next {xs = identifier_bytes c.put_named.new.writer.id a.tag} (λ (k : ℕ). type_bytes k a.ty ++ 0 ∷ []) c.identifier.ensures last in
    wrote_next {xs = 7 ∷ identifier_bytes a.writer.now.id a.var} (λ (k : ℕ). identifier_bytes k a.tag ++ (type_bytes k a.ty ++ 0 ∷ [])) c.put_named.ensures after
