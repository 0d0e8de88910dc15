-- `put_typed` meets its contract. Assumes nothing.
use Prim.Native.Nat.{ℕ}
use mathlib.Core.List.{◌∷◌}
use native.Mathlib.Omega.{arith}
use Rattle.image_spec.specs.Fields.{identifier_bytes, type_bytes}
use Rattle.image_spec.proofs.FieldLaws.{identifier-length}
use Rattle.image_write_parts.proofs.WriterLaws.{wrote_next}
use Rattle.image_kinds.specs.Codes.{code_of}
use Rattle.image_write_records.proofs.records.put_typed.Goals as goal

pub ty-requires : goal.ty-requires
ty-requires c = omega (arith, identifier-length)

pub returns : goal.returns
returns c =
    let a = c.args in
    wrote_next {xs = code_of a.kind ∷ identifier_bytes a.writer.now.id a.var} (λ (k : ℕ). type_bytes k a.ty) c.put_named.ensures c.ty.ensures
