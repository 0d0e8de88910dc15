-- `put_headed` meets its contract. Assumes nothing.
use Prim.Native.Nat.{ℕ}
use mathlib.Core.List.{◌∷◌}
use native.Mathlib.Omega.{arith}
use Rattle.syntax.specs.Arrays.{context_of}
use Rattle.image_spec.specs.Fields.{identifier_bytes, list_bytes}
use Rattle.image_spec.proofs.FieldLaws.{identifier-length}
use Rattle.image_write_parts.proofs.WriterLaws.{wrote_next}
use Rattle.image_kinds.specs.Codes.{code_of}
use Rattle.image_write_records.proofs.records.put_headed.Goals as goal

pub put_list-requires : goal.put_list-requires
put_list-requires c = omega (arith, identifier-length)

pub returns : goal.returns
returns c =
    let a = c.args in
    wrote_next {xs = code_of a.kind ∷ identifier_bytes a.writer.now.id a.x} (λ (k : ℕ). list_bytes k (context_of a.context)) c.put_named.ensures c.put_list.ensures
